use Rattle.std.proofs.Common.{◌≡◌, ◌≤◌, length, sym, ◌∙◌, arith}
use Rattle.std.proofs.lemmas.Bool.Decides.{Decides-eqb}
use Rattle.std.specs.Vec.{vec_len}
use Rattle.tame_names.specs.Standing.{Host}
use Rattle.tame_local.specs.Registries.{bytes_at}
use Rattle.tame_local.proofs.FileDigests.{all_held, ends_at, ends_here, more_held, piece_before}
use Rattle.tame_local.proofs.file_digests.digest_at.Goals as goal

pub loop-from-preserved : goal.loop-from-preserved
loop-from-preserved g c =
    let so_far = c.loop-from.invariant in
    let piece = c.in_ok-piece.ensures in
    let path = c.args.path.now in
    let old : Host = g.F.Files.host c.args.files.now in
    let size : c.len.result ≡ length c.in_ok-piece.piece.items = omega (arith, c.len.ensures) in
    record {
      later = omega (arith, so_far.later, piece.cause.later);
      same = λ told. piece.same told ∙ so_far.same told;
      failed = λ told. piece.failed told ∙ so_far.failed told;
      low = omega (arith, size, piece.within, c.min.ensures, c.loop-from-test.true);
      holds = λ told. more_held (bytes_at path (old.stands path)) c.loop-from.from c.min.result c.len.result c.in_ok-piece.piece.items c.loop-from.hasher c.update.new.self
          (piece_before path _ _ _ old (g.F.Files.host c.loop-from.files) (so_far.same told) (piece.ok told)) size
          (rw c.as_slice.ensures.value at c.update.ensures) (so_far.holds told);
    }

pub returns-then-is_empty-clause-ok : goal.returns-then-is_empty-clause-ok
returns-then-is_empty-clause-ok g c = λ told.
    let so_far = c.loop-from.invariant in
    let path = c.args.path.now in
    let old : Host = g.F.Files.host c.args.files.now in
    let some : 1 ≤ c.min.result = omega (arith, c.min.ensures, c.loop-from-test.true) in
    let size : vec_len c.in_ok-piece.piece ≡ 0 = (Decides-eqb (vec_len c.in_ok-piece.piece) 0).0 (sym c.is_empty.ensures ∙ c.if-is_empty.true) in
    let none : length c.in_ok-piece.piece.items ≡ 0 = omega (arith, size) in
    all_held (bytes_at path (old.stands path)) c.loop-from.from c.in_ok-len.len c.loop-from.hasher c.finalize.result (c.in_ok-len.ensures.ok told) (so_far.holds told)
    (ends_here _ _ _ _ (piece_before path _ _ _ old (g.F.Files.host c.loop-from.files) (so_far.same told) (c.in_ok-piece.ensures.ok told)) some none)
    c.finalize.ensures

pub returns-clause-ok : goal.returns-clause-ok
returns-clause-ok g c = λ told.
    let so_far = c.loop-from.invariant in
    let path = c.args.path.now in
    let old : Host = g.F.Files.host c.args.files.now in
    all_held (bytes_at path (old.stands path)) c.loop-from.from c.in_ok-len.len c.loop-from.hasher c.finalize-2.result (c.in_ok-len.ensures.ok told) (so_far.holds told)
    (ends_at (bytes_at path (old.stands path)) c.loop-from.from c.in_ok-len.len (c.in_ok-len.ensures.ok told) c.loop-from-test.false) c.finalize-2.ensures
