use Rattle.std.proofs.Common.{◌≡◌, ◌≤◌, ◌/◌, [], List, ℕ, Some, length, take, sym, ◌∙◌, ap, subst, arith, length-take}
use Rattle.std.proofs.lemmas.Result.{on_ok_weaker, on_err_weaker}
use Rattle.tame_cache.specs.declared.calls.Change.TheVariants.{Write}
use Rattle.tame_cache.specs.Disk.{TornFile, content, with_piece, reads}
use Rattle.tame_cache.specs.Calls.{past_of}
use Rattle.tame_cache.proofs.Record.{after_same, noted_write, part_torn_file}
use Rattle.tame_cache.proofs.memory_disk.MemCacheDisk.write_half.Goals as goal

pub returns-else-is_err-clause-step : goal.returns-else-is_err-clause-step
returns-else-is_err-clause-step c =
    let path = c.args.path.now in
    let n = length c.args.piece.now in
    let front = take (n / 2) c.args.piece.now in
    let old = past_of path [] c.args.self.now.changes in
    let now = c.in-Ok.now.items in
    let bytes : c.content_of-old.result.now ≡ content (reads old) = c.content_of-old.ensures ∙ ap content c.current.ensures in
    let whole : now ≡ with_piece (content (reads old)) c.args.at front = c.in-Ok.ensures ∙ ap (λ (l : List ℕ). with_piece l c.args.at front) bytes in
    let within : c.args.at ≤ length (content (reads old)) = omega (arith, ap length bytes) in
    noted_write c.add-noted.result old (past_of path [] c.add-noted.new.self) c.args.at n (Some now)
    (on_ok_weaker c.add-noted.result (λ noted. noted path ∙ after_same path old (Write c.args.at n) (Some now)) c.add-noted.ensures.noted)
    (on_err_weaker c.add-noted.result (λ same. ap (λ l. past_of path [] l) same) c.add-noted.ensures.same)
    (subst (λ (l : List ℕ). TornFile c.args.at n (reads old) (Some l)) (sym whole) (part_torn_file (reads old) front c.args.at n within (omega (arith, length-take (n / 2) c.args.piece.now))))
