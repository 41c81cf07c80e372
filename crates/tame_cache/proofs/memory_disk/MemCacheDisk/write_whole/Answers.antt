use Rattle.std.proofs.Common.{◌≡◌, ◌≤◌, [], List, ℕ, Some, length, sym, ◌∙◌, ap, subst, arith}
use Rattle.std.proofs.lemmas.Result.{on_ok_weaker, on_err_weaker}
use Rattle.tame_cache.specs.declared.calls.Change.TheVariants.{Write}
use Rattle.tame_cache.specs.Disk.{TornFile, content, with_piece, reads}
use Rattle.tame_cache.specs.Calls.{past_of}
use Rattle.tame_cache.proofs.Record.{after_same, noted_write, whole_torn_file}
use Rattle.tame_cache.proofs.memory_disk.MemCacheDisk.write_whole.Goals as goal

pub returns-in-Ok-clause-step : goal.returns-in-Ok-clause-step
returns-in-Ok-clause-step c =
    let path = c.args.path.now in
    let piece = c.args.piece.now in
    let old = past_of path [] c.args.self.now.changes in
    let now = c.in-Ok.now.items in
    let bytes : c.content_of-old.result.now ≡ content (reads old) = c.content_of-old.ensures ∙ ap content c.current.ensures in
    let whole : now ≡ with_piece (content (reads old)) c.args.at piece = c.in-Ok.ensures ∙ ap (λ (l : List ℕ). with_piece l c.args.at piece) bytes in
    let within : c.args.at ≤ length (content (reads old)) = omega (arith, ap length bytes) in
    noted_write c.record_change.result old (past_of path [] c.record_change.new.self.changes) c.args.at (length piece) (Some now)
    (on_ok_weaker c.record_change.result (λ noted. noted path ∙ after_same path old (Write c.args.at (length piece)) (Some now)) c.record_change.ensures.noted)
    (on_err_weaker c.record_change.result (λ same. ap (λ l. past_of path [] l) same) c.record_change.ensures.same)
    (subst (λ (l : List ℕ). TornFile c.args.at (length piece) (reads old) (Some l)) (sym whole) (whole_torn_file (reads old) piece c.args.at within))
