use Rattle.std.proofs.Common.{◌≡◌, [], cond, ap, sym, ◌∙◌, arith}
use Rattle.std.specs.Str.{bytes_eq}
use Rattle.std.proofs.lemmas.Map.Text.{text_keys}
use Rattle.tame_cache.specs.Calls.{file_of, past_of, with_change}
use Rattle.tame_cache.specs.Disk.{reads}
use Rattle.tame_cache.proofs.Record.{past_more, popped, reads_with}
use Rattle.tame_cache.proofs.changes.Changes.add.Goals as goal

pub returns-in-Ok-clause-noted : goal.returns-in-Ok-clause-noted
returns-in-Ok-clause-noted c q =
    let old = c.self.inside.calls.items in
    rw (sym c.self.view_is) (ap (λ l. past_of q [] l) c.in_ok-push.ensures.items ∙ past_more q [] old _
    ∙ ap (λ path. with_change q (past_of q [] old) path c.args.change (file_of c.args.now)) c.in_ok-from_str.ensures.ok)

pub invariant_of-self-in-Ok : goal.invariant_of-self-in-Ok
invariant_of-self-in-Ok c q =
    let old = c.self.inside.calls.items in
    let step : reads (past_of q [] c.push.new.self.items) ≡ cond (bytes_eq c.args.path.now q) (file_of c.args.now) (reads (past_of q [] old)) =
    ap reads (ap (λ l. past_of q [] l) c.in_ok-push.ensures.items ∙ past_more q [] old _
    ∙ ap (λ path. with_change q (past_of q [] old) path c.args.change (file_of c.args.now)) c.in_ok-from_str.ensures.ok) ∙ reads_with q c.args.path.now (past_of q [] old) c.args.change (file_of c.args.now) in
    rw step (grind (arith, text_keys, c.self.invariant q))

pub invariant_of-self-in-Err : goal.invariant_of-self-in-Err
invariant_of-self-in-Err c q =
    let items : c.pop.new.self.items ≡ c.self.inside.calls.items = popped c.push.new.self.items c.self.inside.calls.items c.pop.new.self.items _ _ c.pop.ensures.rest c.in_ok-push.ensures.items (omega arith) in
    rw (items, c.in-Err.ensures.err) (c.self.invariant q)
