use Rattle.std.proofs.Common.{sym, ◌∙◌}
use Rattle.tame_names.proofs.Placed.{gains_entry, gains_nothing}
use Rattle.tame_names.proofs.memory_changes.folder_with.Goals as goal

pub returns-in-None : goal.returns-in-None
returns-in-None c =
    let none = sym c.in_ok-entries_at.ensures.read ∙ c.in-None.is in
    rw c.new-front.ensures (λ q. gains_nothing c.args.files.now c.args.path.now c.in-Some.folder.now _ (sym c.in-Some.ensures.folder) none q)

pub returns-in_ok-add-in-Some-2 : goal.returns-in_ok-add-in-Some-2
returns-in_ok-add-in-Some-2 c =
    let some = sym c.in_ok-entries_at.ensures.read ∙ c.in-Some-2.is in
    rw (c.in_ok-add-in-Some-2.ensures.ok, c.new-front.ensures, c.in_ok-folder_node-in-Some-2.ensures) (λ q. gains_entry c.args.files.now c.args.path.now c.in-Some.folder.now c.in-Some-2.entries _ (sym c.in-Some.ensures.folder) some q)
