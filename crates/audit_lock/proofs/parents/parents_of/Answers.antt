use Rattle.std.proofs.Common.{◌≡◌, ◌∙◌, [], length, arith}
use Rattle.std.proofs.lemmas.Grind.{common_steps}
use Rattle.std.proofs.lemmas.List.FromFn.{fill_by_all}
use Rattle.audit_lock.specs.Parents.{parents_of}
use Rattle.audit_lock.proofs.Putting.{taken_whole}
use Rattle.audit_lock.proofs.parents.parents_of.Goals as goal

pub returns : goal.returns
returns c =
    let count : length c.put_packages.new.tree ≡ length c.args.packages.now = grind (arith, common_steps) in
    let room : length c.put_packages.new.tree ≡ c.in_ok-tree.tree.len = grind (arith, common_steps) in
    c.of.ensures ∙ taken_whole _ _ _ room
    ∙ fill_by_all (parents_of c.args.packages.now) _ (length c.args.packages.now) [] count (λ q low. c.in_ok-put_packages.ensures q (omega arith))
