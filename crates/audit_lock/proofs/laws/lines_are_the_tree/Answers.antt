use Rattle.audit_lock.proofs.Shapes.{is_the_tree}
use Rattle.audit_lock.proofs.laws.lines_are_the_tree.Goals as goal

pub returns : goal.returns
returns c = is_the_tree
