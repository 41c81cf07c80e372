use Rattle.audit_lock.proofs.Shapes.{is_tree}
use Rattle.audit_lock.proofs.trees.Tree.render.Goals as goal

pub returns-in_default-clause-tree : goal.returns-in_default-clause-tree
returns-in_default-clause-tree g c = is_tree c.args.lockfile.now c.args.node c.requires.node

pub returns-in-Ok-put_piece-clause-tree : goal.returns-in-Ok-put_piece-clause-tree
returns-in-Ok-put_piece-clause-tree g c = is_tree c.args.lockfile.now c.args.node c.requires.node

pub returns-clause-tree : goal.returns-clause-tree
returns-clause-tree g c = is_tree c.args.lockfile.now c.args.node c.requires.node
