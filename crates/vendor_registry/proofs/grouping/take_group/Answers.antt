use Rattle.std.proofs.Common.{None}
use Rattle.std.proofs.lemmas.Map.Text.{btree_map_updates_text}
use Rattle.vendor_registry.proofs.Groups.{taken}
use Rattle.vendor_registry.proofs.grouping.take_group.Goals as goal

pub returns-in-Some-clause-left : goal.returns-in-Some-clause-left
returns-in-Some-clause-left c = λ q.
    taken c.args.groups.now c.remove.new.self c.args.path.now q (btree_map_updates_text c.args.path.now c.args.groups.now c.remove.new.self None c.remove.ensures.updates q)

pub returns-in-None-clause-left : goal.returns-in-None-clause-left
returns-in-None-clause-left c = λ q.
    taken c.args.groups.now c.remove.new.self c.args.path.now q (btree_map_updates_text c.args.path.now c.args.groups.now c.remove.new.self None c.remove.ensures.updates q)
