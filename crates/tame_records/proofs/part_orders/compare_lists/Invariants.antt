use Rattle.std.proofs.Common.{◌≡◌, drop}
use Rattle.tame_records.specs.Orders.{dependencies_cmp}
use Rattle.tame_records.proofs.part_orders.compare_lists.Given as goal

-- what is left of both decides
abbrev pub invariant-loop-this : goal.invariant-loop-this
invariant-loop-this l = dependencies_cmp l.these l.those ≡ dependencies_cmp (drop l.this-index l.these) l.rest
