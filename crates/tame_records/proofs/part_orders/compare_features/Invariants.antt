use Rattle.std.proofs.Common.{◌≡◌}
use Rattle.tame_records.specs.Orders.{features_cmp}
use Rattle.tame_records.proofs.part_orders.compare_features.Given as goal

-- what is left of both decides
abbrev pub invariant-loop-name : goal.invariant-loop-name
invariant-loop-name l = features_cmp l.these.entries l.those.entries ≡ features_cmp l.name-iterator l.rest
