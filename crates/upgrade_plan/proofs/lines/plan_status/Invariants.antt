use Rattle.std.proofs.Common.{◌≡◌, drop}
use Rattle.upgrade_plan.specs.Lines.{plan_status}
use Rattle.upgrade_plan.proofs.lines.plan_status.Given as goal

-- what is left decides
abbrev pub invariant-loop-item : goal.invariant-loop-item
invariant-loop-item l = plan_status l.items ≡ plan_status (drop l.item-index l.items)
