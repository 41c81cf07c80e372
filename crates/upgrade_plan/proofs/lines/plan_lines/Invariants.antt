use Rattle.std.proofs.Common.{◌≡◌, ◌++◌, drop, string_bytes}
use Rattle.upgrade_plan.specs.Lines.{plan_lines}
use Rattle.upgrade_plan.proofs.lines.plan_lines.Given as goal

-- the lines so far, and those of what is left
abbrev pub invariant-loop-item : goal.invariant-loop-item
invariant-loop-item l =
    plan_lines l.packages l.items ≡ string_bytes l.out ++ plan_lines l.packages (drop l.item-index l.items)
