use Rattle.std.proofs.Common.{◌≡◌, ◌++◌}
use Rattle.std.specs.Vec.Iter.{into_iter_items}
use Rattle.baseline_gate.specs.Gates.{unlisted}
use Rattle.baseline_gate.proofs.gates.unlisted_of.Given as goal

-- those so far, before those of what is left
abbrev pub invariant-loop-finding : goal.invariant-loop-finding
invariant-loop-finding l =
    unlisted l.baseline l.fn.found
    ≡ l.unlisted ++ unlisted l.baseline (into_iter_items l.finding-iterator)
