use Rattle.std.proofs.Common.{◌≡◌, drop}
use Rattle.audit_advisory.specs.Points.{point_of}
use Rattle.audit_advisory.specs.Intervals.{lies_in_each}
use Rattle.audit_advisory.proofs.requirements.lies_in_each.Given as goal

-- what is left decides
abbrev pub invariant-loop-interval : goal.invariant-loop-interval
invariant-loop-interval l =
    lies_in_each l.intervals (point_of l.version) ≡ lies_in_each (drop l.interval-index l.intervals) (point_of l.version)
