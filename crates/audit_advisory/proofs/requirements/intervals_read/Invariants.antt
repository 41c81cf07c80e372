use Rattle.std.proofs.Common.{◌≡◌, map, take}
use Rattle.semver.specs.Identifiers.{comparator_view}
use Rattle.audit_advisory.specs.Intervals.{interval_of}
use Rattle.audit_advisory.proofs.requirements.intervals_read.Given as goal

-- the intervals so far
abbrev pub invariant-loop-comparator : goal.invariant-loop-comparator
invariant-loop-comparator l = l.intervals ≡ map interval_of (map comparator_view (take l.comparator-index l.comparators))
