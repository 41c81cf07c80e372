use Rattle.std.proofs.Common.{◌≡◌, ◌++◌, drop, map}
use Rattle.std.specs.List.{filter}
use Rattle.audit_advisory.specs.Places.{passes_at}
use Rattle.audit_advisory.specs.Reports.{is_warned_of, warning_at}
use Rattle.audit_advisory.proofs.finding.add_warnings.Given as goal

-- what was found, before what is left
abbrev pub invariant-loop-place : goal.invariant-loop-place
invariant-loop-place l =
    l.initial.found ++ map (warning_at l.kind l.«package») (filter (passes_at (is_warned_of l.kind l.settings) l.advisories) l.places)
    ≡ l.found ++ map (warning_at l.kind l.«package») (filter (passes_at (is_warned_of l.kind l.settings) l.advisories) (drop l.place-index l.places))
