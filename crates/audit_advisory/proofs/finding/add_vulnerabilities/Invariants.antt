use Rattle.std.proofs.Common.{◌≡◌, ◌++◌, drop, map}
use Rattle.std.specs.List.{filter}
use Rattle.audit_advisory.specs.Places.{passes_at}
use Rattle.audit_advisory.specs.Reports.{is_plain, vulnerability_at}
use Rattle.audit_advisory.proofs.finding.add_vulnerabilities.Given as goal

-- what was found, before what is left
abbrev pub invariant-loop-place : goal.invariant-loop-place
invariant-loop-place l =
    l.initial.found ++ map (vulnerability_at l.«package») (filter (passes_at is_plain l.advisories) l.places)
    ≡ l.found ++ map (vulnerability_at l.«package») (filter (passes_at is_plain l.advisories) (drop l.place-index l.places))
