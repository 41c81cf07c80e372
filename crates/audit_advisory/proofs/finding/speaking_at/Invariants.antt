use Rattle.std.proofs.Common.{◌≡◌, ◌++◌, drop}
use Rattle.std.specs.List.{filter}
use Rattle.audit_advisory.specs.Places.{passes_at}
use Rattle.audit_advisory.specs.Reports.{speaks_of}
use Rattle.audit_advisory.proofs.finding.speaking_at.Given as goal

-- the places so far, before those of what is left
abbrev pub invariant-loop-place : goal.invariant-loop-place
invariant-loop-place l =
    filter (passes_at (speaks_of l.settings l.locked) l.advisories) l.places
    ≡ l.found ++ filter (passes_at (speaks_of l.settings l.locked) l.advisories) (drop l.place-index l.places)
