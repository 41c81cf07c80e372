use Rattle.std.proofs.Common.{◌≡◌, ◌++◌, drop}
use Rattle.std.specs.List.{filter}
use Rattle.audit_advisory.specs.Places.{passes_at}
use Rattle.audit_advisory.specs.Points.{point_of}
use Rattle.audit_advisory.specs.Queries.{warns_of}
use Rattle.audit_advisory.proofs.databases.warning_places.Given as goal

-- the places so far, before those of what is left
abbrev pub invariant-loop-place : goal.invariant-loop-place
invariant-loop-place l =
    filter (passes_at (warns_of (point_of l.version)) l.advisories) l.places
    ≡ l.found ++ filter (passes_at (warns_of (point_of l.version)) l.advisories) (drop l.place-index l.places)
