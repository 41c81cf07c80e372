use Rattle.std.proofs.Common.{◌≡◌, ◌++◌, drop}
use Rattle.audit_advisory.specs.Places.{places_from}
use Rattle.audit_advisory.proofs.searching.places.Given as goal

-- the places so far, before those of what is left
abbrev pub invariant-loop-i : goal.invariant-loop-i
invariant-loop-i l = places_from 0 l.advisories ≡ l.places.items ++ places_from l.i (drop l.i l.advisories)
