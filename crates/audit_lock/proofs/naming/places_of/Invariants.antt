use Rattle.std.proofs.Common.{◌≡◌, ℕ, List, take}
use Rattle.std.specs.BTreeMap.{get_by_text}
use Rattle.audit_lock.specs.Naming.{place_of}
use Rattle.audit_lock.proofs.naming.places_of.Given as goal

-- the packages so far
abbrev pub invariant-loop-i : goal.invariant-loop-i
invariant-loop-i l = (q : List ℕ) → get_by_text l.places q ≡ place_of (take l.i l.packages) q
