use Rattle.std.proofs.Common.{◌≡◌, ◌<◌, ℕ, length}
use Rattle.audit_lock.specs.Parents.{parents_at, parents_before}
use Rattle.audit_lock.proofs.parents.put_packages.Given as goal

-- the parents among the packages so far
abbrev pub invariant-loop-i : goal.invariant-loop-i
invariant-loop-i l = (q : ℕ) → q < length l.tree → parents_at l.tree q ≡ parents_before l.packages l.i q
