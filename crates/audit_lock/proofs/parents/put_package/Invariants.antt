use Rattle.std.proofs.Common.{◌≡◌, ◌<◌, ℕ, length, take}
use Rattle.std.specs.Prelude.{if◌then◌else◌}
use Rattle.audit_lock.specs.Parents.{is_among, parents_at}
use Rattle.audit_lock.specs.Putting.{with_parent}
use Rattle.audit_lock.proofs.parents.put_package.Given as goal

-- it was added to the dependencies so far
abbrev pub invariant-loop-place : goal.invariant-loop-place
invariant-loop-place l =
    (q : ℕ) → q < length l.tree → parents_at l.tree q
    ≡ (if is_among q (take l.place-index l.dependencies) then with_parent l.parent (parents_at l.initial.tree q) else parents_at l.initial.tree q)
