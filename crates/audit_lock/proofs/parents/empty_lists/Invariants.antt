use Rattle.std.proofs.Common.{◌≡◌, ℕ, [], length}
use Rattle.audit_lock.specs.Parents.{parents_at}
use Rattle.audit_lock.proofs.parents.empty_lists.Given as goal

abbrev pub invariant-loop : goal.invariant-loop
invariant-loop l = record {
  length : length l.lists.items ≡ l.counter;
  empty : (q : ℕ) → parents_at l.lists.items q ≡ [];
}
