use Rattle.std.proofs.Common.{◌≡◌, ◌≤◌, ℕ, drop, string_bytes}
use Rattle.audit_lock.specs.Rendering.{each_parent, unmet, walk}
use Rattle.audit_lock.proofs.Walks.{GoesOn}
use Rattle.audit_lock.proofs.rendering.+put_below.Given as goal

-- each package is opened once
abbrev pub decreases-put_below : goal.decreases-put_below
decreases-put_below l = unmet l.met.now

-- the walk of the parents so far, before the walk of those left
abbrev pub invariant-loop-i : goal.invariant-loop-i
invariant-loop-i l = record {
  above : l.levels.items ≡ l.initial.levels.items;
  fewer : unmet l.met ≤ unmet l.initial.met;
  goes_on : (deep : ℕ) → unmet l.initial.met ≤ deep →
      GoesOn l.packages
      (each_parent (walk l.tree deep) l.initial.levels.items l.parents l.initial.met) (string_bytes l.initial.out)
      (each_parent (walk l.tree deep) l.initial.levels.items (drop l.i l.parents) l.met) (string_bytes l.out);
}
