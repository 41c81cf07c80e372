use Rattle.std.proofs.Common.{◌-◌, ◌≡◌, ℕ, ◌<◌, ◌≤◌, length, slice_index, true, false}
use Rattle.std.specs.Cmp.Lexicographic.{slice_cmp}
use Rattle.std.specs.Ordering.{nat_cmp}
use Rattle.audit_advisory.specs.Names.{goes_on, name_at}
use Rattle.audit_advisory.proofs.Halving.{Halved}
use Rattle.audit_advisory.proofs.searching.first_place.Given as goal

abbrev pub invariant-loop-low : goal.invariant-loop-low
invariant-loop-low l = record {
  ordered : l.low ≤ l.high;
  within : l.high ≤ length l.by_name;
  before : (k : ℕ) → k < l.low → goes_on l.past (slice_cmp nat_cmp (name_at l.advisories (slice_index l.by_name k)) l.name) ≡ true;
  behind : (k : ℕ) → l.high ≤ k → k < length l.by_name → goes_on l.past (slice_cmp nat_cmp (name_at l.advisories (slice_index l.by_name k)) l.name) ≡ false;
  most : (d : ℕ) → Halved l.fn.count.made l.count.made (l.high - l.low) (length l.by_name) d;
  least : l.fn.count.made ≤ l.count.made;
}

abbrev pub decreases-loop-low : goal.decreases-loop-low
decreases-loop-low l = l.high - l.low
