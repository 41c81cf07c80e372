-- The interval of versions of a comparator, by its operator, its parts and its
-- pre-release.
use Rattle.std.specs.Prelude.{ℕ, ◌+◌, ◌-◌, ◌^◌, nat_lt, codes, List, [], Bool, true, false, ◌&&◌, Option, Some, None, option_map, if◌then◌else◌}
use Rattle.std.specs.List.{list_all}
use Rattle.std.specs.Ordering.{is_lt, is_gt, is_le, is_ge}
use Rattle.semver.specs.Parse.{Held}
use Rattle.semver.specs.declared.Op.{Op}
use Rattle.semver.specs.declared.Op.TheVariants as op
use Rattle.audit_advisory.specs.Points.{Point, precedence}
use Rattle.audit_advisory.specs.declared.edges.Release.{Release}
use Rattle.audit_advisory.specs.declared.bounds.Lower.{Lower}
use Rattle.audit_advisory.specs.declared.bounds.Lower.TheVariants as lower
use Rattle.audit_advisory.specs.declared.bounds.Upper.{Upper}
use Rattle.audit_advisory.specs.declared.bounds.Upper.TheVariants as upper
use Rattle.audit_advisory.specs.declared.intervals.Interval.{Interval}

-- a version is within a lower bound
abbrev pub keeps_lower : Lower → Point → Bool
keeps_lower lower.Free v = true
keeps_lower (lower.From edge) v = is_ge (precedence v edge)
keeps_lower (lower.Above edge) v = is_gt (precedence v edge)
keeps_lower lower.Unreachable v = false

-- a version is within an upper bound
abbrev pub keeps_upper : Upper → Point → Bool
keeps_upper upper.Free v = true
keeps_upper (upper.UpTo edge) v = is_le (precedence v edge)
keeps_upper (upper.Below edge) v = is_lt (precedence v edge)

-- a version lies in an interval
abbrev pub lies_in : Interval → Point → Bool
lies_in i v = keeps_lower i.lower v && keeps_upper i.upper v

-- a version lies in each of these intervals
abbrev pub lies_in_each : List Interval → Point → Bool
lies_in_each is v = list_all (λ i. lies_in i v) is

-- a part raised by one, if it still has 64 bits
abbrev pub raised : ℕ → Option ℕ
raised n = if nat_lt n (2 ^ 64 - 1) then Some (n + 1) else None

-- the release with this part raised and the parts after it 0
abbrev pub next_major : ℕ → Option Release
next_major major = option_map (λ next. record { major = next; minor = 0; patch = 0 }) (raised major)

abbrev pub next_minor : ℕ → ℕ → Option Release
next_minor major minor = option_map (λ next. record {
  major = major;
  minor = next;
  patch = 0;
}) (raised minor)

abbrev pub next_patch : ℕ → ℕ → ℕ → Option Release
next_patch major minor patch = option_map (λ next. record {
  major = major;
  minor = minor;
  patch = next;
}) (raised patch)

-- from a release; if there is none, nothing is that high
abbrev pub from_release : Option Release → Lower
from_release None = lower.Unreachable
from_release (Some r) = lower.From (record {
  major = r.major;
  minor = r.minor;
  patch = r.patch;
  pre = [];
})

-- below `M.m.p-0`, the lowest pre-release of a release; if there is none, everything is
abbrev pub below_release : Option Release → Upper
below_release None = upper.Free
below_release (Some r) = upper.Below (record {
  major = r.major;
  minor = r.minor;
  patch = r.patch;
  pre = codes "0";
})

-- a missing part is 0
abbrev pub part : Option ℕ → ℕ
part None = 0
part (Some n) = n

-- the version that a comparator states
abbrev pub stated : Held → Point
stated c = record { major = c.1; minor = part c.2; patch = part c.3; pre = c.4 }

-- `>`: above a full version; else from the next of the last stated part
abbrev pub past_parts : Option ℕ → Option ℕ → Held → Lower
past_parts None patch c = from_release (next_major c.1)
past_parts (Some m) None c = from_release (next_minor c.1 m)
past_parts (Some m) (Some p) c = lower.Above (stated c)

-- `=` and `<=`: up to a full version; else below the next of the last stated part
abbrev pub up_to_parts : Option ℕ → Option ℕ → Held → Upper
up_to_parts None patch c = below_release (next_major c.1)
up_to_parts (Some m) None c = below_release (next_minor c.1 m)
up_to_parts (Some m) (Some p) c = upper.UpTo (stated c)

-- `~` and `*`: below the next minor version; if no minor is stated, below the next major one
abbrev pub alike_parts : Option ℕ → ℕ → Option Release
alike_parts None major = next_major major
alike_parts (Some m) major = next_minor major m

-- `^`: below the next of the first part that isn't 0; if all are 0, of the last stated part
abbrev pub compatible_patch : Option ℕ → ℕ → ℕ → Option Release
compatible_patch None major minor = next_minor major minor
compatible_patch (Some p) major minor = next_patch major minor p

abbrev pub compatible_minor : Option ℕ → Option ℕ → ℕ → Option Release
compatible_minor None patch major = next_major major
compatible_minor (Some m) patch major =
    if nat_lt 0 m then next_minor major m else compatible_patch patch major m

abbrev pub compatible : Held → Option Release
compatible c = if nat_lt 0 c.1 then next_major c.1 else compatible_minor c.2 c.3 c.1

abbrev pub lower_by : Op → Held → Lower
lower_by op.Exact c = lower.From (stated c)
lower_by op.Greater c = past_parts c.2 c.3 c
lower_by op.GreaterEq c = lower.From (stated c)
lower_by op.Less c = lower.Free
lower_by op.LessEq c = lower.Free
lower_by op.Tilde c = lower.From (stated c)
lower_by op.Caret c = lower.From (stated c)
lower_by op.Wildcard c = lower.From (stated c)

abbrev pub upper_by : Op → Held → Upper
upper_by op.Exact c = up_to_parts c.2 c.3 c
upper_by op.Greater c = upper.Free
upper_by op.GreaterEq c = upper.Free
upper_by op.Less c = upper.Below (stated c)
upper_by op.LessEq c = up_to_parts c.2 c.3 c
upper_by op.Tilde c = below_release (alike_parts c.2 c.1)
upper_by op.Caret c = below_release (compatible c)
upper_by op.Wildcard c = below_release (alike_parts c.2 c.1)

-- the interval of a comparator
abbrev pub interval_of : Held → Interval
interval_of c = record { lower = lower_by c.0 c; upper = upper_by c.0 c }
