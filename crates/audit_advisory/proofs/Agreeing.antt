-- Intervals whose ends have no pre-release hold the same releases that cargo's `semver` matches.
use Rattle.std.proofs.Common.{◌≡◌, ◌+◌, ◌-◌, ◌^◌, ◌<◌, ℕ, List, [], ◌∷◌, map, Option, Some, None, Bool, true, false, refl, sym, ◌∙◌, arith}
use Rattle.std.specs.Prelude.{◌&&◌, ◌||◌, ◌==◌, length, Ok}
use Rattle.std.specs.List.{list_all}
use Rattle.std.proofs.lemmas.Bool.Decides.{nat_tests}
use Rattle.semver.specs.Eval.{matches_all, matches_one, matches_op}
use Rattle.semver.specs.Identifiers.{comparator_view, pre_text}
use Rattle.semver.specs.Parse.{req_of}
use Rattle.semver.specs.declared.Comparator.{Comparator}
use Rattle.semver.specs.declared.Op.{Op}
use Rattle.semver.specs.declared.Op.TheVariants as op
use Rattle.semver.specs.declared.Version.{Version}
use Rattle.audit_advisory.specs.Agreement.{ArePlain, HasNext, IsPlain, StandsInOrder}
use Rattle.audit_advisory.specs.Intervals.{interval_of, keeps_lower, keeps_upper, lies_in, lies_in_each, lower_by, raised, upper_by}
use Rattle.audit_advisory.specs.Points.{point_of}
use Rattle.audit_advisory.specs.Requirements.{meets}

raised_low : (n : ℕ) → n < 2 ^ 64 - 1 → raised n ≡ Some (n + 1)
raised_low n low = grind (arith, nat_tests)

-- a version lies in the interval of a comparator, read by an operator
abbrev inside : Op → Comparator → Version → Bool
inside o c v =
    keeps_lower (lower_by o (comparator_view c)) (point_of v)
    && keeps_upper (upper_by o (comparator_view c)) (point_of v)

one_number : (o : Op) (c : Comparator) (v : Version) → c.minor ≡ None → c.patch ≡ None → c.major < 2 ^ 64 - 1
    → pre_text c.pre ≡ [] → pre_text v.pre ≡ [] → inside o c v ≡ matches_op o c v
one_number op.Exact c v hm hp la pc pv = rw (pv, pc, hp, hm, raised_low c.major la) (grind (arith, nat_tests))
one_number op.Greater c v hm hp la pc pv = rw (pv, pc, hp, hm, raised_low c.major la) (grind (arith, nat_tests))
one_number op.GreaterEq c v hm hp la pc pv = rw (pv, pc, hp, hm) (grind (arith, nat_tests))
one_number op.Less c v hm hp la pc pv = rw (pv, pc, hp, hm) (grind (arith, nat_tests))
one_number op.LessEq c v hm hp la pc pv = rw (pv, pc, hp, hm, raised_low c.major la) (grind (arith, nat_tests))
one_number op.Tilde c v hm hp la pc pv = rw (pv, pc, hp, hm, raised_low c.major la) (grind (arith, nat_tests))
one_number op.Caret c v hm hp la pc pv = rw (pv, pc, hp, hm, raised_low c.major la) (grind (arith, nat_tests))
one_number op.Wildcard c v hm hp la pc pv = rw (pv, pc, hp, hm, raised_low c.major la) (grind (arith, nat_tests))

two_numbers : (o : Op) (m : ℕ) (c : Comparator) (v : Version) → c.minor ≡ Some m → c.patch ≡ None → c.major < 2 ^ 64 - 1 → m < 2 ^ 64 - 1
    → pre_text c.pre ≡ [] → pre_text v.pre ≡ [] → inside o c v ≡ matches_op o c v
two_numbers op.Exact m c v hm hp la lb pc pv = rw (pv, pc, hp, hm, raised_low m lb) (grind (arith, nat_tests))
two_numbers op.Greater m c v hm hp la lb pc pv = rw (pv, pc, hp, hm, raised_low m lb) (grind (arith, nat_tests))
two_numbers op.GreaterEq m c v hm hp la lb pc pv = rw (pv, pc, hp, hm) (grind (arith, nat_tests))
two_numbers op.Less m c v hm hp la lb pc pv = rw (pv, pc, hp, hm) (grind (arith, nat_tests))
two_numbers op.LessEq m c v hm hp la lb pc pv = rw (pv, pc, hp, hm, raised_low m lb) (grind (arith, nat_tests))
two_numbers op.Tilde m c v hm hp la lb pc pv = rw (pv, pc, hp, hm, raised_low m lb) (grind (arith, nat_tests))
two_numbers op.Caret m c v hm hp la lb pc pv = rw (pv, pc, hp, hm, raised_low c.major la, raised_low m lb) (grind (arith, nat_tests))
two_numbers op.Wildcard m c v hm hp la lb pc pv = rw (pv, pc, hp, hm, raised_low m lb) (grind (arith, nat_tests))

three_numbers : (o : Op) (m p : ℕ) (c : Comparator) (v : Version) → c.minor ≡ Some m → c.patch ≡ Some p → c.major < 2 ^ 64 - 1 → m < 2 ^ 64 - 1
    → p < 2 ^ 64 - 1 → StandsInOrder o (Some m) (Some p) → pre_text c.pre ≡ [] → pre_text v.pre ≡ [] → inside o c v ≡ matches_op o c v
three_numbers op.Exact m p c v hm hp la lb lc order pc pv =
    rw (pv, pc, hp, hm) (grind (arith, nat_tests))
three_numbers op.Greater m p c v hm hp la lb lc order pc pv =
    rw (pv, pc, hp, hm) (grind (arith, nat_tests))
three_numbers op.GreaterEq m p c v hm hp la lb lc order pc pv =
    rw (pv, pc, hp, hm) (grind (arith, nat_tests))
three_numbers op.Less m p c v hm hp la lb lc order pc pv =
    rw (pv, pc, hp, hm) (grind (arith, nat_tests))
three_numbers op.LessEq m p c v hm hp la lb lc order pc pv =
    rw (pv, pc, hp, hm) (grind (arith, nat_tests))
three_numbers op.Tilde m p c v hm hp la lb lc order pc pv =
    rw (pv, pc, hp, hm, raised_low m lb) (grind (arith, nat_tests))
three_numbers op.Caret m p c v hm hp la lb lc order pc pv =
    rw (pv, pc, hp, hm, raised_low c.major la, raised_low m lb, raised_low p lc) (grind (arith, nat_tests))
three_numbers op.Wildcard m p c v hm hp la lb lc order pc pv = absurd order

by_numbers : (o : Op) (minor patch : Option ℕ) (c : Comparator) (v : Version) → c.minor ≡ minor → c.patch ≡ patch → c.major < 2 ^ 64 - 1 → HasNext minor
    → HasNext patch → StandsInOrder o minor patch → pre_text c.pre ≡ [] → pre_text v.pre ≡ [] → inside o c v ≡ matches_op o c v
by_numbers o None None c v hm hp la lb lc order pc pv = one_number o c v hm hp la pc pv
by_numbers o None (Some p) c v hm hp la lb lc order pc pv = absurd order
by_numbers o (Some m) None c v hm hp la lb lc order pc pv = two_numbers o m c v hm hp la lb pc pv
by_numbers o (Some m) (Some p) c v hm hp la lb lc order pc pv = three_numbers o m p c v hm hp la lb lc order pc pv

agrees : (c : Comparator) (v : Version) → IsPlain (comparator_view c) → pre_text v.pre ≡ []
    → lies_in (interval_of (comparator_view c)) (point_of v) ≡ matches_op c.op c v
agrees c v plain pv =
    by_numbers c.op c.minor c.patch c v refl refl plain.major plain.minor plain.patch plain.in_order plain.release pv

each_agrees : (cs : List Comparator) (v : Version) → ArePlain (map comparator_view cs) → pre_text v.pre ≡ []
    → lies_in_each (map interval_of (map comparator_view cs)) (point_of v) ≡ list_all (λ c. matches_op c.op c v) cs
each_agrees [] v plain pv = refl
each_agrees (c ∷ cs) v plain pv = rw (agrees c v plain.0 pv, each_agrees cs v plain.1 pv) refl

and_true : (b : Bool) → b && true ≡ b
and_true true = refl
and_true false = refl

of_release : (v : Version) (b x : Bool) → pre_text v.pre ≡ [] → b && (length (pre_text v.pre) == 0 || x) ≡ b
of_release v b x pv = rw pv (and_true b)

pub one_agrees : (c : Comparator) (v : Version) → IsPlain (comparator_view c) → pre_text v.pre ≡ []
    → lies_in (interval_of (comparator_view c)) (point_of v) ≡ matches_one c v
one_agrees c v plain pv = agrees c v plain pv ∙ sym (of_release v _ _ pv)

pub all_agree : (text : List ℕ) (cs : List Comparator) (v : Version) → req_of text ≡ Ok (map comparator_view cs)
    → ArePlain (map comparator_view cs) → pre_text v.pre ≡ [] → meets text (point_of v) ≡ matches_all cs v
all_agree text cs v is plain pv =
    rw is (each_agrees cs v plain pv ∙ sym (of_release v _ _ pv))
