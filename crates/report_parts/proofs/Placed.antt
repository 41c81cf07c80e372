-- The places of a report of a database on a lockfile.
use Rattle.std.proofs.Common.{◌≡◌, ◌<◌, ℕ, List, [], ◌∷◌, Bool, true, ◌&&◌, nat_lt, Option, Some, None, refl, arith, sym, ap, ◌∙◌}
use Rattle.std.specs.Prelude.{All, IfSome}
use Rattle.std.specs.List.{list_all}
use Rattle.std.proofs.lemmas.List.Elements.{All-head, All-tail}
use Rattle.audit_advisory.specs.Reports.{IsPlaced}
use Rattle.audit_advisory.specs.declared.reports.Report.{Report}
use Rattle.audit_advisory.specs.declared.reports.Vulnerability.{Vulnerability}
use Rattle.audit_advisory.specs.declared.reports.Warning.{Warning}
use Rattle.report_parts.specs.Placing.{are_placed, is_place, is_placed, is_placed_vulnerability, is_placed_warning}

-- a test that every item passes
all_pass : {X : Type 0} (P : X → Type 0) (p : X → Bool) → ((x : X) → P x → p x ≡ true)
    → (xs : List X) → All P xs → list_all p xs ≡ true
all_pass P p h [] all = refl
all_pass P p h (x ∷ xs) all =
    let first : p x ≡ true = h x (All-head P x xs all) in
    let rest : list_all p xs ≡ true = all_pass P p h xs (All-tail P x xs all) in
    rw (first, rest) refl

below : (m n : ℕ) → m < n → nat_lt m n ≡ true
below m n h = grind (arith, h)

is_place-some : (n : ℕ) (place : Option ℕ) → IfSome place (λ a. a < n) → is_place n place ≡ true
is_place-some n None h = refl
is_place-some n (Some a) h = below a n h

abbrev found_within : ℕ → ℕ → Vulnerability → Type 0
found_within packages advisories v = (v.advisory < advisories) × (v.«package» < packages)

abbrev warned_within : ℕ → ℕ → Warning → Type 0
warned_within packages advisories w =
    (w.«package» < packages) × IfSome w.advisory (λ a. a < advisories)

both_hold : (a b : Bool) → a ≡ true → b ≡ true → (a && b) ≡ true
both_hold a b h k = rw (h, k) refl

placed : (report : Report) → IsPlaced report
    → is_placed report.advisory_count report.dependency_count report ≡ true
placed report h =
    let a = report.advisory_count in
    let p = report.dependency_count in
    both_hold _ _
    (all_pass (found_within p a) (is_placed_vulnerability a p)
    (λ v l. both_hold _ _ (below _ _ l.0) (below _ _ l.1)) report.vulnerabilities h.vulnerabilities)
    (all_pass (warned_within p a) (is_placed_warning a p)
    (λ w l. both_hold _ _ (is_place-some _ _ l.1) (below _ _ l.0)) report.warnings h.warnings)

-- if the counts are those of these lists
pub placed_in : (report : Report) (advisories packages : ℕ) → IsPlaced report
    → report.advisory_count ≡ advisories → report.dependency_count ≡ packages
    → is_placed advisories packages report ≡ true
placed_in report advisories packages h a p =
    ap (λ n. is_placed n packages report) (sym a)
    ∙ ap (λ n. is_placed report.advisory_count n report) (sym p)
    ∙ placed report h

-- ---- places with advisories

pub are_placed-below : (n : ℕ) (places : List ℕ) → All (λ p. p < n) places → are_placed n places ≡ true
are_placed-below n places h = all_pass (λ p. p < n) (λ p. nat_lt p n) (λ p l. below p n l) places h
