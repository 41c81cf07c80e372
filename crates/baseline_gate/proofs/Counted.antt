-- Each vulnerability and each warning of a report gives one finding, in their order.
use Rattle.std.proofs.Common.{◌≡◌, ℕ, zero, suc, ◌+◌, ◌<◌, List, [], ◌∷◌, length, Option, Some, arith, refl, sym, ap, ap₂, ◌∙◌, subst, length-append}
use Rattle.std.specs.Prelude.{All, IfSome, IsSome, None, ◌++◌, flat_map, slice_get}
use Rattle.std.proofs.lemmas.List.Elements.{All-head, All-tail}
use Rattle.audit_lock.specs.declared.resolving.Package.{Package}
use Rattle.audit_advisory.specs.declared.advisories.Advisory.{Advisory}
use Rattle.audit_advisory.specs.declared.reports.Vulnerability.{Vulnerability}
use Rattle.audit_advisory.specs.declared.reports.Warning.{Warning}
use Rattle.audit_core.specs.Auditors.{IsReportOf}
use Rattle.audit_core.specs.declared.auditing.Audited.{Audited}
use Rattle.baseline_gate.specs.Laws.{AreEach, AreOfReport, IsOfHit, IsOfWarning}
use Rattle.baseline_gate.specs.Reports.{advisory_at, audit_findings, hit_finding, hit_finding_at, warning_finding, warning_finding_at}
use Rattle.known_findings.specs.declared.findings.Finding.{Finding}

-- below its length a list has an element at each place
there : {X : Type 0} (xs : List X) (i : ℕ) → i < length xs → (x : X) × (slice_get xs i ≡ Some x)
there [] i h = absurd (omega (arith, h))
there (x ∷ xs) zero h = (x, refl)
there (x ∷ xs) (suc i) h = there xs i (omega (arith, h))

-- one finding for each item
each_one : {X : Type 0} (f : X → List Finding) (P : X → Type 0) → ((x : X) → P x → length (f x) ≡ 1)
    → (xs : List X) → All P xs → length (flat_map f xs) ≡ length xs
each_one f P one [] all = refl
each_one f P one (x ∷ xs) all =
    let first = one x (All-head P x xs all) in
    let rest = each_one f P one xs (All-tail P x xs all) in
    length-append (f x) (flat_map f xs) ∙ omega (arith, first, rest)

abbrev is_hit : List Advisory → List Package → Vulnerability → Type 0
is_hit advisories packages v = (v.advisory < length advisories) × (v.«package» < length packages)

abbrev is_warning : List Advisory → List Package → Warning → Type 0
is_warning advisories packages w =
    (w.«package» < length packages) × IfSome w.advisory (λ a. a < length advisories)

one_hit : (advisories : List Advisory) (packages : List Package) (v : Vulnerability) → is_hit advisories packages v
    → length (hit_finding_at advisories packages v) ≡ 1
one_hit advisories packages v h =
    let a = there advisories v.advisory h.0 in
    let p = there packages v.«package» h.1 in
    ap₂ (λ (x : Option Package) (y : Option Advisory). length (hit_finding x y)) p.1 a.1

one_warning : (advisories : List Advisory) (packages : List Package) (w : Warning) → is_warning advisories packages w
    → length (warning_finding_at advisories packages w) ≡ 1
one_warning advisories packages w h =
    let p = there packages w.«package» h.0 in
    ap (λ (x : Option Package). length (warning_finding w.kind x (advisory_at advisories w.advisory))) p.1

placed_hits : (a p : ℕ) (advisories : List Advisory) (packages : List Package) (vs : List Vulnerability) → a ≡ length advisories → p ≡ length packages
    → All (λ v. (v.advisory < a) × (v.«package» < p)) vs → All (is_hit advisories packages) vs
placed_hits a p advisories packages vs same_a same_p h =
    subst (λ n. All (λ v. (v.advisory < n) × (v.«package» < length packages)) vs) same_a
    (subst (λ n. All (λ v. (v.advisory < a) × (v.«package» < n)) vs) same_p h)

placed_warnings : (a p : ℕ) (advisories : List Advisory) (packages : List Package) (ws : List Warning) → a ≡ length advisories → p ≡ length packages
    → All (λ w. (w.«package» < p) × IfSome w.advisory (λ x. x < a)) ws → All (is_warning advisories packages) ws
placed_warnings a p advisories packages ws same_a same_p h =
    subst (λ n. All (λ w. (w.«package» < length packages) × IfSome w.advisory (λ x. x < n)) ws) same_a
    (subst (λ n. All (λ w. (w.«package» < n) × IfSome w.advisory (λ x. x < a)) ws) same_p h)

-- ---- one for one

abbrev has : {X : Type 0} → Option X → Type 0
has {X} o = (x : X) × (o ≡ Some x)

some_there : {X : Type 0} (xs : List X) (o : Option ℕ) (i : ℕ) → IfSome o (λ n. n < length xs) → o ≡ Some i → IsSome (slice_get xs i)
some_there xs None i h is = cc
some_there {X} xs (Some n) i h is =
    let found = there xs n h in
    let P : Option X → Type 0 = λ y. IsSome y in
    let Q : ℕ → Type 0 = λ m. IsSome (slice_get xs m) in
    let inside : Some n ≡ Some i = is in
    subst Q (cc (inside)) (subst P (sym found.1) refl)

hit_step : (advisories : List Advisory) (packages : List Package) (v : Vulnerability) (vs : List Vulnerability) (rest : List Finding)
    (p : Option Package) (a : Option Advisory) → slice_get packages v.«package» ≡ p → slice_get advisories v.advisory ≡ a → has p → has a
    → AreEach (IsOfHit advisories packages) vs rest → AreEach (IsOfHit advisories packages) (v ∷ vs) (hit_finding p a ++ rest)
hit_step advisories packages v vs rest None a at_p at_a some_p some_a more = let none = some_p.1 in cc
hit_step advisories packages v vs rest (Some p) None at_p at_a some_p some_a more = let none = some_a.1 in cc
hit_step advisories packages v vs rest (Some p) (Some a) at_p at_a some_p some_a more =
    (record { locked = p; advisory = a; is_locked = at_p; is_advisory = at_a; is = refl }, more)

each_hit : (advisories : List Advisory) (packages : List Package) (vs : List Vulnerability) → All (is_hit advisories packages) vs
    → AreEach (IsOfHit advisories packages) vs (flat_map (hit_finding_at advisories packages) vs)
each_hit advisories packages [] h = tt
each_hit advisories packages (v ∷ vs) h =
    let here = All-head (is_hit advisories packages) v vs h in
    hit_step advisories packages v vs _ (slice_get packages v.«package») (slice_get advisories v.advisory) refl refl
    (there packages v.«package» here.1) (there advisories v.advisory here.0)
    (each_hit advisories packages vs (All-tail (is_hit advisories packages) v vs h))

warning_step : (advisories : List Advisory) (packages : List Package) (w : Warning) (ws : List Warning) (rest : List Finding)
    (p : Option Package) → slice_get packages w.«package» ≡ p → has p → IfSome w.advisory (λ a. a < length advisories)
    → AreEach (IsOfWarning advisories packages) ws rest
    → AreEach (IsOfWarning advisories packages) (w ∷ ws) (warning_finding w.kind p (advisory_at advisories w.advisory) ++ rest)
warning_step advisories packages w ws rest None at_p some_p within more = let none = some_p.1 in cc
warning_step advisories packages w ws rest (Some p) at_p some_p within more =
    (record { locked = p; is_locked = at_p; advisory = λ place is. some_there advisories w.advisory place within is; is = refl }, more)

each_warning : (advisories : List Advisory) (packages : List Package) (ws : List Warning) → All (is_warning advisories packages) ws
    → AreEach (IsOfWarning advisories packages) ws (flat_map (warning_finding_at advisories packages) ws)
each_warning advisories packages [] h = tt
each_warning advisories packages (w ∷ ws) h =
    let here = All-head (is_warning advisories packages) w ws h in
    warning_step advisories packages w ws _ (slice_get packages w.«package») refl (there packages w.«package» here.0) here.1
    (each_warning advisories packages ws (All-tail (is_warning advisories packages) w ws h))

pub all_told : (advisories : List Advisory) (audited : Audited) → IsReportOf advisories audited
    → AreOfReport advisories audited.lockfile audited.report (audit_findings advisories audited)
all_told advisories audited of =
    let packages : List Package = audited.lockfile in
    let report = audited.report in
    record {
      hits = flat_map (hit_finding_at advisories packages) report.vulnerabilities;
      warned = flat_map (warning_finding_at advisories packages) report.warnings;
      all = refl;
      each_hit = each_hit advisories packages report.vulnerabilities (placed_hits _ _ advisories packages _ of.counted of.packages of.placed.vulnerabilities);
      each_warning = each_warning advisories packages report.warnings (placed_warnings _ _ advisories packages _ of.counted of.packages of.placed.warnings);
    }

pub counted : (advisories : List Advisory) (audited : Audited) → IsReportOf advisories audited
    → length (audit_findings advisories audited) ≡ length audited.report.vulnerabilities + length audited.report.warnings
counted advisories audited of =
    let packages : List Package = audited.lockfile in
    let report = audited.report in
    length-append (flat_map (hit_finding_at advisories packages) report.vulnerabilities) _
    ∙ ap₂ (λ m n. m + n)
    (each_one (hit_finding_at advisories packages) (is_hit advisories packages) (one_hit advisories packages) report.vulnerabilities
    (placed_hits _ _ advisories packages _ of.counted of.packages of.placed.vulnerabilities))
    (each_one (warning_finding_at advisories packages) (is_warning advisories packages) (one_warning advisories packages) report.warnings
    (placed_warnings _ _ advisories packages _ of.counted of.packages of.placed.warnings))
