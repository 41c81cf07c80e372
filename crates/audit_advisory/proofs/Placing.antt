-- Each place in a report is below its count.
use Rattle.std.proofs.Common.{ℕ, suc, ◌+◌, ◌<◌, ◌≤◌, List, [], ◌∷◌, length, Bool, true, false, cond, arith}
use Rattle.std.specs.Prelude.{All, IfSome}
use Rattle.std.specs.List.{filter}
use Rattle.std.proofs.lemmas.List.Elements.{All-append, All-cons, All-map, All-nil}
use Rattle.audit_lock.specs.declared.resolving.Package.{Package}
use Rattle.audit_advisory.specs.Places.{Placed, placed_from, places_where}
use Rattle.audit_advisory.specs.Reports.{IsPlaced, is_vulnerability, is_warning, report_of, vulnerability_at, warning_at, with_yanked, yanked_at}
use Rattle.audit_advisory.specs.declared.advisories.Advisory.{Advisory}
use Rattle.audit_advisory.specs.declared.outputs.WarningKind.{WarningKind}
use Rattle.audit_advisory.specs.declared.outputs.WarningKind.TheVariants as kind
use Rattle.audit_advisory.specs.declared.reports.Report.{Report}
use Rattle.audit_advisory.specs.declared.reports.Vulnerability.{Vulnerability}
use Rattle.audit_advisory.specs.declared.reports.Warning.{Warning}
use Rattle.audit_advisory.specs.declared.settings.Settings.{Settings}
use Rattle.audit_advisory.proofs.Picking.{told_from, told_from-cons}

filter_placed : {A : Type 0} (n : ℕ) (test : Placed A → Bool) (i : ℕ) (xs : List A) → i + length xs ≤ n → All (λ (x : Placed A). x.place < n) (filter test (placed_from i xs))
filter_placed n test i [] low = All-nil _
filter_placed {A = A} n test i (x ∷ xs) low =
    let first : Placed A = record { place = i; item = x } in
    let more = filter_placed n test (suc i) xs (omega (arith, low)) in
    elim (test first) as (λ b. All (λ (y : Placed A). y.place < n) (cond b (first ∷ filter test (placed_from (suc i) xs)) (filter test (placed_from (suc i) xs)))) [
      | true ↦ All-cons (λ (y : Placed A). y.place < n) first _ (omega (arith, low)) more
      | false ↦ more
    ]

places_below : {A : Type 0} (test : A → Bool) (xs : List A) → All (λ j. j < length xs) (places_where test xs)
places_below {A = A} test xs = All-map (λ j. j < length xs) (λ (x : Placed A). x.place) _ (filter_placed (length xs) (λ (x : Placed A). test x.item) 0 xs (omega arith))

-- if a property holds for all that is made of places below the counts, it holds for all of a report
all_told : {B : Type 0} (P : B → Type 0) (make : ℕ → ℕ → B) (test : Package → Advisory → Bool) (advisories : List Advisory) (n i : ℕ) (packages : List Package)
    → i + length packages ≤ n → ((p a : ℕ) → p < n → a < length advisories → P (make p a)) → All P (told_from make test advisories i packages)
all_told P make test advisories n i [] low each = All-nil P
all_told P make test advisories n i (p ∷ more) low each =
    let here : i < n = omega (arith, low) in
    let one = All-map P (make i) (places_where (test p) advisories) (λ k d below. each i _ here (places_below (test p) advisories k d below)) in
    rw (told_from-cons make test advisories i p more) (All-append P _ _ one (all_told P make test advisories n (suc i) more (omega (arith, low)) each))

-- what a vulnerability must satisfy
abbrev pub found_within : ℕ → ℕ → Vulnerability → Type 0
found_within packages advisories v = (v.advisory < advisories) × (v.«package» < packages)

-- what a warning must satisfy
abbrev warned_within : ℕ → ℕ → Warning → Type 0
warned_within packages advisories w = (w.«package» < packages) × IfSome w.advisory (λ a. a < advisories)

warnings_placed : (settings : Settings) (advisories : List Advisory) (packages : List Package) (k : WarningKind)
    → All (warned_within (length packages) (length advisories)) (told_from (warning_at k) (is_warning settings k) advisories 0 packages)
warnings_placed settings advisories packages k =
    all_told (warned_within (length packages) (length advisories)) (warning_at k) (is_warning settings k) advisories (length packages) 0 packages (omega arith) (λ p a within found. (within, found))

pub report_of-placed : (settings : Settings) (advisories : List Advisory) (packages : List Package) → IsPlaced (report_of settings advisories packages)
report_of-placed settings advisories packages =
    let P = warned_within (length packages) (length advisories) in
    record {
      vulnerabilities = all_told (found_within (length packages) (length advisories)) vulnerability_at (is_vulnerability settings) advisories (length packages) 0 packages (omega arith) (λ p a within found. (found, within));
      warnings = All-append P _ _
          (All-append P _ _ (warnings_placed settings advisories packages kind.Notice) (warnings_placed settings advisories packages kind.Unmaintained))
          (warnings_placed settings advisories packages kind.Unsound);
    }

pub with_yanked-placed : (report : Report) (packages : List ℕ) → IsPlaced report → All (λ p. p < report.dependency_count) packages → IsPlaced (with_yanked report packages)
with_yanked-placed report packages placed within =
    let P = warned_within report.dependency_count report.advisory_count in
    record {
      vulnerabilities = placed.vulnerabilities;
      warnings = All-append P _ _ placed.warnings (All-map P yanked_at packages (λ k d below. (within k d below, tt)));
    }
