-- Findings added to a run, one after the other, and the law on a run's rules.
use Rattle.std.proofs.Common.{◌≡◌, ◌+◌, ◌<◌, ℕ, List, [], ◌∷◌, ◌++◌, map, length, take, get_or, Option, Some, None, refl, sym, subst, ap, ap₂, ◌∙◌, append-nil, append_assoc}
use Rattle.std.specs.Prelude.{slice_get}
use Rattle.std.specs.List.{flat_map}
use Rattle.std.proofs.lemmas.Grind.{flat_map-append}
use Rattle.std.proofs.lemmas.List.{map-append, take_more}
use Rattle.audit_lock.specs.declared.resolving.Package.{Package}
use Rattle.audit_advisory.specs.declared.advisories.Advisory.{Advisory}
use Rattle.audit_advisory.specs.declared.outputs.WarningKind.{WarningKind}
use Rattle.audit_advisory.specs.declared.reports.Report.{Report}
use Rattle.audit_advisory.specs.Reports.{advisory_at}
use Rattle.audit_sarif.specs.Firsts.{first_of_each, with_all_new}
use Rattle.tame_names.specs.FirstPlaces.{AreEachOnce}
use Rattle.audit_sarif.specs.Rules.{HasRulesOfResults}
use Rattle.audit_sarif.specs.Sarif.{Finding, findings_of, hit_finding, hit_finding_at, run_of, warning_finding, warning_finding_at}
use Rattle.audit_sarif.specs.SarifRuns.{Tells}
use Rattle.audit_sarif.specs.declared.sarif_logs.Rule.{Rule}
use Rattle.audit_sarif.specs.declared.sarif_logs.Run.{Run}
use Rattle.audit_sarif.specs.declared.sarif_logs.SarifResult.{SarifResult}
use Rattle.audit_sarif.proofs.FirstUses.{first_uses, map_firsts, with_all_new-append, with_all_new-firsts}

abbrev rule_id : Rule → List ℕ
rule_id r = r.id

abbrev rules_of : List Finding → List Rule
rules_of fs = map (λ f. f.rule) fs

abbrev results_of : List Finding → List SarifResult
results_of fs = map (λ f. f.result) fs

-- ---- findings, one after the other

pub tells_none : (run : Run) → Tells run run []
tells_none run = record { rules = refl; results = sym (append-nil run.results) }

-- first these findings, then those
tells_both : (xs ys : List Finding) (a b c : Run) → Tells a b xs → Tells b c ys → Tells a c (xs ++ ys)
tells_both xs ys a b c h k = record {
  rules =
      k.rules
      ∙ ap (λ rs. with_all_new rule_id rs (rules_of ys)) h.rules
      ∙ sym (with_all_new-append rule_id a.rules (rules_of xs) (rules_of ys))
      ∙ ap (with_all_new rule_id a.rules) (sym (map-append (λ f. f.rule) xs ys));
  results =
      k.results
      ∙ ap (λ rs. rs ++ results_of ys) h.results
      ∙ append_assoc a.results (results_of xs) (results_of ys)
      ∙ ap (λ rs. a.results ++ rs) (sym (map-append (λ f. f.result) xs ys));
}

-- the findings of one item more
findings_more : {X : Type 0} (g : X → List Finding) (xs : List X) (i : ℕ) (d : X) → i < length xs
    → flat_map g (take (i + 1) xs) ≡ flat_map g (take i xs) ++ g (get_or xs i d)
findings_more g xs i d l =
    ap (flat_map g) (take_more xs i d l)
    ∙ flat_map-append g (take i xs) (get_or xs i d ∷ [])
    ∙ ap (λ t. flat_map g (take i xs) ++ t) (append-nil (g (get_or xs i d)))

-- the findings of the first items, and then those of one more
pub tells_next : {X : Type 0} (g : X → List Finding) (xs : List X) (i : ℕ) (d : X) → i < length xs
    → (a b c : Run) → Tells a b (flat_map g (take i xs)) → Tells b c (g (get_or xs i d))
    → Tells a c (flat_map g (take (i + 1) xs))
tells_next g xs i d l a b c h k =
    let P : List Finding → Type 0 = λ fs. Tells a c fs in
    subst P (sym (findings_more g xs i d l)) (tells_both _ _ a b c h k)

-- ---- the whole run

abbrev run_with : List Rule → List SarifResult → Run
run_with rules results = record { rules = rules; results = results }

-- an empty run, these findings and those
pub run_made : (xs ys : List Finding) (a b c : Run) → a.rules ≡ [] → a.results ≡ []
    → Tells a b xs → Tells b c ys → c ≡ run_of (xs ++ ys)
run_made xs ys a b c no_rule no_result h k =
    let both = tells_both xs ys a b c h k in
    ap₂ run_with
    (both.rules ∙ ap (λ rs. with_all_new rule_id rs (rules_of (xs ++ ys))) no_rule
    ∙ with_all_new-firsts rule_id (rules_of (xs ++ ys)))
    (both.results ∙ ap (λ rs. rs ++ results_of (xs ++ ys)) no_result)

-- ---- the law

-- each result names the rule of its finding
hit_names : (uri : List ℕ) (p : Option Package) (a : Option Advisory)
    → map rule_id (rules_of (hit_finding uri p a)) ≡ map (λ r. r.rule_id) (results_of (hit_finding uri p a))
hit_names uri None a = refl
hit_names uri (Some p) None = refl
hit_names uri (Some p) (Some a) = refl

warning_names : (uri : List ℕ) (kind : WarningKind) (p : Option Package) (a : Option Advisory)
    → map rule_id (rules_of (warning_finding uri kind p a)) ≡ map (λ r. r.rule_id) (results_of (warning_finding uri kind p a))
warning_names uri kind None a = refl
warning_names uri kind (Some p) None = refl
warning_names uri kind (Some p) (Some a) = refl

abbrev Names : List Finding → Type 0
Names fs = map rule_id (rules_of fs) ≡ map (λ r. r.rule_id) (results_of fs)

names_both : (xs ys : List Finding) → Names xs → Names ys → Names (xs ++ ys)
names_both xs ys h k =
    ap (map rule_id) (map-append (λ f. f.rule) xs ys)
    ∙ map-append rule_id (rules_of xs) (rules_of ys)
    ∙ ap₂ (λ a b. a ++ b) h k
    ∙ sym (map-append (λ r. r.rule_id) (results_of xs) (results_of ys))
    ∙ ap (map (λ r. r.rule_id)) (sym (map-append (λ f. f.result) xs ys))

names_each : {X : Type 0} (g : X → List Finding) → ((x : X) → Names (g x)) → (xs : List X) → Names (flat_map g xs)
names_each g h [] = refl
names_each g h (x ∷ xs) = names_both (g x) (flat_map g xs) (h x) (names_each g h xs)

findings_name : (uri : List ℕ) (advisories : List Advisory) (packages : List Package) (report : Report)
    → Names (findings_of uri advisories packages report)
findings_name uri advisories packages report =
    names_both (flat_map (hit_finding_at uri advisories packages) report.vulnerabilities)
    (flat_map (warning_finding_at uri advisories packages) report.warnings)
    (names_each (hit_finding_at uri advisories packages)
    (λ v. hit_names uri (slice_get packages v.«package») (slice_get advisories v.advisory)) report.vulnerabilities)
    (names_each (warning_finding_at uri advisories packages)
    (λ w. warning_names uri w.kind (slice_get packages w.«package») (advisory_at advisories w.advisory)) report.warnings)

-- the rules of findings whose results name them
rules_are_first : (fs : List Finding) → Names fs → HasRulesOfResults (run_of fs)
rules_are_first fs h =
    let ids : map rule_id (first_of_each rule_id (rules_of fs)) ≡ first_of_each (λ t. t) (map (λ r. r.rule_id) (results_of fs)) =
    map_firsts rule_id (rules_of fs) ∙ ap (first_of_each (λ t. t)) h in
    let P : List (List ℕ) → Type 0 = λ ids. AreEachOnce ids (map (λ r. r.rule_id) (results_of fs)) in
    subst P (sym ids) (first_uses (map (λ r. r.rule_id) (results_of fs)))

pub rules_of_results : (uri : List ℕ) (advisories : List Advisory) (packages : List Package) (report : Report)
    → HasRulesOfResults (run_of (findings_of uri advisories packages report))
rules_of_results uri advisories packages report =
    rules_are_first (findings_of uri advisories packages report) (findings_name uri advisories packages report)
