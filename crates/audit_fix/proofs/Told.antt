-- No vulnerability of an audit is left out of its plan.
use Rattle.std.proofs.Common.{◌≡◌, ◌<◌, ◌+◌, ◌∷◌, ℕ, zero, suc, List, [], Bool, true, false, cond, length, filter_map, Option, Some, None, option_map, refl, arith}
use Rattle.std.specs.Prelude.{All, slice_get}
use Rattle.std.specs.List.{cons_option}
use Rattle.std.proofs.lemmas.List.Elements.{All-tail}
use Rattle.audit_lock.specs.declared.resolving.Package.{Package}
use Rattle.audit_advisory.specs.declared.advisories.Advisory.{Advisory}
use Rattle.audit_advisory.specs.declared.reports.Vulnerability.{Vulnerability}
use Rattle.audit_core.specs.Auditors.{IsReportOf}
use Rattle.audit_core.specs.declared.auditing.Audited.{Audited}
use Rattle.audit_fix.specs.Plans.{LeavesNoneOut, is_patched, step_of, unpatched_place, update_words}
use Rattle.audit_fix.specs.declared.plans.FixStep.{FixStep}

-- at a place below the length there is an item
there : {A : Type 0} (xs : List A) (i : ℕ) → i < length xs → (x : A) × (slice_get xs i ≡ Some x)
there [] i low = absurd (omega (arith, low))
there (x ∷ xs) zero low = (x, refl)
there (x ∷ xs) (suc i) low = there xs i (omega (arith, low))

-- either a step or a place is added
either : {A P S : Type 0} (b : Bool) (step : P → S) (p : P) (place : ℕ) (a : A) (steps : List S) (places : List ℕ)
    → length (cons_option (option_map step (cond b (Some p) None)) steps) + length (cons_option (option_map (λ x. place) (cond b None (Some a))) places)
    ≡ suc (length steps + length places)
either true step p place a steps places = omega arith
either false step p place a steps places = omega arith

abbrev pub IsThere : List Advisory → List Package → Vulnerability → Type 0
IsThere advisories packages v = (v.advisory < length advisories) × (v.«package» < length packages)

one_told : (dry_run : Bool) (advisories : List Advisory) (packages : List Package) (v : Vulnerability) (steps : List FixStep) (places : List ℕ) → IsThere advisories packages v
    → length (cons_option (step_of dry_run advisories packages v) steps) + length (cons_option (unpatched_place advisories v) places)
    ≡ suc (length steps + length places)
one_told dry_run advisories packages v steps places low =
    let a = there advisories v.advisory low.0 in
    let p = there packages v.«package» low.1 in
    rw (a.1, p.1) (either (is_patched a.0) (λ q. record { «package» = v.«package»; words = update_words dry_run q }) p.0 v.advisory a.0 steps places)

pub each_told : (dry_run : Bool) (advisories : List Advisory) (packages : List Package) (vs : List Vulnerability) → All (IsThere advisories packages) vs
    → length (filter_map (step_of dry_run advisories packages) vs) + length (filter_map (unpatched_place advisories) vs) ≡ length vs
each_told dry_run advisories packages [] h = refl
each_told dry_run advisories packages (v ∷ vs) h =
    let more = each_told dry_run advisories packages vs (All-tail (IsThere advisories packages) v vs h) in
    let one = one_told dry_run advisories packages v (filter_map (step_of dry_run advisories packages) vs) (filter_map (unpatched_place advisories) vs) (h 0 v (omega arith)) in
    omega (arith, one, more)

-- for an audit of these advisories
pub tells_each : (dry_run : Bool) (advisories : List Advisory) (audited : Audited) (steps : List FixStep) (places : List ℕ) → IsReportOf advisories audited
    → steps ≡ filter_map (step_of dry_run advisories audited.lockfile) audited.report.vulnerabilities
    → LeavesNoneOut advisories audited.report.vulnerabilities (record { steps = steps; unpatchable = places })
tells_each dry_run advisories audited steps places of is =
    let placed : All (IsThere advisories audited.lockfile) audited.report.vulnerabilities =
    λ k d low. let h = of.placed.vulnerabilities k d low in (rw of.counted at h.0, rw of.packages at h.1) in
    rw is (each_told dry_run advisories audited.lockfile audited.report.vulnerabilities placed)
