-- What `fix` plans for the vulnerabilities of an audit (this project, after cargo-audit).
use Rattle.std.specs.Prelude.{◌≡◌, ◌+◌, ℕ, codes, List, [], ◌∷◌, ◌++◌, filter, filter_map, length, Bool, not, nat_eq, ◌==◌, Option, Some, None, option_map, option_and_then, slice_get, if◌then◌else◌}
use Rattle.std.specs.List.{list_any}
use Rattle.audit_lock.specs.declared.resolving.Package.{Package}
use Rattle.audit_advisory.specs.declared.advisories.Advisory.{Advisory}
use Rattle.audit_advisory.specs.declared.reports.Vulnerability.{Vulnerability}
use Rattle.audit_fix.specs.declared.plans.FixPlan.{FixPlan}
use Rattle.audit_fix.specs.declared.plans.FixStep.{FixStep}

-- ---- what can be done about a vulnerability

-- the advisory has a patched requirement
abbrev pub is_patched : Advisory → Bool
is_patched a = not (length a.versions.patched == 0)

-- the package that can be updated: the vulnerability's, if its advisory is patched; a place without
-- an item gives none
abbrev pub patchable : List Advisory → List Package → Vulnerability → Option Package
patchable advisories packages v =
    option_and_then (λ a. if is_patched a then slice_get packages v.«package» else None)
    (slice_get advisories v.advisory)

-- the advisory of a vulnerability, if nothing is patched
abbrev pub unpatched : List Advisory → Vulnerability → Option Advisory
unpatched advisories v =
    option_and_then (λ a. if is_patched a then None else Some a) (slice_get advisories v.advisory)

-- ---- steps

-- cargo's arguments to update a package
abbrev pub plain_words : Package → List (List ℕ)
plain_words p = codes "update" ∷ codes "--package" ∷ (p.name ++ codes "@" ++ p.version) ∷ []

-- in a dry run, one more argument
abbrev pub update_words : Bool → Package → List (List ℕ)
update_words dry_run p = plain_words p ++ (if dry_run then codes "--dry-run" ∷ [] else [])

abbrev pub step_of : Bool → List Advisory → List Package → Vulnerability → Option FixStep
step_of dry_run advisories packages v =
    option_map (λ p. record { «package» = v.«package»; words = update_words dry_run p })
    (patchable advisories packages v)

-- ---- unpatchable advisories

-- the place of a vulnerability's advisory, if nothing is patched
abbrev pub unpatched_place : List Advisory → Vulnerability → Option ℕ
unpatched_place advisories v = option_map (λ a. v.advisory) (unpatched advisories v)

-- each place once, where it is first
abbrev pub each_once : List ℕ → List ℕ
each_once [] = []
each_once (place ∷ places) = place ∷ filter (λ p. not (nat_eq place p)) (each_once places)

-- ---- places so far

-- a place is there
abbrev pub is_among : ℕ → List ℕ → Bool
is_among place places = list_any (λ p. nat_eq p place) places

-- one more place, unless it is there
abbrev pub with_new : List ℕ → ℕ → List ℕ
with_new places place = if is_among place places then places else places ++ place ∷ []

-- with the place, if there is one
abbrev pub with_each : List ℕ → Option ℕ → List ℕ
with_each places None = places
with_each places (Some place) = with_new places place

-- ---- the plan

-- the steps of the vulnerabilities that have one, and the advisories of those without a patch
abbrev pub fix_plan : Bool → List Advisory → List Package → List Vulnerability → FixPlan
fix_plan dry_run advisories packages vulnerabilities = record {
  steps = filter_map (step_of dry_run advisories packages) vulnerabilities;
  unpatchable = each_once (filter_map (unpatched_place advisories) vulnerabilities);
}

-- steps and vulnerabilities without a patch are together as many as the vulnerabilities
abbrev pub LeavesNoneOut : List Advisory → List Vulnerability → FixPlan → Type 0
LeavesNoneOut advisories vulnerabilities plan =
    length plan.steps + length (filter_map (unpatched_place advisories) vulnerabilities)
    ≡ length vulnerabilities
