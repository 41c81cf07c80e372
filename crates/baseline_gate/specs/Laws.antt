-- Definitions for the laws on the findings of audits (this project).
use Rattle.std.specs.Prelude.{◌≡◌, ℕ, List, [], ◌∷◌, ◌++◌, IsSome, Some, false, true, slice_get}
use Rattle.audit_lock.specs.declared.resolving.Package.{Package}
use Rattle.audit_advisory.specs.declared.advisories.Advisory.{Advisory}
use Rattle.audit_advisory.specs.declared.reports.Report.{Report}
use Rattle.audit_advisory.specs.declared.reports.Vulnerability.{Vulnerability}
use Rattle.audit_advisory.specs.declared.reports.Warning.{Warning}
use Rattle.known_findings.specs.Findings.{is_among}
use Rattle.known_findings.specs.declared.findings.Finding.{Finding}
use Rattle.known_findings.specs.declared.findings.FindingKind.TheVariants as kind
use Rattle.baseline_gate.specs.Reports.{advisory_at, finding, id_of, warning_kind}

-- ---- one finding

-- of a vulnerability: its package, and the id of its advisory
pub record IsOfHit (advisories : List Advisory) (packages : List Package) (v : Vulnerability)
    (f : Finding) : Type 0 where
  pub locked : Package
  pub advisory : Advisory
  pub is_locked : slice_get packages v.«package» ≡ Some locked
  pub is_advisory : slice_get advisories v.advisory ≡ Some advisory
  pub is : f ≡ finding kind.Vulnerability advisory.metadata.id locked

-- of a warning: its package, its kind, and the id of its advisory, which is there if it has one
pub record IsOfWarning (advisories : List Advisory) (packages : List Package) (w : Warning)
    (f : Finding) : Type 0 where
  pub locked : Package
  pub is_locked : slice_get packages w.«package» ≡ Some locked
  pub advisory : (place : ℕ) → w.advisory ≡ Some place → IsSome (slice_get advisories place)
  pub is : f ≡ finding (warning_kind w.kind) (id_of (advisory_at advisories w.advisory)) locked

-- ---- all of them

-- one for one, in their order
abbrev pub AreEach : {X : Type 0} → (X → Finding → Type 0) → List X → List Finding → Type 0
AreEach P [] [] = Unit {0}
AreEach P [] (f ∷ fs) = ⊥
AreEach P (x ∷ xs) [] = ⊥
AreEach P (x ∷ xs) (f ∷ fs) = P x f × AreEach P xs fs

-- those of a report's vulnerabilities, then those of its warnings
pub record AreOfReport (advisories : List Advisory) (packages : List Package) (report : Report)
    (findings : List Finding) : Type 0 where
  pub hits : List Finding
  pub warned : List Finding
  pub all : findings ≡ hits ++ warned
  pub each_hit : AreEach (IsOfHit advisories packages) report.vulnerabilities hits
  pub each_warning : AreEach (IsOfWarning advisories packages) report.warnings warned

-- ---- what is new

-- one of the findings is new: it isn't in the baseline
pub record HasNew (baseline findings : List Finding) : Type 0 where
  pub new : Finding
  pub found : is_among new findings ≡ true
  pub unknown : is_among new baseline ≡ false
