-- The auditor, and what it says by its advisories and settings (this project, after cargo-audit).
use Rattle.std.specs.Prelude.{◌≡◌, ◌≢◌, ℕ, suc, codes, List, [], ◌∷◌, ◌++◌, length, Bool, true, false, Result, Ok, Err}
use Rattle.toml_tables.specs.Results.{and_then}
use Rattle.audit_lock.specs.declared.resolving.Package.{Package}
use Rattle.audit_advisory.specs.Advisories.{advisory_of}
use Rattle.audit_advisory.specs.Exits.{fails}
use Rattle.audit_advisory.specs.Points.{Point}
use Rattle.audit_advisory.specs.Queries.{query}
use Rattle.audit_advisory.specs.Reports.{IsPlaced, report_of, with_yanked}
use Rattle.audit_advisory.specs.declared.advisories.Advisory.{Advisory}
use Rattle.audit_advisory.specs.declared.faults.AdvisoryFault.{AdvisoryFault}
use Rattle.audit_advisory.specs.declared.faults.AdvisoryFault.TheVariants as advisory_fault
use Rattle.audit_advisory.specs.declared.reports.Report.{Report}
use Rattle.audit_settings.specs.Reported.{report_settings}
use Rattle.audit_settings.specs.declared.configs.AuditConfig.{AuditConfig}
use Rattle.audit_core.specs.Checks.{checks_of}
use Rattle.audit_core.specs.declared.auditing.AuditError.{AuditError}
use Rattle.audit_core.specs.declared.auditing.AuditError.TheVariants as audit_error
use Rattle.audit_core.specs.declared.auditing.Audited.{Audited}
use Rattle.audit_core.specs.declared.auditors.Auditor.{Auditor}
use Rattle.audit_core.specs.declared.verdicts.Judged.{Judged}
use Rattle.audit_core.specs.declared.verdicts.Verdict.{Verdict}
use Rattle.audit_core.specs.declared.verdicts.Verdict.TheVariants.{Yanked, NotYanked, Unchecked}

-- ---- the auditor

-- that of these settings and advisories
abbrev pub auditor_of : AuditConfig → List Advisory → Auditor
auditor_of config advisories = record {
  database = advisories;
  settings = report_settings config;
  checks = checks_of config;
  deny = config.output.deny;
}

-- the advisory that a text is, or that it is none, with its number
abbrev pub at_text : ℕ → Result Advisory AdvisoryFault → Result Advisory AuditError
at_text n (Ok advisory) = Ok advisory
at_text n (Err fault) = Err (audit_error.Advisory n fault)

-- the advisories that texts are, counted from a number, or the first text that isn't one
abbrev pub advisories_from : ℕ → List (List ℕ) → Result (List Advisory) AuditError
advisories_from n [] = Ok []
advisories_from n (text ∷ texts) =
    and_then (λ advisory. and_then (λ more. Ok (advisory ∷ more)) (advisories_from (suc n) texts))
    (at_text n (advisory_of text))

abbrev pub text_auditor : AuditConfig → List (List ℕ) → Result Auditor AuditError
text_auditor config texts =
    and_then (λ advisories. Ok (auditor_of config advisories)) (advisories_from 0 texts)

-- this says that a text is no advisory, for a reason that isn't `NoMemory`
abbrev pub refuses_advisory : AuditError → Type 0
refuses_advisory (audit_error.Advisory n fault) = fault ≢ advisory_fault.NoMemory
refuses_advisory _ = ⊥

-- ---- the auditor itself

-- a version without a pre-release
abbrev pub release : ℕ → ℕ → ℕ → Point
release major minor patch = record { major = major; minor = minor; patch = patch; pre = [] }

-- the places of the advisories on cargo-audit 0.22.2, and of those on rustsec 0.33.0
abbrev pub self_advisories : List Advisory → List ℕ
self_advisories advisories =
    query (codes "cargo-audit") (release 0 22 2) advisories
    ++ query (codes "rustsec") (release 0 33 0) advisories

-- ---- report and exit

abbrev pub with_if_yanked : Verdict → ℕ → List ℕ → List ℕ
with_if_yanked Yanked place places = place ∷ places
with_if_yanked NotYanked place places = places
with_if_yanked (Unchecked c) place places = places

-- the places of the packages that are judged yanked, in their order
abbrev pub yanked_in : List Judged → List ℕ
yanked_in [] = []
yanked_in (j ∷ js) = with_if_yanked j.verdict j.«package» (yanked_in js)

-- by the auditor's advisories and settings, with the packages that are judged yanked after the
-- other warnings
abbrev pub audit_report : Auditor → List Package → List Judged → Report
audit_report auditor packages verdicts =
    with_yanked (report_of auditor.settings auditor.database packages) (yanked_in verdicts)

-- the report of an audit is one of these advisories and of its packages: it counts them, and each
-- place in it is that of one of them
pub record IsReportOf (advisories : List Advisory) (audited : Audited) : Type 0 where
  pub placed : IsPlaced audited.report
  pub counted : audited.report.advisory_count ≡ length advisories
  pub packages : audited.report.dependency_count ≡ length audited.lockfile

abbrev pub exit_of : Bool → ℕ
exit_of true = 1
exit_of false = 0

-- 1 if the audit fails: by its report, or by the advisories on the auditor itself; else 0
abbrev pub audit_exit : Auditor → Report → ℕ
audit_exit auditor report = exit_of (fails report auditor.deny (self_advisories auditor.database))
