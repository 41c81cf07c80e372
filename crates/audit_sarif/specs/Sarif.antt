-- A report as a SARIF log (SARIF 2.1.0, sections 3.13, 3.14, 3.27, 3.49; this project, after
-- cargo-audit).
use Rattle.std.specs.Prelude.{ℕ, codes, List, [], ◌∷◌, ◌++◌, map, Option, Some, None, option_map, slice_get}
use Rattle.std.specs.List.{flat_map}
use Rattle.std.specs.Option.{option_map_or}
use Rattle.audit_lock.specs.declared.resolving.Package.{Package}
use Rattle.audit_advisory.specs.declared.advisories.Advisory.{Advisory}
use Rattle.audit_advisory.specs.declared.metadata.Metadata.{Metadata}
use Rattle.audit_advisory.specs.declared.outputs.WarningKind.{WarningKind}
use Rattle.audit_advisory.specs.declared.reports.Report.{Report}
use Rattle.audit_advisory.specs.declared.reports.Vulnerability.{Vulnerability}
use Rattle.audit_advisory.specs.declared.reports.Warning.{Warning}
use Rattle.report_parts.specs.Attributes.{one_decimal}
use Rattle.audit_advisory.specs.Reports.{advisory_at}
use Rattle.audit_sarif.specs.Firsts.{first_of_each}
use Rattle.audit_sarif.specs.SarifTexts.{fingerprint, help_markdown, help_text, hit_message, kind_text, warning_message}
use Rattle.report_parts.specs.Words.{kind_word}
use Rattle.audit_sarif.specs.declared.sarif_logs.Level.{Level}
use Rattle.audit_sarif.specs.declared.sarif_logs.Level.TheVariants as at
use Rattle.audit_sarif.specs.declared.sarif_logs.MultiformatMessageString.{MultiformatMessageString}
use Rattle.audit_sarif.specs.declared.sarif_logs.Precision.TheVariants as precise
use Rattle.audit_sarif.specs.declared.sarif_logs.Rule.{Rule}
use Rattle.audit_sarif.specs.declared.sarif_logs.Run.{Run}
use Rattle.audit_sarif.specs.declared.sarif_logs.SarifLog.{SarifLog}
use Rattle.audit_sarif.specs.declared.sarif_logs.SarifResult.{SarifResult}

-- ---- rules

abbrev pub plain : List ℕ → MultiformatMessageString
plain text = record { text = text; markdown = None }

-- no empty description
abbrev pub described : List ℕ → Option MultiformatMessageString
described [] = None
described (c ∷ cs) = Some (plain (c ∷ cs))

abbrev pub help : List ℕ → List ℕ → MultiformatMessageString
help id url = record { text = help_text url; markdown = Some (help_markdown id url) }

abbrev pub advisory_rule : Level → Metadata → Rule
advisory_rule level m = record {
  id = m.id;
  short_description = plain m.title;
  full_description = described m.description;
  level = level;
  help = option_map (help m.id) m.url;
  precision = precise.VeryHigh;
  security_severity = option_map one_decimal m.score_tenths;
}

abbrev pub kind_rule : WarningKind → Rule
kind_rule kind = record {
  id = kind_word kind;
  short_description = plain (kind_text kind);
  full_description = None;
  level = at.Warning;
  help = None;
  precision = precise.High;
  security_severity = None;
}

-- a warning is of its advisory's rule, or else of its kind's
abbrev pub warning_rule : WarningKind → Option Advisory → Rule
warning_rule kind None = kind_rule kind
warning_rule kind (Some a) = advisory_rule at.Warning a.metadata

abbrev pub warning_id : WarningKind → Option Advisory → List ℕ
warning_id kind advisory = option_map_or (λ a. a.metadata.id) advisory (kind_word kind)

-- ---- results

abbrev pub hit_result : List ℕ → Package → Advisory → SarifResult
hit_result uri p a = record {
  rule_id = a.metadata.id;
  message = hit_message p a.metadata;
  level = at.Error;
  uri = uri;
  fingerprint = fingerprint a.metadata.id p;
}

abbrev pub warning_result : List ℕ → WarningKind → Package → Option Advisory → SarifResult
warning_result uri kind p advisory = record {
  rule_id = warning_id kind advisory;
  message = warning_message kind p advisory;
  level = at.Warning;
  uri = uri;
  fingerprint = fingerprint (warning_id kind advisory) p;
}

-- ---- findings: vulnerabilities, then warnings; a place that nothing has gives none

-- a result, and the rule that it names
pub record Finding : Type 0 where
  pub rule : Rule
  pub result : SarifResult

abbrev pub hit_finding : List ℕ → Option Package → Option Advisory → List Finding
hit_finding uri (Some p) (Some a) =
    record { rule = advisory_rule at.Error a.metadata; result = hit_result uri p a } ∷ []
hit_finding uri (Some p) None = []
hit_finding uri None advisory = []

abbrev pub warning_finding : List ℕ → WarningKind → Option Package → Option Advisory → List Finding
warning_finding uri kind (Some p) advisory =
    record { rule = warning_rule kind advisory; result = warning_result uri kind p advisory } ∷ []
warning_finding uri kind None advisory = []

abbrev pub hit_finding_at : List ℕ → List Advisory → List Package → Vulnerability → List Finding
hit_finding_at uri advisories packages v =
    hit_finding uri (slice_get packages v.«package») (slice_get advisories v.advisory)

abbrev pub warning_finding_at : List ℕ → List Advisory → List Package → Warning → List Finding
warning_finding_at uri advisories packages w =
    warning_finding uri w.kind
    (slice_get packages w.«package») (advisory_at advisories w.advisory)

abbrev pub findings_of : List ℕ → List Advisory → List Package → Report → List Finding
findings_of uri advisories packages report =
    flat_map (hit_finding_at uri advisories packages) report.vulnerabilities
    ++ flat_map (warning_finding_at uri advisories packages) report.warnings

-- ---- the log

-- of each id its first rule
abbrev pub run_of : List Finding → Run
run_of findings = record {
  rules = first_of_each (λ r. r.id) (map (λ f. f.rule) findings);
  results = map (λ f. f.result) findings;
}

abbrev pub sarif_log : List ℕ → List Advisory → List Package → Report → SarifLog
sarif_log uri advisories packages report =
    record { run = run_of (findings_of uri advisories packages report) }

-- where a report's results are located: in a binary, or in the lockfile
abbrev pub uri_of : Option (List ℕ) → List ℕ
uri_of path = option_map_or (λ p. p) path (codes "Cargo.lock")
