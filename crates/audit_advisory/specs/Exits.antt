-- When an audit fails (this project, after cargo-audit).
use Rattle.std.specs.Prelude.{ℕ, List, length, Bool, true, false, not, ◌&&◌, ◌||◌, ◌==◌}
use Rattle.std.specs.List.{list_any}
use Rattle.audit_advisory.specs.Outputs.{warning_kinds_of}
use Rattle.audit_advisory.specs.declared.outputs.DenyOption.{DenyOption}
use Rattle.audit_advisory.specs.declared.outputs.DenyOption.TheVariants as deny
use Rattle.audit_advisory.specs.declared.outputs.WarningKind.{WarningKind}
use Rattle.audit_advisory.specs.declared.outputs.WarningKind.TheVariants as kind
use Rattle.audit_advisory.specs.declared.reports.Report.{Report}
use Rattle.audit_advisory.specs.declared.reports.Warning.{Warning}

abbrev pub same_kind : WarningKind → WarningKind → Bool
same_kind kind.Notice kind.Notice = true
same_kind kind.Unmaintained kind.Unmaintained = true
same_kind kind.Unsound kind.Unsound = true
same_kind kind.Yanked kind.Yanked = true
same_kind _ _ = false

-- an option denies this kind
abbrev pub denies : WarningKind → DenyOption → Bool
denies k option = list_any (λ denied. same_kind denied k) (warning_kinds_of option)

-- some option denies this kind
abbrev pub is_denied : List DenyOption → WarningKind → Bool
is_denied options k = list_any (denies k) options

-- a warning is of a kind that is denied
abbrev pub has_denied : List Warning → List DenyOption → Bool
has_denied warnings options = list_any (λ warning. is_denied options warning.kind) warnings

-- a report has a vulnerability, or a warning of a denied kind
abbrev pub report_fails : Report → List DenyOption → Bool
report_fails report options =
    not (length report.vulnerabilities == 0) || has_denied report.warnings options

abbrev pub is_warnings : DenyOption → Bool
is_warnings deny.Warnings = true
is_warnings _ = false

-- `warnings` denies advisories on the auditor itself
abbrev pub denies_self : List DenyOption → Bool
denies_self options = list_any is_warnings options

-- there are advisories on the auditor itself, and they are denied
abbrev pub self_fails : List DenyOption → List ℕ → Bool
self_fails options self_advisories = not (length self_advisories == 0) && denies_self options

-- an audit fails because of its report, or of the advisories on the auditor itself
abbrev pub fails : Report → List DenyOption → List ℕ → Bool
fails report options self_advisories =
    report_fails report options || self_fails options self_advisories
