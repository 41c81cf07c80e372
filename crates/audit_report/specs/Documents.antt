-- The JSON form of a report: an object with its members in this order, in its compact text (this
-- project, after cargo-audit).
use Rattle.std.specs.Prelude.{◌≡◌, ℕ, Bool, codes, List, [], ◌∷◌, ◌++◌, length, nat_lt, Option, Some, None, slice_get, if◌then◌else◌}
use Rattle.std.specs.List.{flat_map, list_any}
use Rattle.json.specs.Json.{Json, boolean, document}
use Rattle.json.specs.Token.{Token, key}
use Rattle.json.specs.Tree.{json_tokens}
use Rattle.audit_report.specs.Objects.{hit_object, settings_object, warning_object}
use Rattle.report_parts.specs.Values.{array_of, count, json_text, object_of}
pub use Rattle.report_parts.specs.Values.{listed_tokens, member_if}
use Rattle.audit_advisory.specs.Reports.{advisory_at}
use Rattle.audit_advisory.specs.Exits.{same_kind}
use Rattle.report_parts.specs.Words.{kind_word}
use Rattle.audit_advisory.specs.declared.advisories.Advisory.{Advisory}
use Rattle.audit_lock.specs.declared.resolving.Package.{Package}
use Rattle.audit_advisory.specs.declared.reports.Report.{Report}
use Rattle.audit_advisory.specs.declared.reports.Vulnerability.{Vulnerability}
use Rattle.audit_advisory.specs.declared.reports.Warning.{Warning}
use Rattle.audit_advisory.specs.declared.outputs.WarningKind.{WarningKind}
use Rattle.audit_advisory.specs.declared.outputs.WarningKind.TheVariants as kind

-- ---- the vulnerabilities; a place without an item gives none

abbrev pub hit_of : Option Package → Option Advisory → List Json
hit_of (Some p) (Some a) = hit_object p a ∷ []
hit_of (Some p) None = []
hit_of None a = []

abbrev pub hit_at : List Advisory → List Package → Vulnerability → List Json
hit_at advisories packages v =
    hit_of (slice_get packages v.«package») (slice_get advisories v.advisory)

abbrev pub found_object : List Advisory → List Package → List Vulnerability → Json
found_object advisories packages found = object_of (
    (codes "found", boolean (nat_lt 0 (length found))) ∷
    (codes "count", count (length found)) ∷
    (codes "list", array_of (flat_map (hit_at advisories packages) found)) ∷ [])

-- ---- the warnings, by the kinds that occur

abbrev pub warning_of : WarningKind → Option Package → Option Advisory → List Json
warning_of kind (Some p) a = warning_object kind p a ∷ []
warning_of kind None a = []

abbrev pub kind_warning_at : WarningKind → List Advisory → List Package → Warning → List Json
kind_warning_at kind advisories packages w =
    if same_kind w.kind kind
    then warning_of kind (slice_get packages w.«package») (advisory_at advisories w.advisory)
    else []

abbrev pub occurs : WarningKind → List Warning → Bool
occurs kind warnings = list_any (λ w. same_kind w.kind kind) warnings

abbrev pub kind_member : WarningKind → List Advisory → List Package → List Warning
    → List (List ℕ × Json)
kind_member kind advisories packages warnings =
    member_if (occurs kind warnings) (kind_word kind)
    (array_of (flat_map (kind_warning_at kind advisories packages) warnings))

abbrev pub warnings_object : List Advisory → List Package → List Warning → Json
warnings_object advisories packages warnings = object_of (
    kind_member kind.Notice advisories packages warnings
    ++ (kind_member kind.Unmaintained advisories packages warnings
    ++ (kind_member kind.Unsound advisories packages warnings
    ++ kind_member kind.Yanked advisories packages warnings)))

-- ---- the report

abbrev pub report_object : List Advisory → List Package → Report → Json
report_object advisories packages r = object_of (
    (codes "database", object_of ((codes "advisory-count", count r.advisory_count) ∷ [])) ∷
    (codes "lockfile", object_of ((codes "dependency-count", count r.dependency_count) ∷ [])) ∷
    (codes "settings", settings_object r.settings) ∷
    (codes "vulnerabilities", found_object advisories packages r.vulnerabilities) ∷
    (codes "warnings", warnings_object advisories packages r.warnings) ∷ [])

-- one line
unfoldable pub report_line : List Advisory → List Package → Report → List ℕ
report_line advisories packages r = json_text (report_object advisories packages r) ++ codes "\n"

-- the line, with its newline, is read as that object (the reader of `json`, RFC 8259)
abbrev pub ReadsBack : List Advisory → List Package → Report → Type 0
ReadsBack advisories packages r =
    document (report_line advisories packages r) ≡ Some (report_object advisories packages r)
