-- The findings of an audit's report: each vulnerability, then each warning (this project).
use Rattle.std.specs.Prelude.{ℕ, List, [], ◌∷◌, ◌++◌, flat_map, unwrap_or, Option, Some, None, slice_get}
use Rattle.std.specs.Option.{option_map_or}
use Rattle.audit_lock.specs.declared.resolving.Package.{Package}
pub use Rattle.audit_advisory.specs.Reports.{advisory_at}
use Rattle.audit_advisory.specs.declared.advisories.Advisory.{Advisory}
use Rattle.audit_advisory.specs.declared.outputs.WarningKind.{WarningKind}
use Rattle.audit_advisory.specs.declared.outputs.WarningKind.TheVariants as told
use Rattle.audit_advisory.specs.declared.reports.Report.{Report}
use Rattle.audit_advisory.specs.declared.reports.Vulnerability.{Vulnerability}
use Rattle.audit_advisory.specs.declared.reports.Warning.{Warning}
use Rattle.audit_core.specs.declared.auditing.Audited.{Audited}
use Rattle.known_findings.specs.declared.findings.Finding.{Finding}
use Rattle.known_findings.specs.declared.findings.FindingKind.{FindingKind}
use Rattle.known_findings.specs.declared.findings.FindingKind.TheVariants as kind

abbrev pub warning_kind : WarningKind → FindingKind
warning_kind told.Notice = kind.Notice
warning_kind told.Unmaintained = kind.Unmaintained
warning_kind told.Unsound = kind.Unsound
warning_kind told.Yanked = kind.Yanked

-- the advisory's id, empty if there is none
abbrev pub id_of : Option Advisory → List ℕ
id_of advisory = option_map_or (λ a. a.metadata.id) advisory []

-- the package's source, empty if it has none
abbrev pub source_of : Package → List ℕ
source_of p = unwrap_or p.source []

abbrev pub finding : FindingKind → List ℕ → Package → Finding
finding k id p =
    record { kind = k; id = id; name = p.name; version = p.version; source = source_of p }

-- ---- a place without an item gives none

abbrev pub hit_finding : Option Package → Option Advisory → List Finding
hit_finding (Some p) (Some a) = finding kind.Vulnerability a.metadata.id p ∷ []
hit_finding (Some p) None = []
hit_finding None advisory = []

abbrev pub warning_finding : WarningKind → Option Package → Option Advisory → List Finding
warning_finding k (Some p) advisory = finding (warning_kind k) (id_of advisory) p ∷ []
warning_finding k None advisory = []

abbrev pub hit_finding_at : List Advisory → List Package → Vulnerability → List Finding
hit_finding_at advisories packages v =
    hit_finding (slice_get packages v.«package») (slice_get advisories v.advisory)

abbrev pub warning_finding_at : List Advisory → List Package → Warning → List Finding
warning_finding_at advisories packages w =
    warning_finding w.kind
    (slice_get packages w.«package») (advisory_at advisories w.advisory)

-- the findings of a report, in its order
abbrev pub findings_of : List Advisory → List Package → Report → List Finding
findings_of advisories packages report =
    flat_map (hit_finding_at advisories packages) report.vulnerabilities
    ++ flat_map (warning_finding_at advisories packages) report.warnings

-- the findings of an audit by these advisories
abbrev pub audit_findings : List Advisory → Audited → List Finding
audit_findings advisories audited = findings_of advisories audited.lockfile audited.report
