-- The blocks of the terminal form: one for each vulnerability, then one for each warning (this
-- project, after cargo-audit).
use Rattle.std.specs.Prelude.{ℕ, codes, List, [], ◌∷◌, ◌++◌, Option, Some, None, option_map, slice_get}
use Rattle.std.specs.List.{flat_map}
use Rattle.std.specs.Option.{option_map_or}
use Rattle.audit_lock.specs.Rendering.{rendering}
use Rattle.audit_lock.specs.declared.resolving.Package.{Package}
use Rattle.audit_advisory.specs.Reports.{advisory_at}
use Rattle.audit_advisory.specs.declared.advisories.Advisory.{Advisory}
use Rattle.audit_advisory.specs.declared.metadata.Metadata.{Metadata}
use Rattle.audit_advisory.specs.declared.outputs.WarningKind.{WarningKind}
use Rattle.audit_advisory.specs.declared.reports.Report.{Report}
use Rattle.audit_advisory.specs.declared.reports.Vulnerability.{Vulnerability}
use Rattle.audit_advisory.specs.declared.reports.Warning.{Warning}
use Rattle.audit_report.specs.Affected.{affected_line}
use Rattle.report_parts.specs.Attributes.{attribute, attribute_if, score, url_of}
use Rattle.audit_report.specs.Symbols.{Segments}
use Rattle.report_parts.specs.Words.{kind_word}

-- ---- lines

unfoldable pub crate_lines : Package → List ℕ
crate_lines p = attribute (codes "Crate:") p.name ++ attribute (codes "Version:") p.version

unfoldable pub metadata_lines : Metadata → List ℕ
metadata_lines m =
    attribute (codes "Title:") m.title
    ++ attribute (codes "Date:") m.date
    ++ attribute (codes "ID:") m.id
    ++ attribute_if (codes "URL:") (url_of m)
    ++ attribute_if (codes "Severity:") (option_map score m.score_tenths)

-- the patched requirements after the first
abbrev pub or_texts : List (List ℕ) → List ℕ
or_texts texts = flat_map (λ t. codes " OR " ++ t) texts

unfoldable pub solution : List (List ℕ) → List ℕ
solution [] = codes "No fixed upgrade is available!"
solution (t ∷ ts) = codes "Upgrade to " ++ t ++ or_texts ts

unfoldable pub vulnerability_lines : Option (List Segments) → Package → Advisory → List ℕ
vulnerability_lines symbols p a =
    crate_lines p
    ++ metadata_lines a.metadata
    ++ attribute (codes "Solution:") (solution a.versions.patched)
    ++ affected_line symbols p a

-- what an advisory says in a warning about a package
unfoldable pub told_lines : Option (List Segments) → Package → Advisory → List ℕ
told_lines symbols p a = metadata_lines a.metadata ++ affected_line symbols p a

unfoldable pub warning_lines : Option (List Segments) → WarningKind → Package → Option Advisory
    → List ℕ
warning_lines symbols kind p advisory =
    crate_lines p
    ++ attribute (codes "Warning:") (kind_word kind)
    ++ option_map_or (told_lines symbols p) advisory []

-- ---- blocks

-- the lines of a block, and the package whose tree follows them
pub record Block : Type 0 where
  pub lines : List ℕ
  pub locked : Package
  pub tree : List ℕ

unfoldable pub tree_at : List Package → ℕ → List ℕ
tree_at packages place = rendering packages place

-- the block of a vulnerability; a place without an item gives none
abbrev pub vulnerability_block : Option (List Segments) → List ℕ → Option Package
    → Option Advisory → List Block
vulnerability_block symbols tree (Some p) (Some a) =
    record { lines = vulnerability_lines symbols p a; locked = p; tree = tree } ∷ []
vulnerability_block symbols tree (Some p) None = []
vulnerability_block symbols tree None advisory = []

abbrev pub warning_block : Option (List Segments) → List ℕ → WarningKind → Option Package
    → Option Advisory → List Block
warning_block symbols tree kind (Some p) advisory =
    record { lines = warning_lines symbols kind p advisory; locked = p; tree = tree } ∷ []
warning_block symbols tree kind None advisory = []

abbrev pub vulnerability_blocks : Option (List Segments) → List Advisory → List Package
    → Vulnerability → List Block
vulnerability_blocks symbols advisories packages v =
    vulnerability_block symbols (tree_at packages v.«package»)
    (slice_get packages v.«package») (slice_get advisories v.advisory)

abbrev pub warning_blocks : Option (List Segments) → List Advisory → List Package → Warning
    → List Block
warning_blocks symbols advisories packages w =
    warning_block symbols (tree_at packages w.«package») w.kind
    (slice_get packages w.«package») (advisory_at advisories w.advisory)

-- the symbols are those of a binary, if they are set
abbrev pub blocks_of : Option (List Segments) → List Advisory → List Package → Report
    → List Block
blocks_of symbols advisories packages report =
    flat_map (vulnerability_blocks symbols advisories packages) report.vulnerabilities
    ++ flat_map (warning_blocks symbols advisories packages) report.warnings
