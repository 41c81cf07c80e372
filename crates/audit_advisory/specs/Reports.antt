-- The report of an audit: a filter over all pairs of a package and an advisory (this project, after
-- cargo-audit).
use Rattle.std.specs.Prelude.{ℕ, ◌<◌, List, ◌++◌, length, map, flat_map, All, IfSome, Bool, true, false, not, ◌&&◌, is_none, Option, Some, None, option_and_then, slice_get}
use Rattle.std.specs.List.{filter, list_any}
use Rattle.audit_lock.specs.declared.resolving.Package.{Package}
use Rattle.audit_advisory.specs.Hits.{affects, hits, is_among}
use Rattle.audit_advisory.specs.Places.{Placed, placed}
use Rattle.audit_advisory.specs.declared.advisories.Advisory.{Advisory}
use Rattle.audit_advisory.specs.declared.metadata.Informational.{Informational}
use Rattle.audit_advisory.specs.declared.metadata.Informational.TheVariants as told
use Rattle.audit_advisory.specs.declared.outputs.WarningKind.{WarningKind}
use Rattle.audit_advisory.specs.declared.outputs.WarningKind.TheVariants as kind
use Rattle.audit_advisory.specs.declared.reports.Report.{Report}
use Rattle.audit_advisory.specs.declared.reports.Vulnerability.{Vulnerability}
use Rattle.audit_advisory.specs.declared.reports.Warning.{Warning}
use Rattle.audit_advisory.specs.declared.settings.Settings.{Settings}

-- ---- places

-- the advisory at a place, if one is named and the list has it
abbrev pub advisory_at : List Advisory → Option ℕ → Option Advisory
advisory_at advisories place = option_and_then (slice_get advisories) place

-- ---- which pairs count

-- an advisory counts: it isn't withdrawn, and its id isn't ignored
abbrev pub counts : Settings → Advisory → Bool
counts settings a = is_none a.metadata.withdrawn && not (is_among a.metadata.id settings.ignore)

-- an advisory counts, and affects a package of its name
abbrev pub speaks_of : Settings → Package → Advisory → Bool
speaks_of settings p a = counts settings a && affects settings a p

-- ---- vulnerabilities

abbrev pub is_plain : Advisory → Bool
is_plain a = is_none a.metadata.informational

-- an advisory counts, isn't informational, and hits a package
abbrev pub is_vulnerability : Settings → Package → Advisory → Bool
is_vulnerability settings p a = is_plain a && counts settings a && hits settings a p

-- ---- warnings

-- a warning of this kind is about this kind of advisory
abbrev pub tells : WarningKind → Informational → Bool
tells kind.Notice told.Notice = true
tells kind.Unmaintained told.Unmaintained = true
tells kind.Unsound told.Unsound = true
tells _ _ = false

abbrev pub is_told : WarningKind → Option Informational → Bool
is_told k None = false
is_told k (Some informational) = tells k informational

-- the settings list this kind
abbrev pub is_listed : WarningKind → Settings → Bool
is_listed k settings =
    list_any (λ informational. tells k informational) settings.informational_warnings

-- an advisory is informational, of this kind, and the kind is listed
abbrev pub is_warned_of : WarningKind → Settings → Advisory → Bool
is_warned_of k settings a = is_told k a.metadata.informational && is_listed k settings

-- such an advisory counts, and hits a package
abbrev pub is_warning : Settings → WarningKind → Package → Advisory → Bool
is_warning settings k p a = is_warned_of k settings a && counts settings a && hits settings a p

-- ---- the report

-- a package and an advisory, each with its place
pub record Pair : Type 0 where
  pub locked : Placed Package
  pub advisory : Placed Advisory

abbrev pub pair_of : Placed Package → Placed Advisory → Pair
pair_of p a = record { locked = p; advisory = a }

-- all pairs, by package, then by advisory
abbrev pub all_pairs : List (Placed Package) → List (Placed Advisory) → List Pair
all_pairs packages advisories = flat_map (λ p. map (pair_of p) advisories) packages

-- the pairs that pass a test
abbrev pub pairs_where : (Package → Advisory → Bool) → List Package → List Advisory → List Pair
pairs_where test packages advisories =
    filter (λ (pair : Pair). test pair.locked.item pair.advisory.item)
    (all_pairs (placed packages) (placed advisories))

abbrev pub vulnerability_at : ℕ → ℕ → Vulnerability
vulnerability_at i j = record { advisory = j; «package» = i }

abbrev pub vulnerabilities_of : Settings → List Advisory → List Package → List Vulnerability
vulnerabilities_of settings advisories packages =
    map (λ (pair : Pair). vulnerability_at pair.locked.place pair.advisory.place)
    (pairs_where (is_vulnerability settings) packages advisories)

abbrev pub warning_at : WarningKind → ℕ → ℕ → Warning
warning_at k i j = record { kind = k; «package» = i; advisory = Some j }

abbrev pub warnings_of : Settings → List Advisory → List Package → WarningKind → List Warning
warnings_of settings advisories packages k =
    map (λ (pair : Pair). warning_at k pair.locked.place pair.advisory.place)
    (pairs_where (is_warning settings k) packages advisories)

-- the vulnerabilities by package, then advisory; the warnings by kind, then package, then advisory
abbrev pub report_of : Settings → List Advisory → List Package → Report
report_of settings advisories packages = record {
  settings = settings;
  advisory_count = length advisories;
  dependency_count = length packages;
  vulnerabilities = vulnerabilities_of settings advisories packages;
  warnings = warnings_of settings advisories packages kind.Notice
      ++ warnings_of settings advisories packages kind.Unmaintained
      ++ warnings_of settings advisories packages kind.Unsound;
}

-- each place is below its count
pub record IsPlaced (report : Report) : Type 0 where
  pub vulnerabilities : All (λ v. (v.advisory < report.advisory_count)
      × (v.«package» < report.dependency_count)) report.vulnerabilities
  pub warnings : All (λ w. (w.«package» < report.dependency_count)
      × IfSome w.advisory (λ a. a < report.advisory_count)) report.warnings

-- ---- yanked packages

abbrev pub yanked_at : ℕ → Warning
yanked_at i = record { kind = kind.Yanked; «package» = i; advisory = None }

-- warnings for these packages come after the others
abbrev pub with_yanked : Report → List ℕ → Report
with_yanked report packages = record report { warnings = report.warnings ++ map yanked_at packages }
