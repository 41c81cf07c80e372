-- The plan for the vulnerable packages of an audit, from what the cache keeps (this project).
use Rattle.std.specs.Prelude.{◌≡◌, ◌≢◌, ◌⊎◌, ◌<◌, ℕ, List, [], length, map, get_or, IfSome, IsSomeAnd, Bool, true, false, ◌==◌, Option, Some, None, slice_get}
use Rattle.std.specs.List.{AllByRecursion, filter, list_any}
use Rattle.tame_names.specs.Counts.{CountRoseBy}
use Rattle.tame_cache.specs.Disk.{File, reads}
use Rattle.tame_cache.specs.FailedCalls.{FailedDiskCalls, FailedReading}
use Rattle.tame_cache.specs.Kept.{Disk, cache_file_of}
use Rattle.tame_cache.specs.declared.cache.IndexCache.{IndexCache}
use Rattle.tame_sparse.specs.Exchanges.{crates_io_index}
use Rattle.audit_lock.specs.declared.resolving.Package.{Package}
use Rattle.audit_advisory.specs.Hits.{is_from_default}
use Rattle.audit_advisory.specs.Places.{places_from, places_where}
use Rattle.audit_advisory.specs.Reports.{is_vulnerability}
use Rattle.audit_advisory.specs.declared.advisories.Advisory.{Advisory}
use Rattle.audit_advisory.specs.declared.reports.Vulnerability.{Vulnerability}
use Rattle.audit_advisory.specs.declared.settings.Settings.{Settings}
use Rattle.audit_core.specs.declared.auditing.Audited.{Audited}
use Rattle.upgrade_plan.specs.Least.{IsLeastSafe}
use Rattle.upgrade_plan.specs.Recorded.{file_records}
use Rattle.upgrade_plan.specs.declared.records.NoRecord.TheVariants as why
use Rattle.upgrade_plan.specs.declared.records.Recorded.{Recorded}
use Rattle.upgrade_plan.specs.declared.records.Recorded.TheVariants.{Versions, Missing}
use Rattle.upgrade_plan.specs.declared.plans.PlanItem.{PlanItem}
use Rattle.upgrade_plan.specs.declared.plans.PlanOutcome.{PlanOutcome}
use Rattle.upgrade_plan.specs.declared.plans.PlanOutcome.TheVariants as outcome

-- ---- of a package

-- from the records of its crate: the least safe version, or that there is none, or why there are
-- no records
abbrev pub IsOutcome : Settings → List Advisory → Package → Recorded → PlanOutcome → Type 0
IsOutcome settings advisories p (Missing cause) o = o ≡ outcome.NoRecord cause
IsOutcome settings advisories p (Versions krate) (outcome.To w) =
    IsLeastSafe settings advisories p krate.versions (Some w)
IsOutcome settings advisories p (Versions krate) outcome.NoneSafe =
    IsLeastSafe settings advisories p krate.versions None
IsOutcome settings advisories p (Versions krate) (outcome.NoRecord cause) = ⊥

-- it is by the file of its path, or the file couldn't be read
pub record IsFileOutcome (told : Type 0) (settings : Settings) (advisories : List Advisory)
    (index : List ℕ) (p : Package) (file : File) (o : PlanOutcome) : Type 0 where
  pub of_default : o ≢ outcome.NoRecord why.Source
  pub named : o ≢ outcome.NoRecord why.Name
  pub by_file : told → IsOutcome settings advisories p (file_records index file) o
      ⊎ (o ≡ outcome.NoRecord why.Store)

-- its name has no path, or it is by the file of the path
abbrev pub IsPathOutcome : Type 0 → Settings → List Advisory → List ℕ → (List ℕ → File)
    → Package → Option (List ℕ) → PlanOutcome → Type 0
IsPathOutcome told settings advisories index files p None o = o ≡ outcome.NoRecord why.Name
IsPathOutcome told settings advisories index files p (Some q) o =
    IsFileOutcome told settings advisories index p (files q) o

-- it isn't from the default registry, or the outcome is by its name
abbrev pub IsSourceOutcome : Type 0 → Settings → List Advisory → IndexCache → (List ℕ → File)
    → Package → Bool → PlanOutcome → Type 0
IsSourceOutcome told settings advisories cache files p false o = o ≡ outcome.NoRecord why.Source
IsSourceOutcome told settings advisories cache files p true o =
    IsPathOutcome told settings advisories cache.index files p
    (cache_file_of cache.path p.name) o

-- what is planned for a package, from the cache files of an index
abbrev pub IsPlanOf : Type 0 → Settings → List Advisory → IndexCache → (List ℕ → File)
    → Package → PlanOutcome → Type 0
IsPlanOf told settings advisories cache files p o =
    IsSourceOutcome told settings advisories cache files p (is_from_default p.source) o

-- ---- of an audit

-- some vulnerability is of the package at a place
abbrev pub has_vulnerability : List Vulnerability → ℕ → Bool
has_vulnerability vulnerabilities place =
    list_any (λ v. v.«package» == place) vulnerabilities

-- for each of this many places, whether some vulnerability is of the package there
pub record AreFlagsOf (vulnerabilities : List Vulnerability) (count : ℕ) (flags : List Bool)
    : Type 0 where
  pub one_each : length flags ≡ count
  pub each : (place : ℕ) → place < count
      → get_or flags place false ≡ has_vulnerability vulnerabilities place

-- the places of the packages that have a vulnerability
abbrev pub vulnerable_places : List Vulnerability → List Package → List ℕ
vulnerable_places vulnerabilities packages =
    filter (has_vulnerability vulnerabilities) (places_from 0 packages)

-- some advisory counts as a vulnerability, and hits the package
abbrev pub is_hit : Settings → List Advisory → Package → Bool
is_hit settings advisories p = list_any (is_vulnerability settings p) advisories

-- the places of the packages that are hit
abbrev pub hit_places : Settings → List Advisory → List Package → List ℕ
hit_places settings advisories packages = places_where (is_hit settings advisories) packages

-- an item has the place of a package, and what is planned for it
abbrev pub IsPlannedAt : (Package → PlanOutcome → Type 0) → List Package → PlanItem → Type 0
IsPlannedAt planned packages item =
    IfSome (slice_get packages item.«package») (λ p. planned p item.outcome)

-- a cache entry couldn't be read
abbrev pub is_store : PlanOutcome → Bool
is_store (outcome.To w) = false
is_store outcome.NoneSafe = false
is_store (outcome.NoRecord why.Source) = false
is_store (outcome.NoRecord why.Name) = false
is_store (outcome.NoRecord why.Store) = true
is_store (outcome.NoRecord why.Absent) = false
is_store (outcome.NoRecord why.Record) = false

-- how many items say that a cache entry couldn't be read
abbrev pub stores : List PlanItem → ℕ
stores items = length (filter (λ item. is_store item.outcome) items)

-- a plan read this file: it says that it couldn't be read if the read failed, and no other call
-- on the disk did; else none failed
pub record ReadsOnly (file : Option (List ℕ)) (before now : FailedDiskCalls) (o : PlanOutcome)
    : Type 0 where
  pub store : o ≡ outcome.NoRecord why.Store → IsSomeAnd file (λ q. FailedReading q before now)
  pub quiet : o ≢ outcome.NoRecord why.Store → now ≡ before

-- the same for an item and the file of its own package
abbrev pub ReadsOwn : IndexCache → List Package → PlanItem → FailedDiskCalls → FailedDiskCalls
    → Type 0
ReadsOwn cache packages item before now =
    IsSomeAnd (slice_get packages item.«package»)
    (λ p. ReadsOnly (cache_file_of cache.path p.name) before now item.outcome)

-- the cache of the index that audits ask
abbrev pub crates_io_cache : IndexCache
crates_io_cache = record { path = []; index = crates_io_index }

-- one item for each package that has a vulnerability, in lockfile order, each by the file that a
-- read of its path gives; if entries couldn't be read, the disk's count rose by at least as many
pub record IsPlanBy (told : Type 0) (advisories : List Advisory) (audited : Audited) (files : Disk)
    (faults faults_now : ℕ) (items : List PlanItem) : Type 0 where
  pub packages : map (λ item. item.«package») items
      ≡ vulnerable_places audited.report.vulnerabilities audited.lockfile
  pub planned : AllByRecursion (IsPlannedAt (IsPlanOf told audited.report.settings advisories
      crates_io_cache (λ q. reads (files q))) audited.lockfile) items
  pub stores : CountRoseBy (stores items) faults faults_now
