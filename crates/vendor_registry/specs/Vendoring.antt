-- What a call returns that creates a registry of an audit's packages (this project).
use Rattle.std.specs.Prelude.{◌≡◌, ◌≢◌, ◌-◌, ◌^◌, min, ℕ, List, length, Some, None, true, Result, Ok, Err, IsOk, IsTrue}
use Rattle.tame_names.specs.Counts.{CountRose}
use Rattle.tame_names.specs.Standing.{Host}
use Rattle.tame_names.specs.declared.errors.Error.{Error}
use Rattle.tame_local.specs.Builders.{after_change, created}
use Rattle.tame_local.specs.Inserts.{StandsPlain}
use Rattle.tame_local.specs.Registries.{registry_at}
use Rattle.audit_lock.specs.declared.resolving.Package.{Package}
use Rattle.vendor_registry.specs.Built.{AreFilled, IsBuilt, IsOccupied, IsReadBackFor, IsStoppedBy, IsTakenFor, IsUnfinished, free_fault, is_behind}
use Rattle.vendor_registry.specs.Checks.{Stock, all_checked, is_of_checks, is_of_package}
use Rattle.vendor_registry.specs.Failed.{IsWithin}
use Rattle.vendor_registry.specs.Looked.{looked}
use Rattle.vendor_registry.specs.Named.{AreVersioned, IsFolderPath}
use Rattle.vendor_registry.specs.Vendored.{IsBare, IsVendored, paths_of, size_of, vendored_files}
use Rattle.vendor_registry.specs.declared.checks.CheckedCrate.{CheckedCrate}
use Rattle.vendor_registry.specs.declared.faults.VendorFault.{VendorFault}
use Rattle.vendor_registry.specs.declared.faults.VendorFault.TheVariants as fault
use Rattle.vendor_registry.specs.declared.vendoring.Vendored.{Vendored}

-- what a registry is built from and where: what host and disk tell; the cache, the folder of the
-- crate files and the host as it was; the packages, and the folder of the registry; the host as it
-- is left, and how often the disk had failed, and has
pub record Vendoring : Type 1 where
  pub files_tell : Type 0
  pub disk_tells : Type 0
  pub stock : Stock
  pub packages : List Package
  pub folder : List ℕ
  pub now : Host
  pub disk_faults : ℕ
  pub disk_faults_now : ℕ

abbrev pub vendoring : Type 0 → Type 0 → Stock → List Package → List ℕ → Host → ℕ → ℕ → Vendoring
vendoring files_tell disk_tells stock packages folder now disk_faults disk_faults_now = record {
  files_tell = files_tell;
  disk_tells = disk_tells;
  stock = stock;
  packages = packages;
  folder = folder;
  now = now;
  disk_faults = disk_faults;
  disk_faults_now = disk_faults_now;
}

-- the folder was empty or absent, and is vendored for the audit; nothing else of the host changed
pub record IsRegistryMade (v : Vendoring) (made : Vendored) : Type 0 where
  pub vendored : v.files_tell → v.disk_tells → StandsPlain v.stock.host.stands
      → IsVendored v.stock v.packages v.folder v.now made
  pub free : v.files_tell → free_fault (v.stock.host.stands v.folder) ≡ None
  pub built : v.files_tell → v.disk_tells
      → IsBuilt v.stock v.packages v.folder v.stock.host v.now
  -- nothing was at an index file when its turn came
  pub filled : v.files_tell → v.disk_tells → (cs : List CheckedCrate)
      → all_checked v.stock (looked v.packages) ≡ Ok cs
      → AreFilled v.folder cs (paths_of cs) (after_change (created v.folder) v.stock.host)
  -- it agrees with its index
  pub opened : v.files_tell
      → registry_at v.now v.folder true ≡ Ok made.registry.index.path
  -- the numbers of its crate files and of their bytes are those of what was checked
  pub counted : v.files_tell → v.disk_tells → (cs : List CheckedCrate)
      → all_checked v.stock (looked v.packages) ≡ Ok cs
      → (made.packages ≡ length cs)
      × (made.bytes ≡ min (size_of (vendored_files cs)) (2 ^ 64 - 1))

-- none was created
pub record IsRegistryRefused (v : Vendoring) (reason : VendorFault) : Type 0 where
  -- a package is refused exactly by the first condition of the table that holds, and then nothing
  -- was written
  pub refused : v.files_tell → v.disk_tells → IsTrue (is_of_package reason)
      → all_checked v.stock (looked v.packages) ≡ Err reason
  pub unwritten : v.files_tell → IsTrue (is_of_checks reason) → v.now ≡ v.stock.host
  -- all packages are checked before anything is written: if a call failed at a path outside of the
  -- registry, such as that of a crate file, nothing was
  pub unread : v.files_tell → (at : List ℕ) → reason ≡ fault.File at
      → (IsWithin v.folder at → ⊥) → v.now ≡ v.stock.host
  -- an entry couldn't be read only if the disk failed; a call failed at the first package that
  -- wasn't checked, or at a path of the registry once all were
  pub store : (at : ℕ) → reason ≡ fault.Store at → CountRose v.disk_faults v.disk_faults_now
  pub stopped : v.files_tell → v.disk_tells → IsStoppedBy v.stock v.packages v.folder reason
  -- the folder is refused by what is there, once all packages were checked, and then nothing was
  -- written; or by an index file that has come meanwhile, which no empty folder has
  pub behind : v.files_tell → v.disk_tells → IsTrue (is_behind reason)
      → IsOk (all_checked v.stock (looked v.packages))
  pub occupied : v.files_tell → IsOccupied (v.stock.host.stands v.folder) reason
  pub unmade : v.files_tell → free_fault (v.stock.host.stands v.folder) ≡ Some reason
      → v.now ≡ v.stock.host
  pub taken : v.files_tell → v.disk_tells → (n : ℕ) → reason ≡ fault.NotEmpty n
      → free_fault (v.stock.host.stands v.folder) ≡ None
      → IsTakenFor v.stock v.packages v.folder v.stock.host v.now
  pub not_empty : v.files_tell → v.disk_tells → IsBare v.stock.host v.folder → (n : ℕ)
      → reason ≡ fault.NotEmpty n
      → free_fault (v.stock.host.stands v.folder) ≡ Some (fault.NotEmpty n)
  -- nothing was written, or changes that make the registry were begun in their order
  pub begun : v.files_tell → v.disk_tells
      → IsUnfinished v.stock v.packages v.folder v.stock.host v.now
  -- all was built, and doesn't agree with its index, for this reason; that never comes if each
  -- version is one of SemVer
  pub read_back : v.files_tell → (why : Error) → reason ≡ fault.ReadBack why
      → IsReadBackFor v.disk_tells v.stock v.packages v.folder v.stock.host v.now why
  pub agrees : v.files_tell → v.disk_tells → StandsPlain v.stock.host.stands
      → IsFolderPath v.folder → AreVersioned v.packages
      → (why : Error) → reason ≢ fault.ReadBack why

-- the result: a registry, or why there is none
abbrev pub IsVendorAnswer : Vendoring → Result Vendored VendorFault → Type 0
IsVendorAnswer v (Ok made) = IsRegistryMade v made
IsVendorAnswer v (Err reason) = IsRegistryRefused v reason
