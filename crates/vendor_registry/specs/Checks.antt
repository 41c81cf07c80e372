-- Whether a package can be put into a registry: the refusals of a table, in its order (this
-- project).
use Rattle.std.specs.Prelude.{◌≡◌, ℕ, List, [], ◌∷◌, ◌++◌, length, map, filter, bytes_eq, nat_lt, Bool, true, false, Option, Some, None, Result, Ok, Err, if◌then◌else◌}
use Rattle.sha2.specs.Sha256.{sha256}
use Rattle.tame_names.specs.Names.{path}
use Rattle.tame_names.specs.Paths.{join}
use Rattle.tame_names.specs.Standing.{Host, Standing, Nothing, File}
use Rattle.tame_names.specs.declared.errors.CacheError.{CacheError}
use Rattle.tame_records.specs.Krates.{records_of}
use Rattle.tame_records.specs.declared.versions.IndexVersion.{IndexVersion}
use Rattle.tame_entry.specs.Entry.{ReadEntry, lines_in, read_entry}
use Rattle.tame_entry.specs.Krates.{Item}
use Rattle.tame_entry.specs.VersionStatuses.{last_from}
use Rattle.tame_cache.specs.Disk as disk
use Rattle.tame_cache.specs.Kept.{cache_file}
use Rattle.tame_local.specs.CrateFiles.{crate_file}
use Rattle.tame_local.specs.Digests.{has_digest}
use Rattle.tame_sparse.specs.declared.sparse.SparseIndex.{SparseIndex}
use Rattle.audit_lock.specs.declared.resolving.Package.{Package}
use Rattle.vendor_registry.specs.declared.checks.CheckedCrate.{CheckedCrate}
use Rattle.vendor_registry.specs.declared.faults.VendorFault.{VendorFault}
use Rattle.vendor_registry.specs.declared.faults.VendorFault.TheVariants as fault

-- ---- what there is

-- what packages are checked against: what a read of each file of the cache gives, the folder and
-- the url of the index, what the host has, and the folder of the crate files there
pub record Stock : Type 0 where
  pub files : List ℕ → disk.File
  pub root : List ℕ
  pub url : List ℕ
  pub host : Host
  pub crates : List ℕ

-- that of an index, over the changes of each file of a disk
abbrev pub stock_of : (List ℕ → List disk.Step) → SparseIndex → Host → List ℕ → Stock
stock_of past index host crates = record {
  files = λ q. disk.reads (past q);
  root = index.cache.path;
  url = index.cache.index;
  host = host;
  crates = crates;
}

-- ---- parts one after the other

abbrev pub and_then : {A B E : Type 0} → (A → Result B E) → Result A E → Result B E
and_then f (Ok a) = f a
and_then f (Err e) = Err e

abbrev pub or_fault : {A : Type 0} → VendorFault → Option A → Result A VendorFault
or_fault e None = Err e
or_fault e (Some a) = Ok a

-- ---- the records of a crate

-- the records of the lines of a readable entry; a refused file counts as none
abbrev pub entry_records : ℕ → Result ReadEntry CacheError
    → Result (List IndexVersion) VendorFault
entry_records place (Ok e) = or_fault (fault.Record place) (records_of (lines_in e.versions))
entry_records place (Err f) = Err (fault.Absent place)

-- those of a file of the cache of an index with a url
abbrev pub file_records : ℕ → List ℕ → disk.File → Result (List IndexVersion) VendorFault
file_records place url None = Err (fault.Absent place)
file_records place url (Some bytes) = entry_records place (read_entry url bytes)

-- those of the lines of an entry, one after the other
abbrev pub items_records : ℕ → Result (List Item) CacheError
    → Result (List IndexVersion) VendorFault
items_records place (Ok items) =
    or_fault (fault.Record place) (records_of (map (λ i. i.1) items))
items_records place (Err f) = Err (fault.Absent place)

-- ---- the deciding record

-- the last record that has this version's text
abbrev pub deciding : List ℕ → List IndexVersion → Option IndexVersion
deciding version records = last_from None (filter (λ v. bytes_eq v.version version) records)

-- a record that has this name
abbrev pub named_so : ℕ → List ℕ → IndexVersion → Result IndexVersion VendorFault
named_so place name v = if bytes_eq v.name name then Ok v else Err (fault.Name place)

-- the deciding record of a package among the records of its crate, which has the package's name
abbrev pub decided : ℕ → Package → List IndexVersion → Result IndexVersion VendorFault
decided place p records =
    and_then (named_so place p.name)
    (or_fault (fault.NoVersion place) (deciding p.version records))

-- ---- the crate file

-- the most bytes of a crate file, 64 MiB
abbrev pub crate_limit : ℕ
crate_limit = 67108864

abbrev pub unless_large : ℕ → List ℕ → Result (List ℕ) VendorFault
unless_large place bytes =
    if nat_lt crate_limit (length bytes) then Err (fault.TooLarge place (length bytes))
    else Ok bytes

-- the bytes of a crate file by what is at its path; what is no file can't be read
abbrev pub crate_bytes : ℕ → List ℕ → Standing → Result (List ℕ) VendorFault
crate_bytes place path Nothing = Err (fault.NoCrate place)
crate_bytes place path (File bytes) = unless_large place bytes
crate_bytes place path standing = Err (fault.File path)

-- bytes that have the digest of their record
abbrev pub valid_bytes : ℕ → List ℕ → IndexVersion → List ℕ → Result CheckedCrate VendorFault
valid_bytes place q v bytes =
    if has_digest bytes v.checksum.0
    then Ok (record { place = place; path = q; version = v; bytes = bytes })
    else Err (fault.Digest place (record { 0 = sha256 bytes }))

-- the path of a crate file in a folder
abbrev pub crate_path : List ℕ → List ℕ → List ℕ → List ℕ
crate_path folder name version = join folder (crate_file name version)

-- the crate file of a record in the folder of the crate files
abbrev pub crate_checked : Stock → ℕ → List ℕ → IndexVersion → Result CheckedCrate VendorFault
crate_checked s place q v =
    and_then (valid_bytes place q v)
    (crate_bytes place (crate_path s.crates v.name v.version)
    (s.host.stands (crate_path s.crates v.name v.version)))

-- ---- a package

-- what the package at a place, whose crate has this path in an index, puts into a registry
abbrev pub checked_at : Stock → ℕ → Package → List ℕ → Result CheckedCrate VendorFault
checked_at s place p q =
    and_then (crate_checked s place q) (and_then (decided place p)
    (file_records place s.url (s.files (cache_file s.root q))))

-- the same for any package, or the first reason why not; a name without a path has none
abbrev pub checked : Stock → ℕ → Package → Result CheckedCrate VendorFault
checked s place p = and_then (checked_at s place p) (or_fault (fault.Name place) (path p.name))

-- the packages with their places, each checked whole before the next
abbrev pub all_checked : Stock → List (ℕ × Package) → Result (List CheckedCrate) VendorFault
all_checked s [] = Ok []
all_checked s (p ∷ ps) =
    and_then (λ c. and_then (λ cs. Ok (c ∷ cs)) (all_checked s ps)) (checked s p.0 p.1)

-- ---- where the checks end

-- a package is at a place among these, and all before it were checked
pub record IsReached (s : Stock) (ps : List (ℕ × Package)) (place : ℕ) (p : Package)
    : Type 0 where
  pub front : List (ℕ × Package)
  pub behind : List (ℕ × Package)
  pub among : ps ≡ front ++ (place, p) ∷ behind
  pub before : List CheckedCrate
  pub are_checked : all_checked s front ≡ Ok before

-- if a call failed: at the package whose entry couldn't be read, or at one whose crate file, the
-- one at this path, couldn't
abbrev pub IsStopped : Stock → List (ℕ × Package) → VendorFault → Type 0
IsStopped s ps (fault.Store place) = (p : Package) × IsReached s ps place p
IsStopped s ps (fault.File at) =
    (place : ℕ) × (p : Package) × IsReached s ps place p
    × (at ≡ crate_path s.crates p.name p.version)
IsStopped s ps e = Unit {0}

-- ---- refusals

-- what a refusal says about a package; a call that failed and `NoMemory` say nothing
abbrev pub is_of_package : VendorFault → Bool
is_of_package (fault.Name place) = true
is_of_package (fault.Absent place) = true
is_of_package (fault.Record place) = true
is_of_package (fault.NoVersion place) = true
is_of_package (fault.NoCrate place) = true
is_of_package (fault.TooLarge place len) = true
is_of_package (fault.Digest place found) = true
is_of_package e = false

-- a refusal that comes before anything is written: of a package, or of its entry that can't be read
abbrev pub is_of_checks : VendorFault → Bool
is_of_checks (fault.Store place) = true
is_of_checks e = is_of_package e

-- the refusals of the checks: those of packages, calls that failed, and out of memory
abbrev pub IsCheckFault : VendorFault → Type 0
IsCheckFault (fault.NotEmpty count) = ⊥
IsCheckFault fault.NotADirectory = ⊥
IsCheckFault (fault.ReadBack why) = ⊥
IsCheckFault e = Unit {0}
