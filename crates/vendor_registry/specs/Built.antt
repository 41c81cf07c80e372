-- What a builder of a registry does with what was checked, and why it is refused (this project,
-- after cargo's local registries).
use Rattle.std.specs.Prelude.{◌≡◌, ◌⊎◌, ℕ, List, [], ◌∷◌, length, map, flat_map, unwrap_or, Bool, true, false, Option, Some, None, Ok, Err, IsOk}
use Rattle.tame_names.specs.Changes.{AreFolders, is_nothing}
use Rattle.tame_names.specs.Paths.{join, parent, ways_to}
use Rattle.tame_names.specs.Standing.{Host, Standing, Nothing, Folder}
use Rattle.tame_names.specs.declared.errors.Error.{Error}
use Rattle.tame_records.specs.Written.{json_lines}
use Rattle.tame_local.specs.Builders.{AreBegun, HostChange, Makes, Creates, after, after_change, created}
use Rattle.tame_local.specs.Inserts.{AreWritten}
use Rattle.tame_local.specs.Refusals.{refused as refused_by}
use Rattle.tame_local.specs.Registries.{index_of, registry_at}
use Rattle.audit_lock.specs.declared.resolving.Package.{Package}
use Rattle.vendor_registry.specs.Checks.{IsStopped, Stock, all_checked, crate_path}
use Rattle.vendor_registry.specs.Failed.{IsToldIn}
use Rattle.vendor_registry.specs.Looked.{looked}
use Rattle.vendor_registry.specs.Named.{ArePathed}
use Rattle.vendor_registry.specs.Vendored.{on, paths_of}
use Rattle.vendor_registry.specs.declared.checks.CheckedCrate.{CheckedCrate}
use Rattle.vendor_registry.specs.declared.faults.VendorFault.{VendorFault}
use Rattle.vendor_registry.specs.declared.faults.VendorFault.TheVariants as fault

-- ---- changes

-- the crate file of what was checked
abbrev pub crate_made : List ℕ → CheckedCrate → HostChange
crate_made folder c = Creates (crate_path folder c.version.name c.version.version) c.bytes

-- what is put on a path: the folder of its index file, that file, and the crate files in order
abbrev pub path_made : List ℕ → List ℕ → List CheckedCrate → List HostChange
path_made folder q [] = []
path_made folder q (c ∷ cs) =
    Makes (unwrap_or (parent (join (index_of folder) q)) [])
    ∷ Creates (join (index_of folder) q) (json_lines (map (λ c. c.version) (c ∷ cs)))
    ∷ map (crate_made folder) (c ∷ cs)

-- what is put on these paths, one after the other
abbrev pub paths_made : List ℕ → List CheckedCrate → List (List ℕ) → List HostChange
paths_made folder cs qs = flat_map (λ q. path_made folder q (on q cs)) qs

-- the folder of the index, and then path by path
abbrev pub all_made : List ℕ → List CheckedCrate → List HostChange
all_made folder cs = created folder ∷ paths_made folder cs (paths_of cs)

-- ---- what is there at the time of a change

-- nothing is at the index file of a path, and what is put there are records that their lines read
-- back to
abbrev pub IsFilled : List ℕ → List ℕ → List CheckedCrate → Host → Type 0
IsFilled folder q [] host = Unit {0}
IsFilled folder q (c ∷ cs) host =
    (host.stands (join (index_of folder) q) ≡ Nothing)
    × AreWritten (map (λ c. c.version) (c ∷ cs))

-- the same for each of these paths, after those before it
abbrev pub AreFilled : List ℕ → List CheckedCrate → List (List ℕ) → Host → Type 0
AreFilled folder cs [] host = Unit {0}
AreFilled folder cs (q ∷ qs) host =
    IsFilled folder q (on q cs) host
    × AreFilled folder cs qs (after (path_made folder q (on q cs)) host)

-- something is at the index file of a path that something is to be put on
abbrev pub IsTakenAt : List ℕ → List ℕ → List CheckedCrate → Host → Type 0
IsTakenAt folder q [] host = ⊥
IsTakenAt folder q (c ∷ cs) host = is_nothing (host.stands (join (index_of folder) q)) ≡ false

-- something is at the index file of one of these paths when its turn comes, of the first such, and
-- nothing was written from then on
abbrev pub IsTaken : List ℕ → List CheckedCrate → List (List ℕ) → Host → Host → Type 0
IsTaken folder cs [] host now = ⊥
IsTaken folder cs (q ∷ qs) host now =
    (IsTakenAt folder q (on q cs) host × (now ≡ host))
    ⊎ (IsFilled folder q (on q cs) host
    × IsTaken folder cs qs (after (path_made folder q (on q cs)) host) now)

-- all packages were checked, and once the folder of the index is created something is at the index
-- file of one of their paths when its turn comes; what was put on the paths before it stays
abbrev pub IsTakenFor : Stock → List Package → List ℕ → Host → Host → Type 0
IsTakenFor stock packages folder before now =
    (cs : List CheckedCrate) × (all_checked stock (looked packages) ≡ Ok cs)
    × IsTaken folder cs (paths_of cs) (after_change (created folder) before) now

-- what a refused call left: the host as it was, or all packages were checked and the changes were
-- begun in their order
abbrev pub IsUnfinished : Stock → List Package → List ℕ → Host → Host → Type 0
IsUnfinished stock packages folder before now =
    (now ≡ before)
    ⊎ ((cs : List CheckedCrate) × (all_checked stock (looked packages) ≡ Ok cs)
    × AreBegun (all_made folder cs) before now)

-- all packages were checked, and the host is the one before with all changes that make the registry
-- of them, and no others
abbrev pub IsBuilt : Stock → List Package → List ℕ → Host → Host → Type 0
IsBuilt stock packages folder before now =
    (cs : List CheckedCrate) × (all_checked stock (looked packages) ≡ Ok cs)
    × (now ≡ after (all_made folder cs) before)

-- ---- refusals

-- what is at the folder of a registry before it is created: nothing, an empty folder, or a refusal
abbrev pub free_fault : Standing → Option VendorFault
free_fault Nothing = None
free_fault (Folder []) = None
free_fault (Folder (entry ∷ entries)) = Some (fault.NotEmpty (length (entry ∷ entries)))
free_fault standing = Some fault.NotADirectory

-- the refusals of a builder that begins: what is there already, a call that failed, and out of
-- memory
abbrev pub IsBeginFault : VendorFault → Type 0
IsBeginFault (fault.NotEmpty count) = Unit {0}
IsBeginFault fault.NotADirectory = Unit {0}
IsBeginFault (fault.File path) = Unit {0}
IsBeginFault fault.NoMemory = Unit {0}
IsBeginFault e = ⊥

-- the same for a builder that goes on
abbrev pub IsInsertFault : VendorFault → Type 0
IsInsertFault (fault.NotEmpty count) = Unit {0}
IsInsertFault (fault.File path) = Unit {0}
IsInsertFault fault.NoMemory = Unit {0}
IsInsertFault e = ⊥

-- the refusals of a registry that is built: the same, and why it doesn't agree with its index
abbrev pub IsBuildFault : VendorFault → Type 0
IsBuildFault (fault.NotEmpty count) = Unit {0}
IsBuildFault fault.NotADirectory = Unit {0}
IsBuildFault (fault.File path) = Unit {0}
IsBuildFault (fault.ReadBack why) = Unit {0}
IsBuildFault fault.NoMemory = Unit {0}
IsBuildFault e = ⊥

-- a call that failed: in the checks; or at a path of the registry, once all packages were checked
abbrev pub IsStoppedBy : Stock → List Package → List ℕ → VendorFault → Type 0
IsStoppedBy stock packages folder e =
    IsStopped stock (looked packages) e
    ⊎ (IsBuildFault e × IsToldIn folder e × IsOk (all_checked stock (looked packages)))

-- a refusal by what is at the folder beforehand; or one entry, at an index file that has come
-- meanwhile
abbrev pub IsOccupied : Standing → VendorFault → Type 0
IsOccupied standing (fault.NotEmpty count) =
    (free_fault standing ≡ Some (fault.NotEmpty count))
    ⊎ ((free_fault standing ≡ None) × (count ≡ 1))
IsOccupied standing fault.NotADirectory = free_fault standing ≡ Some fault.NotADirectory
IsOccupied standing e = Unit {0}

-- what was built doesn't agree with its index, for this reason
pub record IsReadBack (folder : List ℕ) (cs : List CheckedCrate) (before now : Host)
    (why : Error) : Type 0 where
  pub free : free_fault (before.stands folder) ≡ None
  pub possible : AreFolders (ways_to (index_of folder)) before.stands
  pub filled : ArePathed cs
      → AreFilled folder cs (paths_of cs) (after_change (created folder) before)
  pub made : ArePathed cs → now ≡ after (all_made folder cs) before
  pub refused : registry_at now folder true ≡ Err (refused_by why)

-- what was built from the checked packages doesn't agree with its index
abbrev pub IsReadBackFor : Type 0 → Stock → List Package → List ℕ → Host → Host → Error → Type 0
IsReadBackFor disk_tells stock packages folder before now why =
    (cs : List CheckedCrate) × (disk_tells → all_checked stock (looked packages) ≡ Ok cs)
    × IsReadBack folder cs before now why

-- a refusal after the checks, by what is there and not by a call
abbrev pub is_behind : VendorFault → Bool
is_behind (fault.NotEmpty count) = true
is_behind fault.NotADirectory = true
is_behind (fault.ReadBack why) = true
is_behind e = false
