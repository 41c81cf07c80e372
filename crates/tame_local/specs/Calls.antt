-- The calls on the files of a local index or registry that may fail, and what a failed one does
-- (this project).
use Rattle.std.specs.Prelude.{◌≡◌, ◌≤◌, ◌⊎◌, ℕ, List, [], ◌∷◌, ◌++◌, unwrap_or, Bool, true, Option, Some, None, Result, Ok, Err}
use Rattle.tame_names.specs.Changes.{is_folder}
use Rattle.tame_names.specs.Counts.{CountRose}
use Rattle.tame_names.specs.Paths.{join, parent}
use Rattle.tame_names.specs.Standing.{Host, Folder, listing}
use Rattle.tame_names.specs.declared.errors.Error.{Error}
use Rattle.tame_names.specs.declared.errors.Error.TheVariants as error
use Rattle.tame_names.specs.declared.errors.IoKind.TheVariants as io_kind
use Rattle.tame_names.specs.declared.host.FailedCall.{FailedCall}
use Rattle.tame_names.specs.declared.host.FileCall.{FileCall}
use Rattle.tame_names.specs.declared.host.FileCall.TheVariants as file_call
use Rattle.tame_names.specs.declared.host.Listed.{Listed}
use Rattle.tame_records.specs.declared.checksums.Chksum.{Chksum}
use Rattle.tame_records.specs.declared.versions.IndexVersion.{IndexVersion}
use Rattle.tame_sparse.specs.Git.{first_name}
use Rattle.tame_local.specs.Builders.{HostChange, Makes, Creates, free_at, insertable, inserted}
use Rattle.tame_local.specs.CrateFiles.{components}
use Rattle.tame_local.specs.Registries.{crate_file_names, crates_folder, file_checked, index_file, index_of, sum_at}
use Rattle.tame_local.specs.declared.digests.ValidKrate.{ValidKrate}

-- ---- what a failed call does

-- a refusal by a call that failed adds that call to the failed ones, one that may be reported with
-- this path; any other refusal adds none
abbrev pub AddsBy : (List ℕ → FailedCall → Type 0) → List FailedCall → List FailedCall → Error
    → Type 0
AddsBy may before now (error.IoPath io_kind.Failed path) =
    (call : FailedCall) × (now ≡ before ++ call ∷ []) × may path call
AddsBy may before now e = now ≡ before

-- and so of an answer
abbrev pub AddsFailed : {T : Type 0} → (List ℕ → FailedCall → Type 0) → List FailedCall
    → List FailedCall → Result T Error → Type 0
AddsFailed may before now (Ok a) = now ≡ before
AddsFailed may before now (Err e) = AddsBy may before now e

-- the count never falls, and a call on the files that failed raised it
pub record HasFileCause {T : Type 0} (before now : ℕ) (result : Result T Error) : Type 0 where
  pub later : before ≤ now
  pub rose : (path : List ℕ) → result ≡ Err (error.IoPath io_kind.Failed path)
      → CountRose before now

-- ---- which calls may fail, with the path that is reported

-- a call on this path, which is reported
abbrev pub IsCallOn : FileCall → List ℕ → List ℕ → FailedCall → Type 0
IsCallOn name path told call = (told ≡ path) × (call ≡ record { call = name; path = Some path })

-- the creation of a folder for a path, which is reported
abbrev pub IsFolderCall : List ℕ → List ℕ → List ℕ → FailedCall → Type 0
IsFolderCall folder wanted told call =
    (told ≡ wanted) × (call ≡ record { call = file_call.MakeDirs; path = Some folder })

-- a call on the path that is reported, or on the folder that it is in
abbrev pub IsCallFor : List ℕ → FailedCall → Type 0
IsCallFor told call =
    (call.path ≡ Some told) ⊎ (call.path ≡ Some (unwrap_or (parent told) []))

-- the listing of a folder, or a look at what is there if it is none
abbrev pub IsListingCall : Host → List ℕ → List ℕ → FailedCall → Type 0
IsListingCall host folder told call =
    IsCallOn file_call.List folder told call
    ⊎ ((listing (host.stands folder) ≡ None) × IsCallOn file_call.Kind folder told call)

-- ---- in validating

-- the reading of the index file of a name, or of the crate file at a path once the index has given
-- its checksum
abbrev pub IsPartsCall : Host → List ℕ → List ℕ → List ℕ × List ℕ → List ℕ → FailedCall → Type 0
IsPartsCall host index path parts told call =
    IsCallOn file_call.Read (index_file index parts.0) told call
    ⊎ ((sum : Chksum) × (sum_at host index parts ≡ Ok sum)
    × IsCallOn file_call.Read path told call)

abbrev pub IsCallIfParts : Host → List ℕ → List ℕ → Option (List ℕ × List ℕ) → List ℕ
    → FailedCall → Type 0
IsCallIfParts host index path None told call = ⊥
IsCallIfParts host index path (Some parts) told call = IsPartsCall host index path parts told call

-- a reading for a file of a folder
abbrev pub IsFileCall : Host → List ℕ → List ℕ → List ℕ → List ℕ → FailedCall → Type 0
IsFileCall host index folder file told call =
    IsCallIfParts host index (join folder file) (components file) told call

-- a reading for one of these files, once all before it agreed with the index
abbrev pub IsFilesCall : Host → List ℕ → List ℕ → List (List ℕ) → List ℕ → FailedCall → Type 0
IsFilesCall host index folder [] told call = ⊥
IsFilesCall host index folder (file ∷ files) told call =
    IsFileCall host index folder file told call
    ⊎ ((file_checked host index folder file ≡ Ok tt)
    × IsFilesCall host index folder files told call)

-- the listing of the folder of the crate files, or a reading for one of those that it lists
abbrev pub IsValidateCall : Host → List ℕ → List ℕ → FailedCall → Type 0
IsValidateCall host index told call =
    IsListingCall host (crates_folder index) told call
    ⊎ ((entries : List Listed) × (host.stands (crates_folder index) ≡ Folder entries)
    × IsFilesCall host index (crates_folder index) (crate_file_names [] entries) told call)

-- a look at the index of a registry, or a call in validating it, if that is asked for
abbrev pub IsRegistryCall : Host → List ℕ → Bool → List ℕ → FailedCall → Type 0
IsRegistryCall host registry validate told call =
    IsCallOn file_call.Kind (index_of registry) told call
    ⊎ ((validate ≡ true) × IsValidateCall host (index_of registry) told call)

-- ---- in building

-- a look at a path, or the listing of the folder there
abbrev pub IsFreeCall : Host → List ℕ → List ℕ → FailedCall → Type 0
IsFreeCall host path told call =
    IsCallOn file_call.Kind path told call
    ⊎ ((is_folder (host.stands path) ≡ true) × IsCallOn file_call.List path told call)

-- such a call at a new registry, or if it is free the creation of its index
abbrev pub IsCreateCall : Host → List ℕ → List ℕ → FailedCall → Type 0
IsCreateCall host registry told call =
    IsFreeCall host registry told call
    ⊎ ((free_at registry (host.stands registry) ≡ Ok tt)
    × IsFolderCall (index_of registry) (index_of registry) told call)

-- the creation of one of the files that changes create
abbrev pub IsCreatesCall : List HostChange → List ℕ → FailedCall → Type 0
IsCreatesCall [] told call = ⊥
IsCreatesCall (Makes folder ∷ changes) told call = IsCreatesCall changes told call
IsCreatesCall (Creates path bytes ∷ changes) told call =
    IsCallOn file_call.Create path told call ⊎ IsCreatesCall changes told call

-- the creation of the folder of an index file, or of one of the files of its changes
abbrev pub IsWriteCall : List ℕ → List HostChange → List ℕ → FailedCall → Type 0
IsWriteCall file changes told call =
    IsFolderCall (unwrap_or (parent file) []) file told call ⊎ IsCreatesCall changes told call

-- a look at the index file of a crate, or if it can be inserted a call that inserts it
abbrev pub IsInsertCall : Host → List ℕ → List IndexVersion → List ValidKrate → List ℕ
    → FailedCall → Type 0
IsInsertCall host registry versions krates told call =
    IsCallOn file_call.Kind (index_file (index_of registry) (first_name versions)) told call
    ⊎ ((insertable registry (first_name versions) host ≡ Ok tt)
    × IsWriteCall (index_file (index_of registry) (first_name versions))
    (inserted registry (first_name versions) versions krates) told call)
