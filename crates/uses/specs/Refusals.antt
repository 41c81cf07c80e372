-- Why an example refuses (Cargo Book, "Registry Index"; RFC 9110, section 15).
use Rattle.std.specs.Prelude.{◌≡◌, ◌⊎◌, ◌++◌, ℕ, List, [], ◌∷◌, Some, None, Result, Ok, Err}
use Rattle.tame_names.specs.Counts.{CountRose}
use Rattle.tame_names.specs.Standing.{Host}
use Rattle.tame_names.specs.declared.errors.Error.{Error}
use Rattle.tame_names.specs.declared.errors.Error.TheVariants as error
use Rattle.tame_names.specs.declared.errors.InvalidJsonLines.{InvalidJsonLines}
use Rattle.tame_names.specs.declared.errors.IoKind.TheVariants as io_kind
use Rattle.tame_names.specs.declared.host.FailedCall.{FailedCall}
use Rattle.tame_names.specs.declared.host.FileCall.{FileCall}
use Rattle.tame_names.specs.declared.host.FileCall.TheVariants as file_call
use Rattle.tame_records.specs.Lines.{lines}
use Rattle.tame_entry.specs.Krates.{deserialized, krate_of_lines}
use Rattle.tame_entry.specs.Lines.{invalid}
use Rattle.tame_entry.specs.declared.index_entries.IndexEntry.{IndexEntry}
use Rattle.tame_sparse.specs.ResponseResults.{status_fault}
use Rattle.tame_location.specs.Locations.{located_below}
use Rattle.tame_location.specs.Versions.{Parts, cargo_version}
use Rattle.tame_local.specs.Refusals.{NotAFolder}
use Rattle.tame_local.specs.Registries.{HandsOutFile, index_at, index_file, index_of}

-- ---- entries

-- an entry that was handed out has no versions, and this is why
abbrev pub IsUnread : (IndexEntry → Type 0) → Error → Type 0
IsUnread handed e = (entry : IndexEntry) × (deserialized entry ≡ Err e) × handed entry

-- memory ran out; a call on the disk failed, which raised its count; or the file of the cache says
-- so
abbrev pub IsKeptRefusal : ℕ → ℕ → (IndexEntry → Type 0) → Error → Type 0
IsKeptRefusal before now handed e =
    (e ≡ error.NoMemory)
    ⊎ ((e ≡ error.Io io_kind.Failed) × CountRose before now)
    ⊎ IsUnread handed e

-- ---- answers

-- memory ran out; the body isn't valid; or its lines say so
abbrev pub IsBodyRefusal : List ℕ → Error → Type 0
IsBodyRefusal body e =
    (e ≡ error.NoMemory)
    ⊎ ((why : InvalidJsonLines) × (e ≡ error.InvalidJsonLines why) × (invalid body ≡ Some why))
    ⊎ ((invalid body ≡ None) × (krate_of_lines (lines body) ≡ Err e))

-- the refusal of a status, with the words for it
abbrev pub IsRefusedStatus : {T : Type 0} → ℕ → List ℕ → Result T Error → Type 0
IsRefusedStatus status text result =
    (e : Error) × (result ≡ Err e) × (status_fault e ≡ Some (status, text))

-- ---- folders

-- the folder of the index of a url below a root, for a version
abbrev pub folder_of : (ℕ → List ℕ → ℕ) → List ℕ → Host → List ℕ → Result Parts Error
    → Result (List ℕ × List ℕ) Error
folder_of ident url host root (Ok version) = located_below ident url (Some version) host root
folder_of ident url host root (Err e) = Err e

-- for the version that cargo tells
abbrev pub folder_for : (ℕ → List ℕ → ℕ) → List ℕ → List ℕ → Host → List ℕ
    → Result (List ℕ × List ℕ) Error
folder_for ident url cargo host root = folder_of ident url host root (cargo_version cargo)

-- ---- local registries

-- a call on a path failed: it is told, raised the count, and is the one that was added
abbrev pub IsFailedOn : Type 0 → FileCall → List ℕ → ℕ → ℕ → List FailedCall → List FailedCall
    → Error → Type 0
IsFailedOn told call path before now failed failed_now e =
    (e ≡ error.IoPath io_kind.Failed path)
    × CountRose before now
    × (told → failed_now ≡ failed ++ record { call = call; path = Some path } ∷ [])

-- memory ran out; the index of a registry is no folder, or can't be looked at; or the file of a
-- name there can't be read, or says so
abbrev pub IsVersionsRefusal : Type 0 → Host → List ℕ → List ℕ → ℕ → ℕ → List FailedCall
    → List FailedCall → Error → Type 0
IsVersionsRefusal told host registry name before now failed failed_now e =
    (e ≡ error.NoMemory)
    ⊎ IsFailedOn told file_call.Kind (index_of registry) before now failed failed_now e
    ⊎ ((e ≡ error.IoPath io_kind.NotADirectory (index_of registry))
    × (told → index_at host registry ≡ Err (NotAFolder (index_of registry))))
    ⊎ ((index : List ℕ) × (told → index_at host registry ≡ Ok index)
    × (IsFailedOn told file_call.Read (index_file index name) before now failed failed_now e
    ⊎ IsUnread
    (λ entry. told → HandsOutFile (Some entry) (host.stands (index_file index name))) e))
