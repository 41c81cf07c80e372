-- What the lines of a crate say about a version.
use Rattle.std.specs.Prelude.{◌≡◌, ◌≢◌, ℕ, List, [], ◌∷◌, ◌++◌, Bool, bytes_eq, filter, map, Option, Some, None, option_map, option_and_then}
use Rattle.std.specs.List.{AllByRecursion}
use Rattle.tame_records.specs.Record.{record_of, version_flag}
use Rattle.tame_records.specs.declared.versions.VersionFlag.{VersionFlag}
use Rattle.tame_entry.specs.declared.version_status.VersionStatus.{VersionStatus}
use Rattle.tame_entry.specs.declared.version_status.VersionStatus.TheVariants.{Unread, NoVersion, Flag}

-- version and flag of each line, if every line has a record
abbrev pub version_flags : List (List ℕ) → Option (List VersionFlag)
version_flags [] = Some []
version_flags (l ∷ ls) =
    option_and_then (λ r. option_map (λ hs. version_flag r ∷ hs) (version_flags ls)) (record_of l)

-- the last of a list, or what was found before
abbrev pub last_from : {A : Type 0} → Option A → List A → Option A
last_from found [] = found
last_from found (x ∷ xs) = last_from (Some x) xs

-- the flags of the records that have this version
abbrev pub flags_of_version : List ℕ → List VersionFlag → List Bool
flags_of_version version flags =
    map (λ h. h.yanked) (filter (λ h. bytes_eq h.version version) flags)

abbrev pub last_flag : List VersionFlag → List ℕ → Option Bool
last_flag flags version = last_from None (flags_of_version version flags)

abbrev pub status_of_flag : Option Bool → VersionStatus
status_of_flag None = NoVersion
status_of_flag (Some flag) = Flag flag

abbrev pub status_among : Option (List VersionFlag) → List ℕ → VersionStatus
status_among None version = Unread
status_among (Some flags) version = status_of_flag (last_flag flags version)

-- unread if some line has no record, no version if no record has it, else the flag of the
-- last record that has it
abbrev pub version_status : List (List ℕ) → List ℕ → VersionStatus
version_status ls version = status_among (version_flags ls) version

-- a flag is that of the last of these that has this version: those after it have others
pub record IsOfLast (flags : List VersionFlag) (version : List ℕ) (flag : Bool) : Type 0 where
  pub before : List VersionFlag
  pub last : VersionFlag
  pub after : List VersionFlag
  pub whole : flags ≡ before ++ last ∷ after
  pub named : last.version ≡ version
  pub said : last.yanked ≡ flag
  pub others : AllByRecursion (λ h. h.version ≢ version) after
