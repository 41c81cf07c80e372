-- Which index a registry has (Cargo Book, "Registries", "Configuration" and "Source Replacement").
use Rattle.std.specs.Prelude.{◌≡◌, ℕ, codes, List, [], ◌∷◌, ◌++◌, ◌⊎◌, map, Bool, true, false, ◌==◌, Option, Some, None, if◌then◌else◌, Result, Ok, Err, IfOk, IfErr}
use Rattle.std.specs.Char.{to_ascii_uppercase}
use Rattle.std.specs.Cow.{cow_str_bytes}
use Rattle.std.specs.List.{Contains}
use Rattle.std.specs.Str.{trim}
use Rattle.toml_tables.specs.Results.{and_then}
use Rattle.tame_names.specs.Standing.{Host}
use Rattle.tame_names.specs.declared.errors.Error.{Error}
use Rattle.tame_names.specs.declared.errors.Error.TheVariants as error
use Rattle.tame_names.specs.declared.errors.IoKind.TheVariants as io
use Rattle.tame_names.specs.declared.host.EnvValue.{EnvValue}
use Rattle.tame_names.specs.declared.host.EnvValue.TheVariants as value
use Rattle.tame_names.specs.declared.host.FailedCall.{FailedCall}
use Rattle.tame_location.specs.Calls.{AddsFailed, IsTold, env_call}
use Rattle.tame_location.specs.IndexUrls.{git_index}
use Rattle.tame_location.specs.Places.{AreSettingsFiles}
use Rattle.tame_location.specs.Reading.{IsFileError}
use Rattle.tame_location.specs.Settings.{first_answer, index_in, protocol, protocol_in, reads, replacement, unless_answered}
use Rattle.tame_location.specs.Versions.{is_at_least, version_of}
use Rattle.tame_location.specs.declared.index_urls.IndexUrl.{IndexUrl}
use Rattle.tame_location.specs.declared.index_urls.IndexUrl.TheVariants as url
use Rattle.tame_location.specs.declared.settings.HeldUrl.{HeldUrl}
use Rattle.tame_location.specs.declared.settings.HeldUrl.TheVariants as held

-- a url with a text of its own, owned or borrowed
abbrev pub held_url : IndexUrl → HeldUrl
held_url url.CratesIoSparse = held.CratesIoSparse
held_url url.CratesIoGit = held.CratesIoGit
held_url (url.NonCratesIo text) = held.NonCratesIo (cow_str_bytes text)
held_url (url.Local path) = held.Local path

-- ---- crates.io

abbrev pub protocol_variable : List ℕ
protocol_variable = codes "CARGO_REGISTRIES_CRATES_IO_PROTOCOL"

-- whether a variable asks for the sparse protocol; a value other than the two words asks nothing
abbrev pub protocol_set : EnvValue → Option Bool
protocol_set (value.Value word) = protocol word
protocol_set _ = None

-- cargo uses the sparse index since 1.70.0
abbrev pub by_version : Option (List ℕ) → Result Bool Error
by_version None = Err error.NoCargoVersion
by_version (Some text) =
    and_then (λ version. Ok (is_at_least 1 70 version)) (version_of (trim text))

abbrev pub or_version : Option (List ℕ) → Option Bool → Result Bool Error
or_version version (Some sparse) = Ok sparse
or_version version None = by_version version

-- by the variable, else by the settings, else by the version of cargo
abbrev pub is_sparse_by : Option Bool → Host → List (List ℕ) → Option (List ℕ)
    → Result Bool Error
is_sparse_by (Some sparse) host paths version = Ok sparse
is_sparse_by None host paths version =
    and_then (or_version version) (first_answer (λ path. protocol_in) host paths)

abbrev pub crates_io_by : Bool → HeldUrl
crates_io_by true = held.CratesIoSparse
crates_io_by false = held.CratesIoGit

abbrev pub or_crates_io : Host → List (List ℕ) → Option (List ℕ) → Option HeldUrl
    → Result HeldUrl Error
or_crates_io host paths version (Some found) = Ok found
or_crates_io host paths version None = and_then (λ sparse. Ok (crates_io_by sparse))
    (is_sparse_by (protocol_set (host.environment protocol_variable)) host paths version)

-- what replaces crates.io by the first of these files that says so, else one of its two indices
abbrev pub crates_io_in : Host → List (List ℕ) → Option (List ℕ) → Result HeldUrl Error
crates_io_in host paths version = and_then (or_crates_io host paths version)
    (first_answer (replacement (codes "crates-io") git_index) host paths)

-- the calls after asking for the variable: none if it decides
abbrev pub protocol_calls : Option Bool → Host → List (List ℕ) → List FailedCall
protocol_calls (Some sparse) host paths = []
protocol_calls None host paths = reads (λ path. protocol_in) host paths

abbrev pub variable_calls : Host → List (List ℕ) → List FailedCall
variable_calls host paths = env_call protocol_variable
    ∷ protocol_calls (protocol_set (host.environment protocol_variable)) host paths

-- the calls that this takes, in their order: the reads of files for the replacement; if none has
-- one, the variable is asked for, and then the files are read for the protocol. No file after one
-- that answers is read
abbrev pub crates_io_calls : Host → List (List ℕ) → List FailedCall
crates_io_calls host paths =
    reads (replacement (codes "crates-io") git_index) host paths
    ++ unless_answered (first_answer (replacement (codes "crates-io") git_index) host paths)
    (variable_calls host paths)

-- ---- other registries

-- a letter in upper case, and `-` as `_`
abbrev pub raised : ℕ → ℕ
raised b = if b == 45 then 95 else to_ascii_uppercase b

-- the variable that has the index of a registry
unfoldable pub index_variable : List ℕ → List ℕ
index_variable name = codes "CARGO_REGISTRIES_" ++ (map raised name ++ codes "_INDEX")

abbrev pub or_index : List ℕ → Option HeldUrl → HeldUrl
or_index index (Some found) = found
or_index index None = held.NonCratesIo index

-- what replaces a registry with this index, else that index
abbrev pub indexed : Host → List (List ℕ) → List ℕ → Option (List ℕ) → Result HeldUrl Error
indexed host paths name None = Err (error.UnknownRegistry name)
indexed host paths name (Some index) = and_then (λ found. Ok (or_index index found))
    (first_answer (replacement name index) host paths)

-- the registry of a name by these files: its index first, and then its replacement
abbrev pub registry_in : Host → List (List ℕ) → List ℕ → Result HeldUrl Error
registry_in host paths name =
    and_then (indexed host paths name) (first_answer (λ path. index_in name) host paths)

-- the calls after the search for an index: the reads of files for the replacement
abbrev pub indexed_calls : Host → List (List ℕ) → List ℕ → Result (Option (List ℕ)) Error
    → List FailedCall
indexed_calls host paths name (Ok (Some index)) = reads (replacement name index) host paths
indexed_calls host paths name _ = []

-- the calls that this takes, in their order; no file after one that answers is read
abbrev pub registry_calls : Host → List (List ℕ) → List ℕ → List FailedCall
registry_calls host paths name =
    reads (λ path. index_in name) host paths
    ++ indexed_calls host paths name (first_answer (λ path. index_in name) host paths)

-- ---- what asking answers

-- the answer by the files of settings for the given root and home, and the call that failed, if one
-- did
pub record IsByFiles (root home : Option (List ℕ)) (host : Host) (before now : List FailedCall)
    (calls : List (List ℕ) → List FailedCall) (answer : List (List ℕ) → Result HeldUrl Error)
    (result : Result HeldUrl Error) : Type 0 where
  -- the files, and the failed calls once they are known
  pub paths : List (List ℕ)
  pub middle : List FailedCall
  pub files : AreSettingsFiles root home host before middle paths
  -- a failed call after that is one of those that these files take
  pub failed : AddsFailed (Contains (calls paths)) middle now result
  -- the answer is theirs
  pub ok : IfOk result (λ found. answer paths ≡ Ok found)
  pub refused : IfErr result (λ e. IsTold e → answer paths ≡ Err e)

-- the index of crates.io for a version of cargo
abbrev pub IsCratesIo : Option (List ℕ) → Option (List ℕ) → Host → List FailedCall
    → List FailedCall → Option (List ℕ) → Result HeldUrl Error → Type 0
IsCratesIo root home host before now version result =
    IsByFiles root home host before now (λ paths. crates_io_calls host paths)
    (λ paths. crates_io_in host paths version) result

-- the registry of a name, by the value of its variable: that value, else by the files
abbrev pub IsRegistryBy : EnvValue → Option (List ℕ) → Option (List ℕ) → Host → List FailedCall
    → List FailedCall → List ℕ → Result HeldUrl Error → Type 0
IsRegistryBy (value.Value index) root home host before now name result =
    (result ≡ Ok (held.NonCratesIo index)) × (now ≡ before)
IsRegistryBy value.NotUtf8 root home host before now name result =
    (result ≡ Err (error.NonUtf8EnvVar (index_variable name))) × (now ≡ before)
IsRegistryBy value.Unset root home host before now name result =
    IsByFiles root home host before now (λ paths. registry_calls host paths name)
    (λ paths. registry_in host paths name) result

-- the registry of a name: its variable is asked for first; either that failed or the registry is by
-- its value
abbrev pub IsRegistry : Option (List ℕ) → Option (List ℕ) → Host → List FailedCall
    → List FailedCall → List ℕ → Result HeldUrl Error → Type 0
IsRegistry root home host before now name result =
    ((result ≡ Err (error.Io io.Failed))
    × (now ≡ before ++ env_call (index_variable name) ∷ []))
    ⊎ IsRegistryBy (host.environment (index_variable name)) root home host before now name result

-- the reasons why crates.io has no url: no version if one is needed, one that is none, those of the
-- files, and that the variable can't be asked for
abbrev pub IsCratesIoError : Error → Type 0
IsCratesIoError error.NoCargoVersion = Unit {0}
IsCratesIoError error.Semver = Unit {0}
IsCratesIoError (error.Io io.Failed) = Unit {0}
IsCratesIoError e = IsFileError e

-- the reasons why a registry has no url: it isn't known, its variable isn't UTF-8 or can't be asked
-- for, and those of the files
abbrev pub IsRegistryUrlError : Error → Type 0
IsRegistryUrlError (error.UnknownRegistry name) = Unit {0}
IsRegistryUrlError (error.NonUtf8EnvVar name) = Unit {0}
IsRegistryUrlError (error.Io io.Failed) = Unit {0}
IsRegistryUrlError e = IsFileError e
