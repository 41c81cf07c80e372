-- The calls on a host's files that may fail, and what a failed one causes (this project).
use Rattle.std.specs.Prelude.{◌≡◌, ◌≤◌, ◌⊎◌, ℕ, codes, List, [], ◌∷◌, ◌++◌, take, false, Option, Some, None, Result, Ok, Err, IfErr}
use Rattle.std.specs.List.{Contains, slice_get}
use Rattle.tame_names.specs.Counts.{CountRose}
use Rattle.tame_names.specs.Paths.{join, plain_path}
use Rattle.tame_names.specs.Standing.{Host, reading_call}
use Rattle.tame_names.specs.declared.host.FailedCall.{FailedCall}
use Rattle.tame_names.specs.declared.host.FileCall.{FileCall}
use Rattle.tame_names.specs.declared.host.FileCall.TheVariants as file_call
use Rattle.tame_location.specs.Homes.{IsHomeCall}
use Rattle.audit_advisory.specs.declared.advisories.Advisory.{Advisory}
use Rattle.audit_asked.specs.Advisories.{advisories_from, crates_folder, names_at}
use Rattle.audit_asked.specs.Places.{is_there, lockfile_name, manifest_name}
use Rattle.audit_asked.specs.Settings.{config_at, folder_file, home_file, known_home}
use Rattle.audit_asked.specs.declared.faults.AskFault.{AskFault}
use Rattle.audit_asked.specs.declared.faults.AskFault.TheVariants as fault
use Rattle.audit_asked.specs.declared.listings.Wanted.TheVariants as wanted
use Rattle.audit_asked.specs.declared.places.LocateError.{LocateError}
use Rattle.audit_asked.specs.declared.places.LocateError.TheVariants as locate

-- ---- what a failed call does

-- a fault of the files added one call to the failed ones, and it may end a run with its path; any
-- other fault added none
abbrev pub AddsBy : (List ℕ → FailedCall → Type 0) → List FailedCall → List FailedCall → AskFault
    → Type 0
AddsBy may before now (fault.File path) =
    (call : FailedCall) × (now ≡ before ++ call ∷ []) × may path call
AddsBy may before now _ = now ≡ before

abbrev pub AddsFailed : {T : Type 0} → (List ℕ → FailedCall → Type 0) → List FailedCall
    → List FailedCall → Result T AskFault → Type 0
AddsFailed may before now (Ok a) = now ≡ before
AddsFailed may before now (Err e) = AddsBy may before now e

-- the count never falls, and a fault of the files raised it
pub record HasFileCause {T : Type 0} (before now : ℕ) (result : Result T AskFault) : Type 0 where
  pub later : before ≤ now
  pub rose : (path : List ℕ) → result ≡ Err (fault.File path) → CountRose before now

-- a failed look at one of the two named files is added to the failed calls
abbrev pub AddsLook : {T : Type 0} → List FailedCall → List FailedCall → Result T LocateError
    → Type 0
AddsLook before now (Err (locate.File path)) =
    now ≡ before ++ record { call = file_call.Kind; path = Some path.now } ∷ []
AddsLook before now _ = now ≡ before

abbrev pub IsLookError : LocateError → Type 0
IsLookError (locate.File path) = Unit {0}
IsLookError _ = ⊥

-- the path of a look for a lockfile if none is named: `Cargo.lock`, or if that isn't there,
-- `Cargo.toml`
abbrev pub IsLookedAt : Option (List ℕ) → Host → List ℕ → Type 0
IsLookedAt (Some path) host told = ⊥
IsLookedAt None host told =
    (told ≡ lockfile_name)
    ⊎ ((is_there (host.stands lockfile_name) ≡ false) × (told ≡ manifest_name))

-- an error of a look reports such a path
abbrev pub LookedAt : Option (List ℕ) → Host → LocateError → Type 0
LookedAt named host (locate.File path) = IsLookedAt named host path.now
LookedAt named host _ = Unit {0}

-- the count never falls, and a failed look raised it
pub record HasLookCause {T : Type 0} (before now : ℕ) (result : Result T LocateError) : Type 0 where
  pub later : before ≤ now
  pub rose : IfErr result (λ e. IsLookError e → CountRose before now)

-- ---- which calls may fail, with the path that is reported

-- a call on this path, which is reported
abbrev pub IsCallOn : FileCall → List ℕ → List ℕ → FailedCall → Type 0
IsCallOn name path told call = (told ≡ path) × (call ≡ record { call = name; path = Some path })

-- the reading of standard input, which is reported as this path
abbrev pub IsInputCall : List ℕ → List ℕ → FailedCall → Type 0
IsInputCall path told call =
    (told ≡ path) × (call ≡ record { call = file_call.ReadStdin; path = None })

-- cargo's home was asked for
abbrev pub AsksHome : Host → List ℕ → FailedCall → Type 0
AsksHome host told call = (told ≡ codes "cargo home") × IsHomeCall host call

-- cargo's home was asked for, or the settings in it were read
abbrev pub IsHomeConfigCall : Host → List ℕ → FailedCall → Type 0
IsHomeConfigCall host told call =
    AsksHome host told call
    ⊎ ((home : List ℕ) × (known_home host ≡ Some home)
    × IsCallOn file_call.Read (home_file home) told call)

-- the reading of settings: those of a file, or if it isn't there, those in cargo's home
abbrev pub IsSettingsFrom : Host → List ℕ → List ℕ → FailedCall → Type 0
IsSettingsFrom host path told call =
    IsCallOn file_call.Read path told call
    ⊎ ((config_at host path ≡ Ok None) × IsHomeConfigCall host told call)

abbrev pub IsSettingsCall : Host → List ℕ → FailedCall → Type 0
IsSettingsCall host told call = IsSettingsFrom host folder_file told call

-- a look for a lockfile, at the path that is reported
abbrev pub IsPlaceCall : Option (List ℕ) → Host → List ℕ → FailedCall → Type 0
IsPlaceCall named host told call =
    IsLookedAt named host told × IsCallOn file_call.Kind told told call

-- a look at the database that was named, or cargo's home was asked for
abbrev pub IsDatabaseCall : Host → Option (List ℕ) → List ℕ → FailedCall → Type 0
IsDatabaseCall host (Some path) told call = IsCallOn file_call.Kind (plain_path path) told call
IsDatabaseCall host None told call = AsksHome host told call

-- a listing of one of the folders of these names in this one
abbrev pub IsListingBelow : List ℕ → List (List ℕ) → List ℕ → FailedCall → Type 0
IsListingBelow folder names told call =
    (name : List ℕ) × Contains names name × IsCallOn file_call.List (join folder name) told call

-- a listing of the folder `crates` of a database, or of a folder that is listed in it
abbrev pub IsListingCall : Host → List ℕ → List ℕ → FailedCall → Type 0
IsListingCall host database told call =
    IsCallOn file_call.List (crates_folder database) told call
    ⊎ IsListingBelow (crates_folder database)
    (names_at wanted.Folders host (crates_folder database)) told call

-- the reading of one of these advisories, once all before it were accepted
abbrev pub IsReadingCall : Host → List (List ℕ) → List ℕ → FailedCall → Type 0
IsReadingCall host paths told call =
    (n : ℕ) × (slice_get paths n ≡ Some told)
    × ((front : List Advisory) × (advisories_from host 0 (take n paths) ≡ Ok front))
    × IsCallOn file_call.Read told told call

-- the reading of the lockfile
abbrev pub IsLockfileCall : List ℕ → List ℕ → FailedCall → Type 0
IsLockfileCall place told call = (told ≡ place) × (call ≡ reading_call place)

-- the reading of a baseline, if one is named
abbrev pub IsBaselineCall : Option (List ℕ) → List ℕ → FailedCall → Type 0
IsBaselineCall None told call = ⊥
IsBaselineCall (Some path) told call = IsCallOn file_call.Read path told call
