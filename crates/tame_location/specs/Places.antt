-- The files of cargo's settings (Cargo Book, "Configuration", hierarchical structure).
use Rattle.std.specs.Prelude.{◌≡◌, ◌⊎◌, codes, ℕ, List, [], ◌∷◌, ◌++◌, map, Option, Some, None, Result, Ok, Err}
use Rattle.tame_names.specs.Paths.{join, parent}
use Rattle.tame_names.specs.Standing.{Host}
use Rattle.tame_names.specs.declared.errors.Error.{Error}
use Rattle.tame_names.specs.declared.host.FailedCall.{FailedCall}
use Rattle.tame_location.specs.Calls.{current_call}
use Rattle.tame_location.specs.Homes.{IsHomeCall, home_of}

-- ---- the folders from one upwards

-- these are a folder, if there is one, and those above it: each is the parent of the one before it,
-- and the last has none
abbrev pub AreUpwards : Option (List ℕ) → List (List ℕ) → Type 0
AreUpwards None [] = Unit {0}
AreUpwards None (first ∷ more) = ⊥
AreUpwards (Some folder) [] = ⊥
AreUpwards (Some folder) (first ∷ more) = (first ≡ folder) × AreUpwards (parent folder) more

-- ---- the files

abbrev pub folder_file : List ℕ → List ℕ
folder_file folder = join folder (codes ".cargo/config.toml")

abbrev pub home_file : List ℕ → List ℕ
home_file home = join home (codes "config.toml")

-- the file in cargo's home, if this is known
abbrev pub home_files : Option (List ℕ) → List (List ℕ)
home_files None = []
home_files (Some home) = home_file home ∷ []

-- these are the files of a folder and those above it, and then the one in cargo's home
abbrev pub AreFiles : Option (List ℕ) → Option (List ℕ) → List (List ℕ) → Type 0
AreFiles folder home paths = (folders : List (List ℕ)) × AreUpwards folder folders
    × (paths ≡ map folder_file folders ++ home_files home)

-- ---- where they are looked for

-- the given folder; else the current one, or none if asking for it failed
abbrev pub IsStart : Option (List ℕ) → Host → List FailedCall → List FailedCall
    → Option (List ℕ) → Type 0
IsStart (Some root) host before now folder = (folder ≡ Some root) × (now ≡ before)
IsStart None host before now folder = ((folder ≡ Some host.current) × (now ≡ before))
    ⊎ ((folder ≡ None) × (now ≡ before ++ current_call ∷ []))

abbrev pub home_told : Result (List ℕ) Error → Option (List ℕ)
home_told (Ok home) = Some home
home_told (Err e) = None

-- the given home; else cargo's home if it is known, or none if asking for it failed
abbrev pub IsHome : Option (List ℕ) → Host → List FailedCall → List FailedCall
    → Option (List ℕ) → Type 0
IsHome (Some given) host before now home = (home ≡ Some given) × (now ≡ before)
IsHome None host before now home = ((home ≡ home_told (home_of host)) × (now ≡ before))
    ⊎ ((home ≡ None) × ((call : FailedCall) × (now ≡ before ++ call ∷ []) × IsHomeCall host call))

-- these are the files for the root and the home that are given or found; what is unknown is skipped
abbrev pub AreSettingsFiles : Option (List ℕ) → Option (List ℕ) → Host → List FailedCall
    → List FailedCall → List (List ℕ) → Type 0
AreSettingsFiles root home host before now paths = (folder : Option (List ℕ))
    × (told : Option (List ℕ)) × (middle : List FailedCall) × IsStart root host before middle folder
    × IsHome home host middle now told × AreFiles folder told paths
