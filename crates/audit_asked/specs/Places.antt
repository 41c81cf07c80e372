-- The lockfile's path (this project, after cargo-audit).
use Rattle.std.specs.Prelude.{ℕ, ℤ, pos, codes, List, Bool, true, false, Option, Some, None, if◌then◌else◌, Result, Ok, Err}
use Rattle.std.specs.Ordering.{int_eq}
use Rattle.tame_names.specs.Standing.{Host, Standing, Nothing}
use Rattle.audit_asked.specs.Refusals.{Refused, generate}

abbrev pub lockfile_name : List ℕ
lockfile_name = codes "Cargo.lock"

abbrev pub manifest_name : List ℕ
manifest_name = codes "Cargo.toml"

-- something is there
abbrev pub is_there : Standing → Bool
is_there Nothing = false
is_there _ = true

-- the path that was named, else `Cargo.lock`
abbrev pub place_of : Option (List ℕ) → List ℕ
place_of None = lockfile_name
place_of (Some path) = path

-- a lockfile must be generated: none was named, `Cargo.lock` isn't there, and `Cargo.toml` is
abbrev pub is_to_generate : Option (List ℕ) → Host → Bool
is_to_generate (Some path) host = false
is_to_generate None host =
    if is_there (host.stands lockfile_name) then false
    else is_there (host.stands manifest_name)

-- a lockfile is generated if and only if cargo ends with 0
abbrev pub generated : ℤ → Result (List ℕ) Refused
generated status = if int_eq status (pos 0) then Ok lockfile_name else Err (generate status)

-- the lockfile's path; if a lockfile must be generated, that start ends with this status
abbrev pub place_asked : Option (List ℕ) → Host → ℤ → Result (List ℕ) Refused
place_asked named host status =
    if is_to_generate named host then generated status
    else Ok (place_of named)
