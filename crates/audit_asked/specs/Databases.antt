-- Where the advisories are (this project, after cargo-audit).
use Rattle.std.specs.Prelude.{ℕ, codes, List, Option, Some, None, if◌then◌else◌, Result, Ok, Err}
use Rattle.tame_names.specs.Paths.{join, plain_path}
use Rattle.tame_names.specs.Standing.{Host}
use Rattle.audit_asked.specs.Places.{is_there}
use Rattle.audit_asked.specs.Refusals.{Refused, missing}
use Rattle.audit_asked.specs.Settings.{known_home}

-- the folder of advisories in cargo's home
abbrev pub default_database : Option (List ℕ) → Option (List ℕ)
default_database None = None
default_database (Some home) = Some (join home (codes "advisory-db"))

-- a database at a path, which must be there
abbrev pub database_at : List ℕ → Host → Result (Option (List ℕ)) Refused
database_at path host =
    if is_there (host.stands path) then Ok (Some path) else Err (missing path)

-- the database: the one that was named, which must be there (slashes at the end of its path don't
-- count); else the one in cargo's home; none if cargo's home isn't known
abbrev pub database_asked : Option (List ℕ) → Host → Result (Option (List ℕ)) Refused
database_asked (Some path) host = database_at (plain_path path) host
database_asked None host = Ok (default_database (known_home host))

-- the path that is reported for it
abbrev pub database_path : Option (List ℕ) → List ℕ
database_path None = codes "advisory-db"
database_path (Some path) = path
