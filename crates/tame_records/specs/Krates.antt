-- The versions of a crate, a line each (Cargo Book, "Registry Index", index files).
use Rattle.std.specs.Prelude.{◌≡◌, ◌⊎◌, ℕ, List, [], ◌∷◌, length, ◌==◌, Bool, is_none, Option, Some, None, option_map, option_and_then, Result, Ok, Err, if◌then◌else◌}
use Rattle.std.specs.List.{position_from}
use Rattle.tame_names.specs.Standing.{Standing, File, Nothing}
use Rattle.tame_names.specs.declared.errors.Error.{Error}
use Rattle.tame_names.specs.declared.errors.Error.TheVariants as error
use Rattle.tame_names.specs.declared.errors.IoKind.TheVariants as io_kind
use Rattle.tame_records.specs.declared.krates.IndexKrate.{IndexKrate}
use Rattle.tame_records.specs.Lines.{lines, trimmed}
use Rattle.tame_records.specs.Record.{record_of}
use Rattle.tame_records.specs.declared.versions.IndexVersion.{IndexVersion}

-- the records of lines, if each has one
abbrev pub records_of : List (List ℕ) → Option (List IndexVersion)
records_of [] = Some []
records_of (l ∷ ls) = option_and_then (λ r. option_map (λ rs. r ∷ rs) (records_of ls)) (record_of l)

abbrev pub has_no_record : List ℕ → Bool
has_no_record line = is_none (record_of line)

-- the first line, counted from 0, that has no record
abbrev pub first_unread : List (List ℕ) → Option ℕ
first_unread ls = position_from has_no_record 0 ls

-- why a body isn't the versions of a crate: it has no line, or this one is the first without a
-- record
abbrev pub unread : List ℕ → Option Error
unread body =
    if length (trimmed body) == 0 then Some error.NoCrateVersions
    else option_map (λ n. error.Json n) (first_unread (lines body))

-- a body read as the versions of a crate, or why it isn't that
abbrev pub IsRead : List ℕ → Result IndexKrate Error → Type 0
IsRead body (Ok krate) = (records_of (lines body) ≡ Some krate.versions) × (unread body ≡ None)
IsRead body (Err e) = (e ≡ error.NoMemory) ⊎ (unread body ≡ Some e)

-- the same for the file at a path of the host
abbrev pub IsReadAt : Standing → Result IndexKrate Error → Type 0
IsReadAt standing (Err (error.Io io_kind.NotFound)) = standing ≡ Nothing
IsReadAt standing (Err (error.Io io_kind.Failed)) = Unit {0}
IsReadAt standing (Err error.NoMemory) = Unit {0}
IsReadAt standing result = (body : List ℕ) × (standing ≡ File body) × IsRead body result
