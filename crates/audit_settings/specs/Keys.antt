-- The tables of the settings and their keys, in the order in which they are read (the file
-- `audit.toml` of cargo-audit).
use Rattle.std.specs.Prelude.{ℕ, codes, List, [], ◌∷◌, ◌++◌, Bool, true, false, bytes_eq, Option, Some, None, if◌then◌else◌}
use Rattle.audit_settings.specs.declared.sections.Section.{Section}
use Rattle.audit_settings.specs.declared.sections.Section.TheVariants.{Advisories, Database, Output, Target, Yanked}

-- a table's name
abbrev pub name : Section → List ℕ
name Advisories = codes "advisories"
name Database = codes "database"
name Output = codes "output"
name Target = codes "target"
name Yanked = codes "yanked"

-- its keys
abbrev pub keys : Section → List (List ℕ)
keys Advisories = codes "ignore" ∷ codes "informational_warnings" ∷ codes "severity_threshold" ∷ []
keys Database = codes "path" ∷ codes "url" ∷ codes "fetch" ∷ codes "stale" ∷ []
keys Output = codes "deny" ∷ codes "format" ∷ codes "quiet" ∷ codes "show_tree" ∷ []
keys Target = codes "arch" ∷ codes "os" ∷ []
keys Yanked = codes "enabled" ∷ codes "update_index" ∷ []

-- the table with a name
abbrev pub section_of : List ℕ → Option Section
section_of text =
    if bytes_eq text (codes "advisories") then Some Advisories
    else if bytes_eq text (codes "database") then Some Database
    else if bytes_eq text (codes "output") then Some Output
    else if bytes_eq text (codes "target") then Some Target
    else if bytes_eq text (codes "yanked") then Some Yanked
    else None

abbrev pub is_in : List ℕ → List (List ℕ) → Bool
is_in text [] = false
is_in text (t ∷ ts) = if bytes_eq text t then true else is_in text ts

-- a table's name and one of its keys, as `table.key`
abbrev pub dotted : List ℕ → List ℕ → List ℕ
dotted table key = table ++ codes "." ++ key
