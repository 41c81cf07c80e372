-- What cargo's settings say about indices (Cargo Book, "Configuration" and "Source Replacement").
use Rattle.std.specs.Prelude.{ℕ, codes, List, [], ◌∷◌, bytes_eq, Bool, true, false, ◌||◌, Option, Some, None, option_map, option_and_then, if◌then◌else◌, Result, Ok, Err}
use Rattle.std.specs.Option.{option_or}
use Rattle.toml.specs.Data.{Data, table, Members, no_members, member, as_str, as_table, get_member}
use Rattle.toml.specs.Parse.{parse_document}
use Rattle.toml_tables.specs.Members.{required}
use Rattle.toml_tables.specs.Results.{and_then, or_fault}
use Rattle.tame_names.specs.Paths.{join, parent}
use Rattle.tame_names.specs.Standing.{Host, Standing, File, Nothing}
use Rattle.tame_names.specs.Utf8.{utf8_text}
use Rattle.tame_names.specs.declared.errors.Error.{Error}
use Rattle.tame_names.specs.declared.errors.Error.TheVariants as error
use Rattle.tame_names.specs.declared.errors.IoKind.TheVariants as io
use Rattle.tame_names.specs.declared.host.FailedCall.{FailedCall}
use Rattle.tame_location.specs.Calls.{read_call}
use Rattle.tame_location.specs.declared.settings.HeldUrl.{HeldUrl}
use Rattle.tame_location.specs.declared.settings.HeldUrl.TheVariants as held

-- ---- a file of settings

-- the table in these bytes
abbrev pub table_of : List ℕ → List ℕ → Result Members Error
table_of path bytes = and_then (λ text. or_fault error.Toml (parse_document text))
    (or_fault (error.IoPath io.InvalidData path) (utf8_text bytes))

-- the table of what is at a path, if anything is; only a file can be read
abbrev pub table_in : List ℕ → Standing → Result (Option Members) Error
table_in path Nothing = Ok None
table_in path (File bytes) = and_then (λ config. Ok (Some config)) (table_of path bytes)
table_in path _ = Err (error.IoPath io.Failed path)

-- ---- the first file that answers

abbrev pub answer_in : {A : Type 0} → (List ℕ → Members → Option A) → List ℕ → Option Members
    → Option A
answer_in answer path None = None
answer_in answer path (Some config) = answer path config

abbrev pub or_next : {A : Type 0} → Option A → Result (Option A) Error → Result (Option A) Error
or_next (Some found) next = Ok (Some found)
or_next None next = next

-- the answer of the file at a path, if it has one
abbrev pub answer_at : {A : Type 0} → (List ℕ → Members → Option A) → Host → List ℕ
    → Result (Option A) Error
answer_at answer host path =
    and_then (λ config. Ok (answer_in answer path config)) (table_in path (host.stands path))

-- the first answer of these files in their order; files after it aren't read
abbrev pub first_answer : {A : Type 0} → (List ℕ → Members → Option A) → Host → List (List ℕ)
    → Result (Option A) Error
first_answer answer host [] = Ok None
first_answer answer host (path ∷ more) =
    and_then (λ found. or_next found (first_answer answer host more)) (answer_at answer host path)

-- the calls after a step that may answer: none if it answers or refuses
abbrev pub unless_answered : {A : Type 0} → Result (Option A) Error → List FailedCall
    → List FailedCall
unless_answered (Ok None) calls = calls
unless_answered (Ok (Some found)) calls = []
unless_answered (Err e) calls = []

-- the reads of these files in their order, up to the first that answers or can't be used
abbrev pub reads : {A : Type 0} → (List ℕ → Members → Option A) → Host → List (List ℕ)
    → List FailedCall
reads answer host [] = []
reads answer host (path ∷ more) =
    read_call path ∷ unless_answered (answer_at answer host path) (reads answer host more)

-- ---- members of a table

abbrev pub text_at : List ℕ → Members → Option (List ℕ)
text_at key config = required as_str (get_member key config)

abbrev pub table_at : List ℕ → Members → Option Members
table_at key config = required as_table (get_member key config)

-- ---- source replacement

abbrev pub is_text : Option (List ℕ) → List ℕ → Bool
is_text None text = false
is_text (Some found) text = bytes_eq found text

-- the source that replaces this one, if it is that of the registry: by its name, or by its url
abbrev pub replaced_by : List ℕ → List ℕ → List ℕ → Data → Option (List ℕ)
replaced_by name url key (table source) =
    if bytes_eq key name || is_text (text_at (codes "registry") source) url
    then text_at (codes "replace-with") source else None
replaced_by name url key _ = None

-- the first source in the order of the table that is replaced
abbrev pub replacing : List ℕ → List ℕ → Members → Option (List ℕ)
replacing name url no_members = None
replacing name url (member key d more) =
    option_or (replaced_by name url key d) (replacing name url more)

-- the folder two above the file of settings
abbrev pub base_of : List ℕ → Option (List ℕ)
base_of path = option_and_then parent (parent path)

abbrev pub local_at : List ℕ → Option (List ℕ) → Option HeldUrl
local_at path None = None
local_at path (Some below) = option_map (λ base. held.Local (join base below)) (base_of path)

-- a source by its `registry`; without one by its `local-registry`
abbrev pub source_by : List ℕ → Members → Option Data → Option HeldUrl
source_by path source (Some d) = option_map held.NonCratesIo (as_str d)
source_by path source None = local_at path (text_at (codes "local-registry") source)

abbrev pub source_url : List ℕ → Members → Option HeldUrl
source_url path source = source_by path source (get_member (codes "registry") source)

-- the source that replaces a registry, among the sources of a file
abbrev pub replacement_in : List ℕ → List ℕ → List ℕ → Members → Option HeldUrl
replacement_in name url path sources = option_and_then (source_url path)
    (option_and_then (λ key. table_at key sources) (replacing name url sources))

-- the same in the settings of a file
abbrev pub replacement : List ℕ → List ℕ → List ℕ → Members → Option HeldUrl
replacement name url path config =
    option_and_then (replacement_in name url path) (table_at (codes "source") config)

-- ---- registries by their names

-- the text at a key of a registry
abbrev pub registry_text : List ℕ → List ℕ → Members → Option (List ℕ)
registry_text name key config = option_and_then (text_at key)
    (option_and_then (table_at name) (table_at (codes "registries") config))

abbrev pub index_in : List ℕ → Members → Option (List ℕ)
index_in name config = registry_text name (codes "index") config

-- whether a word names the sparse protocol; nothing unless it is one of the two
abbrev pub protocol : List ℕ → Option Bool
protocol word =
    if bytes_eq word (codes "sparse") then Some true
    else if bytes_eq word (codes "git") then Some false else None

abbrev pub protocol_in : Members → Option Bool
protocol_in config =
    option_and_then protocol (registry_text (codes "crates-io") (codes "protocol") config)
