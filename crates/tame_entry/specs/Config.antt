-- The configuration of an index, and where a crate is downloaded from (Cargo Book, "Registry
-- Index", index configuration).
use Rattle.std.specs.Prelude.{ℕ, codes, List, [], ◌∷◌, ◌++◌, flat_map, ◌==◌, bytes_eq, nat_eq, Bool, Option, Some, None, option_map, option_and_then, if◌then◌else◌}
use Rattle.std.specs.Cmp.Lexicographic.{slice_cmp}
use Rattle.std.specs.List.{ends_with, list_any, slice_split}
use Rattle.std.specs.Option.{option_cmp}
use Rattle.std.specs.Ordering.{bool_cmp, nat_cmp, ordering_then}
use Rattle.std.specs.declared.cmp.Ordering.{Ordering}
use Rattle.std.specs.Str.{str_to_ascii_lowercase}
use Rattle.serde_json.specs.Data.{Data}
use Rattle.serde_json.specs.Find.{get}
use Rattle.tame_names.specs.Names.{is_name, prefix}
use Rattle.tame_records.specs.Members.{flag_or_false, text_at, text_or_null}
use Rattle.tame_records.specs.Record.{value_of}
use Rattle.tame_entry.specs.Prefixes.{without_prefix}
use Rattle.tame_entry.specs.declared.config.IndexConfig.{IndexConfig}

-- configurations are ordered by `dl`, then by `api`, an absent one first, then by the flag
abbrev pub config_cmp : IndexConfig → IndexConfig → Ordering
config_cmp one other =
    ordering_then (slice_cmp nat_cmp one.dl other.dl)
    (ordering_then (option_cmp (slice_cmp nat_cmp) one.api other.api)
    (bool_cmp one.auth_required other.auth_required))

-- `dl` is a string, `api` a string or null, `auth-required` a flag
abbrev pub config_of_data : Data → Option IndexConfig
config_of_data d =
    option_and_then (λ dl. option_and_then (λ api. option_map (λ auth. record {
      dl = dl;
      api = api;
      auth_required = auth;
    })
    (flag_or_false (get (codes "auth-required") d)))
    (text_or_null (get (codes "api") d)))
    (text_at (codes "dl") d)

abbrev pub config_of : List ℕ → Option IndexConfig
config_of bytes = option_and_then config_of_data (value_of bytes)

-- ---- where a crate is downloaded from

-- a value before what is left, if something is
abbrev pub value_or : List ℕ → Option (List ℕ) → List ℕ → List ℕ
value_or value (Some left) other = value ++ left
value_or value None other = other

abbrev pub slash : List ℕ
slash = codes "/"

-- what follows a `{`: a marker's end with its value, or text as it is
abbrev pub filled_part : List ℕ → List ℕ → List ℕ → List ℕ
filled_part name version part =
    value_or name (without_prefix (codes "crate}") part)
    (value_or version (without_prefix (codes "version}") part)
    (value_or (prefix slash name) (without_prefix (codes "prefix}") part)
    (value_or (str_to_ascii_lowercase (prefix slash name))
    (without_prefix (codes "lowerprefix}") part)
    (codes "{" ++ part))))

abbrev pub is_brace : ℕ → Bool
is_brace b = b == 123

abbrev pub filled_parts : List ℕ → List ℕ → List (List ℕ) → List ℕ
filled_parts name version [] = []
filled_parts name version (first ∷ parts) = first ++ flat_map (filled_part name version) parts

-- a text with the values of its markers, which aren't read again
abbrev pub filled : List ℕ → List ℕ → List ℕ → List ℕ
filled name version dl = filled_parts name version (slice_split is_brace dl)

abbrev pub crates_io_url : List ℕ → List ℕ → List ℕ
crates_io_url name version =
    codes "https://static.crates.io/crates/" ++ name ++ slash ++ name ++ codes "-" ++ version
    ++ codes ".crate"

abbrev pub with_slash : List ℕ → List ℕ
with_slash dl = if ends_with nat_eq dl slash then dl else dl ++ slash

abbrev pub plain_url : List ℕ → List ℕ → List ℕ → List ℕ
plain_url name version dl = with_slash dl ++ name ++ slash ++ version ++ codes "/download"

-- crates.io has a url of its own; a text with a brace is filled; another one is a folder
abbrev pub download_url : List ℕ → List ℕ → List ℕ → List ℕ
download_url name version dl =
    if bytes_eq dl (codes "https://crates.io/api/v1/crates") then crates_io_url name version
    else if list_any is_brace dl then filled name version dl
    else plain_url name version dl

-- only valid names have one
abbrev pub version_url : List ℕ → List ℕ → List ℕ → Option (List ℕ)
version_url name version dl = if is_name name then Some (download_url name version dl) else None
