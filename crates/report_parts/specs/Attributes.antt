-- The attribute lines of the terminal form (this project, after cargo-audit).
use Rattle.std.specs.Prelude.{ℕ, ◌-◌, ◌/◌, ◌%◌, codes, decimal, List, [], ◌++◌, length, replicate, Bool, nat_eq, bytes_eq, Option, Some, None, if◌then◌else◌}
use Rattle.std.specs.List.{starts_with}
use Rattle.std.specs.Option.{option_eq, option_map_or, option_or}
use Rattle.audit_advisory.specs.Hits.{severity_of}
use Rattle.audit_advisory.specs.declared.metadata.Metadata.{Metadata}
use Rattle.report_parts.specs.Words.{severity_word}

-- a word filled to ten characters with spaces
unfoldable pub filled : List ℕ → List ℕ
filled word = word ++ replicate (10 - length word) 32

unfoldable pub attribute : List ℕ → List ℕ → List ℕ
attribute word content = filled word ++ codes " " ++ content ++ codes "\n"

-- without content, no line
abbrev pub attribute_if : List ℕ → Option (List ℕ) → List ℕ
attribute_if word content = option_map_or (attribute word) content []

-- ---- the url

-- RustSec's database has a page here for each of its ids
abbrev pub database_url : List ℕ
database_url = codes "https://rustsec.org/advisories/"

abbrev pub id_url : List ℕ → Option (List ℕ)
id_url id =
    if starts_with nat_eq id (codes "RUSTSEC-") then Some (database_url ++ id) else None

-- a license that asks to name the origin of a text
abbrev pub is_shared : Option (List ℕ) → Bool
is_shared license = option_eq bytes_eq license (Some (codes "CC-BY-4.0"))

-- the stated url or the id's page, the first that there is: under such a license the url comes
-- first, under any other the page
abbrev pub url_of : Metadata → Option (List ℕ)
url_of m =
    if is_shared m.license then option_or m.url (id_url m.id)
    else option_or (id_url m.id) m.url

-- ---- the score

-- tenths with one decimal
unfoldable pub one_decimal : ℕ → List ℕ
one_decimal tenths = decimal (tenths / 10) ++ codes "." ++ decimal (tenths % 10)

-- a score in tenths, with one decimal and its severity
unfoldable pub score : ℕ → List ℕ
score tenths =
    one_decimal tenths ++ codes " (" ++ severity_word (severity_of tenths) ++ codes ")"
