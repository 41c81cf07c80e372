-- Names of crates and their paths in an index. Cargo Book, "Registry Index" (characters of a name,
-- folders of index files) and "The Manifest Format" (names).
use Rattle.std.specs.Prelude.{◌≡◌, ℕ, codes, List, ◌++◌, length, take, drop, Bool, true, false, not, nat_lt, ◌==◌, ◌||◌, bytes_eq, Option, Some, None, is_none, option_map, unwrap_or, find, if◌then◌else◌, encode_utf8}
use Rattle.std.specs.List.{enumerate_from, list_any}
use Rattle.std.specs.Char.{is_ascii_alphabetic, is_ascii_alphanumeric}
use Rattle.std.specs.Str.{IsUtf8, chars, str_to_ascii_lowercase}
use Rattle.tame_names.specs.Pieces.{pieces}
use Rattle.tame_names.specs.declared.errors.InvalidKrateName.{InvalidKrateName}
use Rattle.tame_names.specs.declared.errors.InvalidKrateName.TheVariants.{InvalidLength, InvalidCharacter, ReservedName}
use Rattle.tame_names.specs.declared.errors.ReservedNameKind.{ReservedNameKind}
use Rattle.tame_names.specs.declared.errors.ReservedNameKind.TheVariants.{Keyword, Artifact, Windows, Standard}

-- why a text is no name: its number of characters, a character and its position, or why it is
-- reserved
pub data NameRefusal : Type 0 where
  HasLength : (count : ℕ) → NameRefusal
  HasCharacter : (character place : ℕ) → NameRefusal
  IsReserved : (name : List ℕ) (kind : ReservedNameKind) → NameRefusal

abbrev pub refusal : InvalidKrateName → NameRefusal
refusal (InvalidLength n) = HasLength n
refusal (InvalidCharacter c at) = HasCharacter c at
refusal (ReservedName name kind) = IsReserved name.now kind

-- ---- the rule of every name

-- an ASCII letter or digit, `-` or `_`
abbrev pub is_name_char : ℕ → Bool
is_name_char c = is_ascii_alphanumeric c || c == 45 || c == 95

-- the first character that a name must not have, with its position among the characters
abbrev pub first_invalid : List ℕ → Option (ℕ × ℕ)
first_invalid text = find (λ p. not (is_name_char p.1)) (enumerate_from 0 (chars text))

-- why a text is no name: it is empty, or this is its first character of another kind
abbrev pub refusal_of : List ℕ → Option NameRefusal
refusal_of text =
    if length text == 0 then Some (HasLength 0)
    else option_map (λ p. HasCharacter p.1 p.0) (first_invalid text)

abbrev pub is_name : List ℕ → Bool
is_name text = is_none (refusal_of text)

-- ---- what cargo and crates.io also require

-- the first character is a letter or `_`
abbrev pub is_char_at : ℕ × ℕ → Bool
is_char_at p = if p.0 == 0 then is_ascii_alphabetic p.1 || p.1 == 95 else is_name_char p.1

abbrev pub first_bad : List ℕ → Option (ℕ × ℕ)
first_bad text = find (λ p. not (is_char_at p)) (enumerate_from 0 (chars text))

-- reserved names, compared with case
abbrev pub keywords : List (List ℕ)
keywords =
    pieces 32 (codes "Self abstract as async await become box break const continue crate do dyn")
    ++ pieces 32
    (codes "else enum extern false final fn for if impl in let loop macro match mod move")
    ++ pieces 32 (codes "mut override priv pub ref return self static struct super trait true try")
    ++ pieces 32 (codes "type typeof unsafe unsized use virtual where while yield")

abbrev pub artifacts : List (List ℕ)
artifacts = pieces 32 (codes "build deps examples incremental")

abbrev pub windows : List (List ℕ)
windows =
    pieces 32 (codes "aux con nul prn com1 com2 com3 com4 com5 com6 com7 com8 com9 lpt1 lpt2 lpt3")
    ++ pieces 32 (codes "lpt4 lpt5 lpt6 lpt7 lpt8 lpt9")

abbrev pub libraries : List (List ℕ)
libraries = pieces 32 (codes "alloc core proc-macro proc_macro std test")

abbrev pub stands_in : List ℕ → List (List ℕ) → Bool
stands_in text names = list_any (λ name. bytes_eq name text) names

abbrev pub reserved_kind : List ℕ → Option ReservedNameKind
reserved_kind text =
    if stands_in text keywords then Some Keyword
    else if stands_in text artifacts then Some Artifact
    else if stands_in text windows then Some Windows
    else if stands_in text libraries then Some Standard
    else None

-- a position that counts, and a length that is too long, if there is a limit
abbrev pub is_within : Option ℕ → ℕ → Bool
is_within None place = true
is_within (Some limit) place = nat_lt place limit

abbrev pub is_longer : Option ℕ → ℕ → Bool
is_longer None count = false
is_longer (Some limit) count = nat_lt limit count

-- a bad character within the limit comes before the length, and reserved names come last
abbrev pub by_characters : Option ℕ → List ℕ → Option (ℕ × ℕ) → Option NameRefusal
by_characters limit text (Some p) =
    Some (if is_within limit p.0 then HasCharacter p.1 p.0 else HasLength (length (chars text)))
by_characters limit text None =
    if is_longer limit (length (chars text)) then Some (HasLength (length (chars text)))
    else option_map (λ kind. IsReserved text kind) (reserved_kind text)

-- why a text is no name to cargo, with a limit on its characters or without one; NameRules says in
-- no order which texts are names
abbrev pub strict_refusal : Option ℕ → List ℕ → Option NameRefusal
strict_refusal limit text =
    if length text == 0 then Some (HasLength 0) else by_characters limit text (first_bad text)

-- ---- paths

-- the folders of a name, by its number of letters, separated by a separator
abbrev pub prefix : List ℕ → List ℕ → List ℕ
prefix sep name =
    if length name == 1 then codes "1"
    else if length name == 2 then codes "2"
    else if length name == 3 then codes "3" ++ sep ++ take 1 name
    else take 2 name ++ sep ++ take 2 (drop 2 name)

-- the folders and the name, in ASCII lower case
abbrev pub relative_path : List ℕ → List ℕ → List ℕ
relative_path sep name = str_to_ascii_lowercase (prefix sep name ++ sep ++ name)

-- the given separator, or `/`
abbrev pub separator : Option ℕ → List ℕ
separator given = encode_utf8 (unwrap_or given 47)

-- the path of a name's file in an index: a function of the name alone, and of names only
abbrev pub path : List ℕ → Option (List ℕ)
path text = if is_name text then Some (relative_path (separator None) text) else None

-- a path of some name
abbrev pub IsIndexPath : List ℕ → Type 0
IsIndexPath p = (name : List ℕ) × IsUtf8 name × (path name ≡ Some p)
