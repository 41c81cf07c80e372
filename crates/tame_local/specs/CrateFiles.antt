-- The names of crate files: `<name>-<version>.crate` (Cargo Book, "Source Replacement", local
-- registry sources).
use Rattle.std.specs.Prelude.{◌≡◌, ℕ, suc, ◌-◌, codes, nat_eq, List, [], ◌∷◌, ◌++◌, length, take, drop, false, Option, Some, None, IsTrue, is_ok, option_and_then, option_map, ◌==◌, if◌then◌else◌}
use Rattle.std.specs.List.{ends_with, position_or_len}
use Rattle.std.specs.Path.{rfind_below}
use Rattle.std.specs.Str.{IsUtf8}
use Rattle.semver.specs.Parse.{version_parts}
use Rattle.tame_names.specs.Names.{is_name}
use Rattle.tame_location.specs.Urls.{has_byte}

-- this byte isn't among these
abbrev pub Lacks : ℕ → List ℕ → Type 0
Lacks n [] = Unit {0}
Lacks n (b ∷ bs) = ((b == n) ≡ false) × Lacks n bs

-- the end of every crate file's name
abbrev pub ending : List ℕ
ending = codes ".crate"

-- the name of the file of a version of a crate
abbrev pub crate_file : List ℕ → List ℕ → List ℕ
crate_file name version = name ++ 45 ∷ (version ++ ending)

-- the text before the ending
abbrev pub stem_of : List ℕ → Option (List ℕ)
stem_of file = if ends_with nat_eq file ending then Some (take (length file - 6) file) else None

-- the position of the last `-` before the first `.`; none without a `.`
abbrev pub dash_of : List ℕ → Option ℕ
dash_of text =
    if has_byte 46 text then rfind_below 45 text (position_or_len (λ b. b == 46) text) else None

-- a text without the byte at a position: the text before it, and the text after it
abbrev pub parted : List ℕ → ℕ → List ℕ × List ℕ
parted text at = (take at text, drop (suc at) text)

abbrev pub stem_components : List ℕ → Option (List ℕ × List ℕ)
stem_components stem = option_map (parted stem) (dash_of stem)

-- name and version of a crate file: the text before the ending, split at the last `-` before the
-- first `.`
abbrev pub components : List ℕ → Option (List ℕ × List ℕ)
components file = option_and_then stem_components (stem_of file)

-- the name of the file of a version gives name and version back
abbrev pub GivesBack : Type 0
GivesBack =
    (name version : List ℕ) → IsUtf8 name → IsTrue (is_name name)
    → IsTrue (is_ok (version_parts version))
    → components (crate_file name version) ≡ Some (name, version)
