-- Names of cargo and of crates.io by the rules that each must meet, in no order. The rules of cargo
-- and of crates.io for the names of new packages.
use Rattle.std.specs.Prelude.{◌≤◌, ℕ, List, ◌++◌, length, IsTrue, IfSome, All, Contains, slice_get, Bool, ◌==◌, ◌||◌}
use Rattle.std.specs.Char.{is_ascii_alphabetic}
use Rattle.std.specs.Str.{chars}
use Rattle.tame_names.specs.Names.{artifacts, is_name_char, keywords, libraries, windows}

-- an ASCII letter or `_`
abbrev pub is_first_char : ℕ → Bool
is_first_char c = is_ascii_alphabetic c || c == 95

-- every reserved name
abbrev pub reserved_names : List (List ℕ)
reserved_names = keywords ++ artifacts ++ windows ++ libraries

pub record IsCargoName (text : List ℕ) : Type 0 where
  pub some : 1 ≤ length (chars text)
  pub first : IfSome (slice_get (chars text) 0) (λ c. IsTrue (is_first_char c))
  pub each : All (λ c. IsTrue (is_name_char c)) (chars text)
  pub free : ¬ (Contains reserved_names text)

-- a name of cargo of at most 64 characters
pub record IsCratesIoName (text : List ℕ) : Type 0 where
  pub name : IsCargoName text
  pub most : length (chars text) ≤ 64
