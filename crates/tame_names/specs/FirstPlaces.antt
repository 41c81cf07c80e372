-- The distinct texts of a list, in the order in which each comes first (this project).
use Rattle.std.specs.Prelude.{ℕ, List, bytes_eq, map, ◌↔◌}
use Rattle.std.specs.List.{Contains, IsDistinct, position_or_len}
use Rattle.std.specs.List.Sorted.{IsStrictlyIncreasing}

-- the position of the first of these texts that is this one
abbrev pub first_place : List (List ℕ) → List ℕ → ℕ
first_place texts text = position_or_len (bytes_eq text) texts

-- these texts are distinct, they are in the order in which each comes first among all, and they are
-- exactly those
pub record AreEachOnce (once all : List (List ℕ)) : Type 0 where
  pub distinct : IsDistinct bytes_eq once
  pub order : IsStrictlyIncreasing (map (first_place all) once)
  pub exact : (text : List ℕ) → Contains once text ↔ Contains all text
