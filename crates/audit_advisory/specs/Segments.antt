-- Paths of functions and their segments, however they are cut (this project).
use Rattle.std.specs.Prelude.{ℕ, codes, List, [], ◌∷◌, ◌++◌, Bool, false, ◌&&◌, ◌||◌, ◌==◌}

-- the segments, joined by two colons
abbrev pub joined : List (List ℕ) → List ℕ
joined [] = []
joined (segment ∷ []) = segment
joined (segment ∷ next ∷ more) = segment ++ codes "::" ++ joined (next ∷ more)

-- a string has two colons side by side
abbrev pub has_colons : List ℕ → Bool
has_colons [] = false
has_colons (a ∷ []) = false
has_colons (a ∷ b ∷ bs) = (a == 58 && b == 58) || has_colons (b ∷ bs)
