-- Bytes cut at a needle, with no last piece after a needle that ends them.
use Rattle.std.specs.Prelude.{ℕ, List, [], ◌∷◌, length, Bool, false, ◌==◌, ◌&&◌, if◌then◌else◌}

-- the first piece begins with this byte
abbrev pub onto_first : ℕ → List (List ℕ) → List (List ℕ)
onto_first b [] = (b ∷ []) ∷ []
onto_first b (piece ∷ more) = (b ∷ piece) ∷ more

abbrev pub pieces : ℕ → List ℕ → List (List ℕ)
pieces needle [] = []
pieces needle (b ∷ bs) =
    if b == needle then [] ∷ pieces needle bs else onto_first b (pieces needle bs)

-- without the needles at the end
abbrev pub without_end : ℕ → List ℕ → List ℕ
without_end needle [] = []
without_end needle (b ∷ bs) =
    if b == needle && length (without_end needle bs) == 0 then [] else b ∷ without_end needle bs

-- whether this is the last byte
abbrev pub ends_with : ℕ → List ℕ → Bool
ends_with needle [] = false
ends_with needle (b ∷ []) = b == needle
ends_with needle (b ∷ c ∷ bs) = ends_with needle (c ∷ bs)
