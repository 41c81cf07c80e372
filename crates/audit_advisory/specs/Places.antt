-- The items of a list with their places, which count from 0 (this project).
use Rattle.std.specs.Prelude.{ℕ, suc, List, [], ◌∷◌, map, Option, Some, None, Bool, false, slice_get}
use Rattle.std.specs.List.{filter}

-- an item with its place
pub record Placed (A : Type 0) : Type 0 where
  pub place : ℕ
  pub item : A

-- the items of a list that begins at a place
abbrev pub placed_from : {A : Type 0} → ℕ → List A → List (Placed A)
placed_from i [] = []
placed_from i (x ∷ xs) = record { place = i; item = x } ∷ placed_from (suc i) xs

abbrev pub placed : {A : Type 0} → List A → List (Placed A)
placed xs = placed_from 0 xs

-- the places whose item passes a test
abbrev pub places_where : {A : Type 0} → (A → Bool) → List A → List ℕ
places_where test xs = map (λ x. x.place) (filter (λ x. test x.item) (placed xs))

-- all places of a list that begins at a place
abbrev pub places_from : {A : Type 0} → ℕ → List A → List ℕ
places_from i [] = []
places_from i (x ∷ xs) = i ∷ places_from (suc i) xs

abbrev pub passes : {A : Type 0} → (A → Bool) → Option A → Bool
passes test None = false
passes test (Some x) = test x

-- the item at a place passes a test
abbrev pub passes_at : {A : Type 0} → (A → Bool) → List A → ℕ → Bool
passes_at test xs place = passes test (slice_get xs place)
