-- Lists without repetitions.
use Rattle.std.specs.Prelude.{ℕ, List, [], ◌∷◌, ◌++◌, Bool, not, bytes_eq, if◌then◌else◌}
use Rattle.std.specs.List.{filter, list_any}

-- for each string, the first of its items
abbrev pub first_of_each : {X : Type 0} → (X → List ℕ) → List X → List X
first_of_each text [] = []
first_of_each text (x ∷ xs) =
    x ∷ filter (λ y. not (bytes_eq (text y) (text x))) (first_of_each text xs)

-- one of these items has this string
abbrev pub is_text_of : {X : Type 0} → (X → List ℕ) → List ℕ → List X → Bool
is_text_of text t xs = list_any (λ x. bytes_eq t (text x)) xs

-- one more item, if none has its string
abbrev pub with_new : {X : Type 0} → (X → List ℕ) → List X → X → List X
with_new text xs x = if is_text_of text (text x) xs then xs else xs ++ x ∷ []

abbrev pub with_all_new : {X : Type 0} → (X → List ℕ) → List X → List X → List X
with_all_new text xs [] = xs
with_all_new text xs (y ∷ ys) = with_all_new text (with_new text xs y) ys
