-- Folders that one call after another creates.
use Rattle.std.proofs.Common.{◌≡◌, ℕ, List, [], ◌∷◌, ◌++◌, refl, sym, ap, ◌∙◌, append_assoc, append-nil}
use Rattle.std.specs.List.{AllByRecursion}
use Rattle.tame_cache.specs.Folders.{MakesOnly}

module _ (P : List ℕ → Type 0) where
  both : (xs ys : List (List ℕ)) → AllByRecursion P xs → AllByRecursion P ys → AllByRecursion P (xs ++ ys)
  both [] ys h k = k
  both (x ∷ xs) ys h k = (h.0, both xs ys h.1 k)

  pub none_made : (before now : List (List ℕ)) → now ≡ before → MakesOnly P before now
  none_made before now same = ([], same ∙ sym (append-nil before), tt)

  pub then_made : (a b c : List (List ℕ)) → MakesOnly P a b → MakesOnly P b c → MakesOnly P a c
  then_made a b c first second =
      (first.0 ++ second.0, second.1 ∙ ap (λ l. l ++ second.0) first.1 ∙ append_assoc a first.0 second.0, both first.0 second.0 first.2 second.2)

weaker_each : (P Q : List ℕ → Type 0) → ((x : List ℕ) → P x → Q x) → (xs : List (List ℕ)) → AllByRecursion P xs → AllByRecursion Q xs
weaker_each P Q f [] h = tt
weaker_each P Q f (x ∷ xs) h = (f x h.0, weaker_each P Q f xs h.1)

pub made_weaker : (P Q : List ℕ → Type 0) → ((x : List ℕ) → P x → Q x) → (before now : List (List ℕ)) → MakesOnly P before now → MakesOnly Q before now
made_weaker P Q f before now made = (made.0, made.1, weaker_each P Q f made.0 made.2)

-- those above one more path
pub one_made : (a b c : List (List ℕ)) (p : List ℕ) → c ≡ b ++ p ∷ [] → b ≡ a → MakesOnly (λ q. q ≡ p) a c
one_made a b c p more same = (p ∷ [], more ∙ ap (λ l. l ++ p ∷ []) same, (refl, tt))
