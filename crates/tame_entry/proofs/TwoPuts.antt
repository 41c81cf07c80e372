-- Two puts, the second after the first.
use Rattle.std.proofs.Common.{◌≡◌, ℕ, zero, suc, List, [], ◌∷◌, ◌++◌, take, refl, ap, ◌∙◌, append_assoc}
use Rattle.tame_names.specs.Output.{AddsPrefix}

front : (n : ℕ) (xs ys : List ℕ) → (m : ℕ) × (take n xs ≡ take m (xs ++ ys))
front zero xs ys = (zero, refl)
front (suc n) [] ys = (zero, refl)
front (suc n) (x ∷ xs) ys = let rest = front n xs ys in (suc rest.0, ap (λ (zs : List ℕ). x ∷ zs) rest.1)

behind : (n : ℕ) (xs ys : List ℕ) → (m : ℕ) × (xs ++ take n ys ≡ take m (xs ++ ys))
behind n [] ys = (n, refl)
behind n (x ∷ xs) ys = let rest = behind n xs ys in (suc rest.0, ap (λ (zs : List ℕ). x ∷ zs) rest.1)

pub first_put : (before first second now : List ℕ) → AddsPrefix before first now → AddsPrefix before (first ++ second) now
first_put before first second now h =
    let more = front h.0 first second in
    (more.0, h.1 ∙ ap (λ (zs : List ℕ). before ++ zs) more.1)

pub second_put : (before first second mid now : List ℕ) → mid ≡ before ++ first → AddsPrefix mid second now → AddsPrefix before (first ++ second) now
second_put before first second mid now is h =
    let more = behind h.0 first second in
    (more.0, h.1 ∙ ap (λ (zs : List ℕ). zs ++ take h.0 second) is ∙ append_assoc before first (take h.0 second) ∙ ap (λ (zs : List ℕ). before ++ zs) more.1)
