-- The places that a query finds are those of advisories.
use Rattle.std.proofs.Common.{ℕ, suc, ◌+◌, ◌<◌, ◌≤◌, List, [], ◌∷◌, length, Bool, true, false, cond, arith}
use Rattle.std.specs.Prelude.{All}
use Rattle.std.specs.List.{filter}
use Rattle.std.proofs.lemmas.List.Elements.{All-append, All-cons, All-map, All-nil}
use Rattle.audit_advisory.specs.Places.{Placed, placed_from, places_where}
use Rattle.audit_advisory.specs.declared.advisories.Advisory.{Advisory}
use Rattle.audit_core.specs.Auditors.{self_advisories}

filter_placed : {A : Type 0} (n : ℕ) (test : Placed A → Bool) (i : ℕ) (xs : List A) → i + length xs ≤ n → All (λ (x : Placed A). x.place < n) (filter test (placed_from i xs))
filter_placed n test i [] low = All-nil _
filter_placed {A = A} n test i (x ∷ xs) low =
    let first : Placed A = record { place = i; item = x } in
    let more = filter_placed n test (suc i) xs (omega (arith, low)) in
    elim (test first) as (λ b. All (λ (y : Placed A). y.place < n) (cond b (first ∷ filter test (placed_from (suc i) xs)) (filter test (placed_from (suc i) xs)))) [
      | true ↦ All-cons (λ (y : Placed A). y.place < n) first _ (omega (arith, low)) more
      | false ↦ more
    ]

places_below : {A : Type 0} (test : A → Bool) (xs : List A) → All (λ j. j < length xs) (places_where test xs)
places_below {A = A} test xs = All-map (λ j. j < length xs) (λ (x : Placed A). x.place) _ (filter_placed (length xs) (λ (x : Placed A). test x.item) 0 xs (omega arith))

pub self_placed : (advisories : List Advisory) → All (λ j. j < length advisories) (self_advisories advisories)
self_placed advisories = All-append (λ j. j < length advisories) _ _ (places_below _ advisories) (places_below _ advisories)
