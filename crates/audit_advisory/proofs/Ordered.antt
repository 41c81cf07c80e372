-- Places in the order of their names.
use Rattle.std.proofs.Common.{◌≡◌, ℕ, suc, ◌<◌, ◌≤◌, List, [], ◌∷◌, length, get_or, Bool, true, false, not, ◌&&◌, refl, sym, ap, ◌∙◌, arith}
use Rattle.std.specs.List.{filter, list_any}
use Rattle.std.specs.List.Sorted.{IsPermutation, IsSortedBy, IsStableBy, IsSortedByKey, IsStableByKey, ties}
use Rattle.std.specs.Cmp.{IsTotalOrder, Equal-is}
use Rattle.std.specs.Ordering.{is_lt, is_eq, ordering_index, ordering_reverse}
use Rattle.std.specs.declared.cmp.Ordering.{Ordering}
use Rattle.std.specs.declared.cmp.Ordering.TheVariants.{Less, Equal, Greater}
use Rattle.std.proofs.lemmas.List.Sorted.{searchable_from_sorted, list_any-IsPermutation, ranks_by}
use Rattle.std.proofs.lemmas.Cmp.{alike_right}
use Rattle.std.proofs.lemmas.Fn.{always_returns_same}
use Rattle.std.specs.Fn.{Called, ComparesAs, Mut}
use Rattle.std.specs.Cmp.{IsStrictWeakOrder}
use denote.Ref.{Bor}
use Rattle.audit_advisory.specs.Names.{goes_on}
use Rattle.audit_advisory.specs.Places.{places_from}
use Rattle.audit_advisory.proofs.Filtering.{filter_alike, filter_none, found_one}

goes_on-lower : (past : Bool) (o r : Ordering) → ordering_index o ≤ ordering_index r → goes_on past r ≡ true → goes_on past o ≡ true
goes_on-lower past Less r le e = refl
goes_on-lower past Equal Less le e = absurd (omega (arith, le))
goes_on-lower past Equal Equal le e = e
goes_on-lower past Equal Greater le e = absurd (cc)
goes_on-lower past Greater Less le e = absurd (omega (arith, le))
goes_on-lower past Greater Equal le e = absurd (omega (arith, le))
goes_on-lower past Greater Greater le e = e

-- if a search goes on to the right at an item, it does so at each item before
pub goes_on-before : {K X : Type 0} {R : K → K → Ordering} → IsTotalOrder R → (key : X → K) (xs : List X) (q : K) (past : Bool) → IsSortedByKey key R xs
    → (i j : ℕ) (d : X) → i ≤ j → j < length xs → goes_on past (R (key (get_or xs j d)) q) ≡ true → goes_on past (R (key (get_or xs i d)) q) ≡ true
goes_on-before o key xs q past up i j d le lt e = goes_on-lower past _ _ (searchable_from_sorted o key xs q up i j d le lt) e

-- if it does not, it does not at any item after
pub goes_on-behind : {K X : Type 0} {R : K → K → Ordering} → IsTotalOrder R → (key : X → K) (xs : List X) (q : K) (past : Bool) → IsSortedByKey key R xs
    → (i j : ℕ) (d : X) → i ≤ j → j < length xs → goes_on past (R (key (get_or xs i d)) q) ≡ false → goes_on past (R (key (get_or xs j d)) q) ≡ false
goes_on-behind {R = R} o key xs q past up i j d le lt e =
    elim (goes_on past (R (key (get_or xs j d)) q)) as (λ b. goes_on past (R (key (get_or xs j d)) q) ≡ b → b ≡ false) [
      | true ↦ λ s. let t = goes_on-before o key xs q past up i j d le lt s in cc
      | false ↦ λ s. refl
    ] refl

-- ---- what the two searches say of one comparison
pub not_both : (o : Ordering) → goes_on false o ≡ true → goes_on true o ≡ false → ⊥
not_both Less e f = cc
not_both Equal e f = cc
not_both Greater e f = cc

pub between : (o : Ordering) → goes_on false o ≡ false → goes_on true o ≡ true → is_eq o ≡ true
between Less e f = cc
between Equal e f = refl
between Greater e f = cc

pub lower : (o : Ordering) → goes_on false o ≡ true → is_eq o ≡ false
lower Less e = refl
lower Equal e = cc
lower Greater e = refl

pub higher : (o : Ordering) → goes_on true o ≡ false → is_eq o ≡ false
higher Less e = refl
higher Equal e = cc
higher Greater e = refl

-- ---- a stable sort
tied : (o r : Ordering) → o ≡ ordering_reverse r → not (is_lt o) && not (is_lt r) ≡ is_eq r
tied Less Less e = cc
tied Less Equal e = cc
tied Less Greater e = refl
tied Equal Less e = cc
tied Equal Equal e = refl
tied Equal Greater e = cc
tied Greater Less e = refl
tied Greater Equal e = cc
tied Greater Greater e = cc

-- the items that tie with one of a key are those of the key
ties_with : {K : Type 0} {R : K → K → Ordering} → IsTotalOrder R → (x y q : K) → is_eq (R x q) ≡ true → is_eq (R y q) ≡ (not (is_lt (R x y)) && not (is_lt (R y x)))
ties_with {R = R} o x y q e = ap is_eq (sym (alike_right o x q y ((Equal-is (R x q)).0 e))) ∙ sym (tied (R x y) (R y x) (o.antisymm x y))

-- after a stable sort by a key, the items of a key are those before it, in their order
pub same_key : {K X : Type 0} {R : K → K → Ordering} → IsTotalOrder R → (key : X → K) (xs ys : List X) → IsPermutation xs ys → IsStableByKey key R xs ys
    → (q : K) → filter (λ x. is_eq (R (key x) q)) ys ≡ filter (λ x. is_eq (R (key x) q)) xs
same_key {X = X} {R = R} o key xs ys moved stable q =
    let p : X → Bool = λ x. is_eq (R (key x) q) in
    elim (list_any p xs) as (λ b. list_any p xs ≡ b → filter p ys ≡ filter p xs) [
      | true ↦ λ e.
          let one = found_one p xs e in
          let t : X → Bool = ties (λ x y. is_lt (R (key x) (key y))) one.0 in
          let alike : (y : X) → p y ≡ t y = λ y. ties_with o (key one.0) (key y) q one.1 in
          filter_alike p t alike ys ∙ stable one.0 ∙ sym (filter_alike p t alike xs)
      | false ↦ λ e. filter_none p ys (sym (list_any-IsPermutation p xs ys moved) ∙ e) ∙ sym (filter_none p xs e)
    ] refl

-- what `sort_by` ensures if each call compares by the key: the items ascend by it, and those of a
-- key are those before the sort, in their order
pub sorted_once : {K X F : Type 0} {R : K → K → Ordering} (o : IsTotalOrder R) (key : X → K) {g : Mut F (Bor X × (Bor X × Unit {0})) Ordering} {f : F} (xs ys : List X)
    → IsPermutation xs ys
    → ((lt : X → X → Bool) → IsStrictWeakOrder lt → ComparesAs g lt f → IsSortedBy lt ys)
    → ((lt : X → X → Bool) → IsStrictWeakOrder lt → ComparesAs g lt f → IsStableBy lt xs ys)
    → ((a : Bor X × (Bor X × Unit {0})) (r : Ordering) (f' : F) → Called g f a r f' → (r ≡ R (key a.0.now) (key a.1.0.now)) × (f' ≡ f))
    → IsSortedByKey key R ys × ((q : K) → filter (λ x. is_eq (R (key x) q)) ys ≡ filter (λ x. is_eq (R (key x) q)) xs)
sorted_once {X = X} {R = R} o key {g = g} {f = f} xs ys moved up stable calls =
    let by : X → X → Bool = λ x y. is_lt (R (key x) (key y)) in
    let compares : ComparesAs g by f = always_returns_same g (λ a r. is_lt r ≡ by a.0.now a.1.0.now) f (λ a r f' called. (ap is_lt (calls a r f' called).0, (calls a r f' called).1)) in
    (up by (ranks_by o key) compares, same_key o key xs ys moved (stable by (ranks_by o key) compares))

pub length_places : {A : Type 0} (i : ℕ) (xs : List A) → length (places_from i xs) ≡ length xs
length_places i [] = refl
length_places i (x ∷ xs) = ap suc (length_places (suc i) xs)
