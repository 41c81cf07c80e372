-- The parents added one after the other are those of the packages so far.
use Rattle.std.proofs.Common.{◌≡◌, ℕ, zero, suc, ◌+◌, ◌-◌, ◌<◌, ◌≤◌, List, [], ◌∷◌, ◌++◌, length, take, get_or, Bool, true, false, cond, Some, refl, sym, ap, ◌∙◌, arith}
use Rattle.std.specs.Prelude.{◌||◌, ◌==◌, slice_get}
use Rattle.std.specs.List.{filter, range_with_len}
use Rattle.std.proofs.lemmas.List.{get_or-map}
use Rattle.std.proofs.lemmas.Bool.Decides.{nat_tests}
use Rattle.audit_lock.specs.declared.resolving.Package.{Package}
use Rattle.audit_lock.specs.Parents.{is_among, dependencies_at, depends_on, parents_before}
use Rattle.audit_lock.specs.Putting.{is_last, with_parent}

or_more : (a b c : Bool) → a || (b || c) ≡ (a || b) || c
or_more true b c = refl
or_more false b c = refl

or_false : (a : Bool) → a || false ≡ a
or_false true = refl
or_false false = refl

pub among_more : (q : ℕ) (xs : List ℕ) (i x : ℕ) → i < length xs → x ≡ get_or xs i x → is_among q (take (suc i) xs) ≡ is_among q (take i xs) || (x == q)
among_more q [] i x low is = absurd (omega (arith, low))
among_more q (y ∷ ys) zero x low is = ap (λ z. (z == q) || false) (sym is) ∙ or_false (x == q)
among_more q (y ∷ ys) (suc i) x low is = ap (λ b. (y == q) || b) (among_more q ys i x (omega (arith, low)) is) ∙ or_more (y == q) (is_among q (take i ys)) (x == q)

same_place : (p : ℕ) → (p == p) ≡ true
same_place p = grind (arith, nat_tests)

last_added : (p : ℕ) (xs : List ℕ) → is_last p (xs ++ p ∷ []) ≡ true
last_added p [] = same_place p
last_added p (x ∷ []) = same_place p
last_added p (x ∷ y ∷ ys) = last_added p (y ∷ ys)

twice_cases : (p : ℕ) (xs : List ℕ) (b : Bool) → is_last p xs ≡ b → with_parent p (cond b xs (xs ++ p ∷ [])) ≡ cond b xs (xs ++ p ∷ [])
twice_cases p xs true h = rw h refl
twice_cases p xs false h = rw (last_added p xs) refl

twice : (p : ℕ) (xs : List ℕ) → with_parent p (with_parent p xs) ≡ with_parent p xs
twice p xs = twice_cases p xs (is_last p xs) refl

pub last_is : (p : ℕ) (xs : List ℕ) (x : ℕ) → slice_get xs (length xs - 1) ≡ Some x → is_last p xs ≡ (x == p)
last_is p [] x h = cc
last_is p (y ∷ []) x h = let same : y ≡ x = cc in rw same refl
last_is p (y ∷ z ∷ zs) x h =
    let one : suc (suc (length zs)) - 1 ≡ suc (length zs) = omega arith in
    let other : suc (length zs) - 1 ≡ length zs = omega arith in
    last_is p (z ∷ zs) x (rw other (rw one at h))

-- one more dependency
pub put_more : (p : ℕ) (xs : List ℕ) (a b : Bool) → cond b (with_parent p (cond a (with_parent p xs) xs)) (cond a (with_parent p xs) xs) ≡ cond (a || b) (with_parent p xs) xs
put_more p xs true true = twice p xs
put_more p xs true false = refl
put_more p xs false true = refl
put_more p xs false false = refl

filter_more : (test : ℕ → Bool) (a n : ℕ) → filter test (range_with_len a (suc n)) ≡ filter test (range_with_len a n) ++ cond (test (a + n)) ((a + n) ∷ []) []
filter_more test a zero = let none : a + 0 ≡ a = omega arith in rw none refl
filter_more test a (suc n) =
    let next : a + 1 + n ≡ a + suc n = omega arith in
    let rest = rw next at (filter_more test (a + 1) n) in
    rw rest (kept (test a) a (filter test (range_with_len (a + 1) n)) (cond (test (a + suc n)) ((a + suc n) ∷ []) []))
  where
    kept : (b : Bool) (x : ℕ) (xs ys : List ℕ) → cond b (x ∷ (xs ++ ys)) (xs ++ ys) ≡ cond b (x ∷ xs) xs ++ ys
    kept true x xs ys = refl
    kept false x xs ys = refl

other_place : (a b : ℕ) → a < b → (a == b) ≡ false
other_place a b low = grind (arith, nat_tests)

not_last-cons : (x a : ℕ) (rest : List ℕ) → (a == x) ≡ false → is_last x rest ≡ false → is_last x (a ∷ rest) ≡ false
not_last-cons x a [] other h = other
not_last-cons x a (b ∷ rest) other h = h

not_last-keep : (b : Bool) (x a : ℕ) (rest : List ℕ) → (a == x) ≡ false → is_last x rest ≡ false → is_last x (cond b (a ∷ rest) rest) ≡ false
not_last-keep true x a rest other h = not_last-cons x a rest other h
not_last-keep false x a rest other h = h

-- a later place is not among the earlier ones
not_last : (test : ℕ → Bool) (a n x : ℕ) → a + n ≤ x → is_last x (filter test (range_with_len a n)) ≡ false
not_last test a zero x low = refl
not_last test a (suc n) x low =
    not_last-keep (test a) x a (filter test (range_with_len (a + 1) n)) (other_place a x (omega (arith, low))) (not_last test (a + 1) n x (omega (arith, low)))

added : (b : Bool) (xs : List ℕ) (x : ℕ) → is_last x xs ≡ false → cond b (with_parent x xs) xs ≡ xs ++ cond b (x ∷ []) []
added true xs x h = rw h refl
added false xs x h = append_nil xs
  where
    append_nil : (xs : List ℕ) → xs ≡ xs ++ []
    append_nil [] = refl
    append_nil (x ∷ xs) = ap (λ ys. x ∷ ys) (append_nil xs)

-- one more package
pub before_more : (packages : List Package) (q i : ℕ) → cond (depends_on packages q i) (with_parent i (parents_before packages i q)) (parents_before packages i q) ≡ parents_before packages (suc i) q
before_more packages q i =
    let zero_first : 0 + i ≡ i = omega arith in
    added (depends_on packages q i) (parents_before packages i q) i (not_last (depends_on packages q) 0 i i (omega arith)) ∙ sym (rw zero_first at (filter_more (depends_on packages q) 0 i))

pub dependencies_here : (packages : List Package) (i : ℕ) (p : Package) → i < length packages → p ≡ get_or packages i p → dependencies_at packages i ≡ p.dependencies
dependencies_here packages i p low is = get_or-map (λ (p : Package). p.dependencies) packages i p [] low ∙ ap (λ (p : Package). p.dependencies) (sym is)

taken_here : {A : Type 0} (xs ys : List A) → take (length xs) (xs ++ ys) ≡ xs
taken_here [] ys = refl
taken_here (x ∷ xs) ys = ap (λ zs. x ∷ zs) (taken_here xs ys)

pub taken_whole : {A : Type 0} (xs ys : List A) (n : ℕ) → length xs ≡ n → take n (xs ++ ys) ≡ xs
taken_whole xs ys n h = rw (← h) (taken_here xs ys)
