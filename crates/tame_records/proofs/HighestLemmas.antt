-- The highest versions, from the greatest of their ranks.
use Rattle.std.proofs.Common.{◌≡◌, ℕ, zero, suc, ◌<◌, List, [], ◌∷◌, ◌++◌, map, take, drop, Bool, true, false, cond, length, get_or, Option, Some, None, option_map, Bor, refl, sym, ap, subst, arith}
use Rattle.std.specs.Prelude.{◌==◌, slice_get, option_and_then, is_some, IsSomeAnd, MatchOption, IfOk, IfSome, Result, Ok, Err}
use Rattle.std.specs.List.{AllByRecursion}
use Rattle.std.specs.Option.{option_cmp}
use Rattle.std.specs.Ordering.{is_lt}
use Rattle.std.specs.Cmp.{IsStrictWeakOrder}
use Rattle.std.specs.declared.cmp.Ordering.{Ordering}
use Rattle.itertools.specs.Extremes.{by_cmp, by_cmp_reversed, flipped, position_of, wins}
use Rattle.semver.specs.Parse.{Parts}
use Rattle.tame_records.specs.declared.versions.IndexVersion.{IndexVersion}
use Rattle.tame_records.specs.Highest.{IsHighestNormal, IsLastGreatest, IsNormal, by_normal_precedence, normal_precedence, parts_cmp, precedence}
use Rattle.tame_records.proofs.Greatest.{both, greatest_mapped, last_greatest}

-- ---- if there is a place

pub if_found : {A : Type 0} (cmp : A → A → Ordering) (o : IsStrictWeakOrder (by_cmp cmp)) (xs : List A) → IfSome (position_of (wins true (by_cmp_reversed cmp)) xs) (λ i. (best : A) × IsLastGreatest cmp xs i best)
if_found cmp o xs = go (position_of (wins true (flipped (by_cmp cmp))) xs) (λ i is. last_greatest cmp o xs i is)
  where
    go : {A : Type 0} {P : ℕ → A → Type 0} (p : Option ℕ) → ((i : ℕ) → p ≡ Some i → (best : A) × P i best) → IfSome p (λ i. (best : A) × P i best)
    go None f = tt
    go (Some i) f = f i refl

pub if_mapped : {A B : Type 0} (f : A → B) (C : A → A → Ordering) (D : B → B → Ordering) (same : (x y : A) → C x y ≡ D (f x) (f y)) (xs : List A) (o : Option ℕ)
    → IfSome o (λ i. (best : A) × IsLastGreatest C xs i best) → IfSome o (λ i. (best : B) × IsLastGreatest D (map f xs) i best)
if_mapped f C D same xs None h = tt
if_mapped f C D same xs (Some i) h = (f h.0, greatest_mapped f C D same xs i h.0 h.1)

ranked : (yanked : Bool) (r : Option Parts) → is_some (cond yanked None (option_and_then (λ (p : Parts). cond (length p.3 == 0) (Some p) None) r)) ≡ true → (yanked ≡ false) × ((p : Parts) × (r ≡ Some p) × ((length p.3 == 0) ≡ true))
ranked true r h = cc
ranked false None h = cc
ranked false (Some p) h = (refl, (p, refl, go (length p.3 == 0) h))
  where
    go : (b : Bool) → is_some (cond b (Some p) None) ≡ true → b ≡ true
    go true e = refl
    go false e = cc

-- a version without a normal rank isn't normal
pub not_normal : (v : IndexVersion) → normal_precedence v ≡ None → IsNormal v → ⊥
not_normal v none h = unranked v.yanked (precedence v) none h.not_yanked h.no_pre
  where
    unranked : (yanked : Bool) (r : Option Parts) → cond yanked None (option_and_then (λ (p : Parts). cond (length p.3 == 0) (Some p) None) r) ≡ None → yanked ≡ false → IsSomeAnd r (λ (p : Parts). length p.3 ≡ 0) → ⊥
    unranked true r none kept pre = cc
    unranked false None none kept pre = absurd pre
    unranked false (Some p) none kept pre = cc (rw pre at none)

-- if the greatest of all has no normal rank, none has one
lowest : (r : Option Parts) → is_lt (option_cmp parts_cmp None r) ≡ false → r ≡ None
lowest None h = refl
lowest (Some p) h = cc

below_none : (r : Option Parts) → is_lt (option_cmp parts_cmp r None) ≡ true → ⊥
below_none None h = cc
below_none (Some p) h = cc

unranked_front : (vs : List IndexVersion) → AllByRecursion (λ x. is_lt (option_cmp parts_cmp None (normal_precedence x)) ≡ false) vs → AllByRecursion (λ x. ¬ (IsNormal x)) vs
unranked_front [] h = tt
unranked_front (v ∷ vs) h = (not_normal v (lowest (normal_precedence v) h.0), unranked_front vs h.1)

unranked_behind : (vs : List IndexVersion) → AllByRecursion (λ x. is_lt (option_cmp parts_cmp (normal_precedence x) None) ≡ true) vs → AllByRecursion (λ x. ¬ (IsNormal x)) vs
unranked_behind [] h = tt
unranked_behind (v ∷ vs) h = absurd (below_none (normal_precedence v) h.0)

cut : {A : Type 0} (xs : List A) (i : ℕ) (b : A) → slice_get xs i ≡ Some b → take i xs ++ b ∷ drop (suc i) xs ≡ xs
cut [] i b h = cc
cut (x ∷ xs) zero b h = cc
cut (x ∷ xs) (suc i) b h = ap (λ l. x ∷ l) (cut xs i b h)

pub none_normal : (versions : List IndexVersion) (place : ℕ) (v : IndexVersion) → IsLastGreatest by_normal_precedence versions place v → normal_precedence v ≡ None → AllByRecursion (λ x. ¬ (IsNormal x)) versions
none_normal versions place v h none =
    let front = unranked_front (take place versions) (rw none at h.none_greater) in
    let behind = unranked_behind (drop (suc place) versions) (rw none at h.all_less) in
    subst (AllByRecursion (λ x. ¬ (IsNormal x))) (cut versions place v h.at) (both (λ x. ¬ (IsNormal x)) (take place versions) (v ∷ drop (suc place) versions) front (not_normal v none, behind))

-- what was found about the version at the place
pub highest_normal : {E : Type 0} (r : Result (Option (Bor IndexVersion)) E) (versions : List IndexVersion) (place : ℕ) (v : IndexVersion) → IsLastGreatest by_normal_precedence versions place v
    → IfOk r (λ found. MatchOption found (normal_precedence v ≡ None) (λ x. (x.now ≡ v) × IsNormal v)) → IfOk r (λ found. IsHighestNormal versions (option_map (λ (x : Bor IndexVersion). x.now) found))
highest_normal (Ok None) versions place v h none = none_normal versions place v h none
highest_normal (Ok (Some x)) versions place v h is = subst (λ w. IsNormal w × ((i : ℕ) × IsLastGreatest by_normal_precedence versions i w)) (sym is.0) (is.1, (place, h))
highest_normal (Err e) versions place v h is = tt

pub read_at : {A : Type 0} (xs ys : List A) (i : ℕ) (x : A) → ys ≡ xs → i < length ys → x ≡ get_or ys i x → slice_get xs i ≡ Some x
read_at xs ys i x same low is = subst (λ zs. slice_get zs i ≡ Some x) same (go ys i low is)
  where
    go : {A : Type 0} {x : A} (ys : List A) (i : ℕ) → i < length ys → x ≡ get_or ys i x → slice_get ys i ≡ Some x
    go [] i low is = absurd (omega (arith, low))
    go (y ∷ ys) zero low is = ap Some (sym is)
    go (y ∷ ys) (suc i) low is = go ys i (omega (arith, low)) is

pub same_length : {A B C : Type 0} (f : A → C) (g : B → C) (xs : List A) (ys : List B) → map f xs ≡ map g ys → length xs ≡ length ys
same_length f g [] [] h = refl
same_length f g [] (y ∷ ys) h = cc
same_length f g (x ∷ xs) [] h = cc
same_length f g (x ∷ xs) (y ∷ ys) h = ap suc (same_length f g xs ys (cons_rest h))
  where
    rest : {C : Type 0} → List C → List C
    rest [] = []
    rest (z ∷ zs) = zs

    cons_rest : {C : Type 0} {a b : C} {xs ys : List C} → a ∷ xs ≡ b ∷ ys → xs ≡ ys
    cons_rest h = ap rest h
