-- The search for the last greatest: none before its place is greater, and each after it is less.
use Rattle.std.proofs.Common.{◌≡◌, ℕ, zero, suc, ◌+◌, List, [], ◌∷◌, ◌++◌, map, take, drop, Bool, true, false, not, cond, length, ◌<◌, Option, Some, None, option_map, refl, sym, ap, subst, ◌∙◌, arith, append_assoc, append-nil, length-append}
use Rattle.std.specs.Prelude.{fold, slice_get, MatchOption}
use Rattle.std.specs.Cmp.{IsStrictWeakOrder}
use Rattle.std.specs.List.{AllByRecursion}
use Rattle.std.specs.Option.{option_cmp}
use Rattle.std.specs.Ordering.{is_lt}
use Rattle.std.specs.declared.cmp.Ordering.{Ordering}
use Rattle.std.proofs.lemmas.List.{take-map, drop-map}
use Rattle.itertools.specs.Extremes.{PositionFacts, by_cmp, flipped, place_step, position_of, wins}
use Rattle.itertools.proofs.ExtremeLemmas.{not-before}
use Rattle.tame_records.specs.Highest.{IsLastGreatest}

-- ---- facts of all items

weaker : {A : Type 0} (P Q : A → Type 0) → ((x : A) → P x → Q x) → (xs : List A) → AllByRecursion P xs → AllByRecursion Q xs
weaker P Q f [] h = tt
weaker P Q f (x ∷ xs) h = (f x h.0, weaker P Q f xs h.1)

pub both : {A : Type 0} (P : A → Type 0) (xs ys : List A) → AllByRecursion P xs → AllByRecursion P ys → AllByRecursion P (xs ++ ys)
both P [] ys h k = k
both P (x ∷ xs) ys h k = (h.0, both P xs ys h.1 k)

to_mapped : {A B : Type 0} (f : A → B) (P : B → Type 0) (xs : List A) → AllByRecursion (λ x. P (f x)) xs → AllByRecursion P (map f xs)
to_mapped f P [] h = tt
to_mapped f P (x ∷ xs) h = (h.0, to_mapped f P xs h.1)

from_mapped : {A B : Type 0} (f : A → B) (P : B → Type 0) (xs : List A) → AllByRecursion P (map f xs) → AllByRecursion (λ x. P (f x)) xs
from_mapped f P [] h = tt
from_mapped f P (x ∷ xs) h = (h.0, from_mapped f P xs h.1)

-- ---- the search, cut at its place

module _ {A : Type 0} (lt : A → A → Bool) (o : IsStrictWeakOrder lt) where
  abbrev Cut : List A → ℕ → Type 0
  Cut xs place =
      (front : List A) × (best : A) × (behind : List A) × (xs ≡ front ++ best ∷ behind) × (place ≡ length front)
      × AllByRecursion (λ x. lt best x ≡ false) front × AllByRecursion (λ x. lt x best ≡ true) behind

  abbrev search_place : ℕ → A → ℕ → List A → ℕ
  search_place p b n ys = (fold (place_step (wins true (flipped lt))) (p, b, n) ys).0

  chosen : (whole ys : List A) (t : Bool) (p n : ℕ) (b y : A) → (t ≡ false → Cut whole (search_place n y (n + 1) ys)) → (t ≡ true → Cut whole (search_place p b (n + 1) ys))
      → Cut whole (fold (place_step (wins true (flipped lt))) (cond (not t) (n, y, n + 1) (p, b, n + 1)) ys).0
  chosen whole ys true p n b y new stays = stays refl
  chosen whole ys false p n b y new stays = new refl

  search_from : (front mid ys : List A) (b : A) (p n : ℕ) → p ≡ length front → n ≡ length front + 1 + length mid
      → AllByRecursion (λ x. lt b x ≡ false) front → AllByRecursion (λ x. lt x b ≡ true) mid → Cut (front ++ b ∷ (mid ++ ys)) (search_place p b n ys)
  search_from front mid [] b p n here next f m = (front, b, mid ++ [], refl, here, f, rw (append-nil mid) m)
  search_from front mid (y ∷ ys) b p n here next f m =
      chosen (front ++ b ∷ (mid ++ y ∷ ys)) ys (lt y b) p n b y
      (λ above.
      let older : AllByRecursion (λ x. lt y x ≡ false) front = weaker _ _ (λ x k. o.chain y b x above k) front f in
      let middle : AllByRecursion (λ x. lt y x ≡ false) mid = weaker _ _ (λ x k. not-before lt o y x b k above) mid m in
      subst (λ l. Cut l (search_place n y (n + 1) ys)) (append_assoc front (b ∷ mid) (y ∷ ys))
      (search_from (front ++ b ∷ mid) [] ys y n (n + 1) (omega (arith, next, length-append front (b ∷ mid))) (omega (arith, next, length-append front (b ∷ mid)))
      (both (λ x. lt y x ≡ false) front (b ∷ mid) older (above, middle)) tt))
      (λ below.
      subst (λ l. Cut (front ++ b ∷ l) (search_place p b (n + 1) ys)) (append_assoc mid (y ∷ []) ys)
      (search_from front (mid ++ y ∷ []) ys b p (n + 1) here (omega (arith, next, length-append mid (y ∷ [])))
      f (both (λ x. lt x b ≡ true) mid (y ∷ []) m (below, tt))))

  some_is : (i j : ℕ) → Some i ≡ Some j → i ≡ j
  some_is i j h = cc

  pub greatest_cut : (xs : List A) (i : ℕ) → position_of (wins true (flipped lt)) xs ≡ Some i → Cut xs i
  greatest_cut [] i is = cc
  greatest_cut (x ∷ xs) i is = subst (Cut (x ∷ xs)) (some_is _ i is) (search_from [] [] xs x 0 1 refl refl tt tt)

-- ---- the same by its place

cut_at : {A : Type 0} (front behind : List A) (best : A) → slice_get (front ++ best ∷ behind) (length front) ≡ Some best
cut_at [] behind best = refl
cut_at (x ∷ front) behind best = cut_at front behind best

front_of : {A : Type 0} (front behind : List A) (best : A) → take (length front) (front ++ best ∷ behind) ≡ front
front_of [] behind best = refl
front_of (x ∷ front) behind best = ap (λ l. x ∷ l) (front_of front behind best)

behind_of : {A : Type 0} (front behind : List A) (best : A) → drop (suc (length front)) (front ++ best ∷ behind) ≡ behind
behind_of [] behind best = refl
behind_of (x ∷ front) behind best = behind_of front behind best

cut_greatest : {A : Type 0} (cmp : A → A → Ordering) (front behind : List A) (best : A) → AllByRecursion (λ x. is_lt (cmp best x) ≡ false) front → AllByRecursion (λ x. is_lt (cmp x best) ≡ true) behind
    → IsLastGreatest cmp (front ++ best ∷ behind) (length front) best
cut_greatest cmp front behind best f b = record {
  at = cut_at front behind best;
  none_greater = rw (front_of front behind best) f;
  all_less = rw (behind_of front behind best) b;
}

moved : {A : Type 0} (cmp : A → A → Ordering) (xs ys : List A) (i j : ℕ) (best : A) → xs ≡ ys → i ≡ j → IsLastGreatest cmp ys j best → IsLastGreatest cmp xs i best
moved cmp xs ys i j best same place h = rw (same, place) h

pub last_greatest : {A : Type 0} (cmp : A → A → Ordering) (o : IsStrictWeakOrder (by_cmp cmp)) (xs : List A) (i : ℕ) → position_of (wins true (flipped (by_cmp cmp))) xs ≡ Some i → (best : A) × IsLastGreatest cmp xs i best
last_greatest cmp o xs i is =
    let found = greatest_cut (by_cmp cmp) o xs i is in
    (found.1, moved cmp xs _ i _ found.1 found.3 found.4 (cut_greatest cmp found.0 found.2 found.1 found.5 found.6))

-- ---- the same for what the items are mapped to

got_mapped : {A B : Type 0} (f : A → B) (xs : List A) (i : ℕ) (b : A) → slice_get xs i ≡ Some b → slice_get (map f xs) i ≡ Some (f b)
got_mapped f [] i b h = cc
got_mapped f (x ∷ xs) zero b h = cc
got_mapped f (x ∷ xs) (suc i) b h = got_mapped f xs i b h

got_back : {A B : Type 0} (f : A → B) (xs : List A) (i : ℕ) (c : B) (b : A) → slice_get (map f xs) i ≡ Some c → slice_get xs i ≡ Some b → c ≡ f b
got_back f [] i c b h k = cc
got_back f (x ∷ xs) zero c b h k = cc
got_back f (x ∷ xs) (suc i) c b h k = got_back f xs i c b h k

module _ {A B : Type 0} (f : A → B) (C : A → A → Ordering) (D : B → B → Ordering) (same : (x y : A) → C x y ≡ D (f x) (f y)) where
  -- onto the mapped list
  pub greatest_mapped : (xs : List A) (i : ℕ) (best : A) → IsLastGreatest C xs i best → IsLastGreatest D (map f xs) i (f best)
  greatest_mapped xs i best h = record {
    at = got_mapped f xs i best h.at;
    none_greater = rw (take-map f i xs) (to_mapped f (λ z. is_lt (D (f best) z) ≡ false) (take i xs) (weaker _ _ (λ x k. ap is_lt (sym (same best x)) ∙ k) (take i xs) h.none_greater));
    all_less = rw (drop-map f (suc i) xs) (to_mapped f (λ z. is_lt (D z (f best)) ≡ true) (drop (suc i) xs) (weaker _ _ (λ x k. ap is_lt (sym (same x best)) ∙ k) (drop (suc i) xs) h.all_less));
  }

  -- and back from it
  pub greatest_unmapped : (xs : List A) (i : ℕ) (best : A) (c : B) → slice_get xs i ≡ Some best → IsLastGreatest D (map f xs) i c → IsLastGreatest C xs i best
  greatest_unmapped xs i best c at h =
      let is : c ≡ f best = got_back f xs i c best h.at at in
      record {
        at = at;
        none_greater = weaker _ _ (λ x k. ap is_lt (same best x) ∙ k) (take i xs) (from_mapped f (λ z. is_lt (D (f best) z) ≡ false) (take i xs) (rw (take-map f i xs, is) at h.none_greater));
        all_less = weaker _ _ (λ x k. ap is_lt (same x best) ∙ k) (drop (suc i) xs) (from_mapped f (λ z. is_lt (D z (f best)) ≡ true) (drop (suc i) xs) (rw (drop-map f (suc i) xs, is) at h.all_less));
      }

-- ---- optional items

pub options : {A B : Type 0} (f : A → B) (C : A → A → Ordering) (D : B → B → Ordering) → ((x y : A) → C x y ≡ D (f x) (f y)) → (x y : Option A) → option_cmp C x y ≡ option_cmp D (option_map f x) (option_map f y)
options f C D same None None = refl
options f C D same None (Some y) = refl
options f C D same (Some x) None = refl
options f C D same (Some x) (Some y) = same x y

-- if there is a place, the list reaches it
pub placed : {A : Type 0} (R : A → A → Type 0) (xs : List A) (o : Option ℕ) → PositionFacts R xs o → MatchOption o (xs ≡ []) (λ i. i < length xs)
placed R xs None h = h
placed R xs (Some i) h = h.0
