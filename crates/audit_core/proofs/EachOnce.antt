-- Each path once, at its first place.
use Rattle.std.proofs.Common.{◌≡◌, ◌<◌, ◌+◌, ℕ, List, [], ◌∷◌, ◌++◌, map, Bool, true, false, cond, ◌||◌, Less, rules, arith, refl, sym, ap, ◌∙◌}
use Rattle.std.specs.Prelude.{⊤, bytes_eq, ◌↔◌, Option, None, Some}
use Rattle.std.specs.Cmp.{IsEquivalence}
use Rattle.std.specs.Cmp.Rules.{comparing}
use Rattle.std.specs.List.{AllByRecursion, Any, Contains, IsDistinct, cons_option, filter_map, list_any}
use Rattle.std.specs.List.Sorted.{IsStrictlySortedBy}
use Rattle.std.specs.Ordering.{nat_cmp}
use Rattle.std.proofs.lemmas.Map.Keys.{IsStrictlyIncreasing-from_sorted}
use Rattle.std.proofs.lemmas.Map.Views.{Contains-from_any, list_any-from_Contains}
use Rattle.std.proofs.lemmas.Slice.Eq.{bytes_eq-Decides}
use Rattle.std.proofs.lemmas.Bool.{false≢true}
use Rattle.std.proofs.lemmas.List.Folds.{Any-from_list_any, list_any-append, list_any-from_Any}
use Rattle.tame_names.specs.FirstPlaces.{AreEachOnce, first_place}
use Rattle.audit_core.specs.Paths.{distinct_after, is_among}

-- ---- paths that are equal

equal : IsEquivalence bytes_eq
equal = search (comparing, rules)

same : (p q : List ℕ) → bytes_eq p q ≡ true → p ≡ q
same p q h = search (rules, bytes_eq-Decides)

or-false : (b : Bool) → (b || false) ≡ b
or-false true = refl
or-false false = refl

left_false : (a b : Bool) → (a || b) ≡ false → a ≡ false
left_false true b h = h
left_false false b h = refl

right_false : (a b : Bool) → (a || b) ≡ false → b ≡ false
right_false true b h = cc
right_false false b h = h

-- among some and one more
among_more : (p q : List ℕ) (seen : List (List ℕ)) → is_among p (seen ++ q ∷ []) ≡ (is_among p seen || bytes_eq q p)
among_more p q seen =
    list_any-append (λ x. bytes_eq x p) seen (q ∷ [])
    ∙ ap (λ b. is_among p seen || b) (or-false (bytes_eq q p))

-- two paths of which one is seen and the other not are not equal
differs : (seen : List (List ℕ)) (q p : List ℕ) → is_among q seen ≡ true → is_among p seen ≡ false → bytes_eq p q ≡ false
differs seen q p here there =
    elim (bytes_eq p q) as (λ b. bytes_eq p q ≡ b → b ≡ false) [
      | true ↦ λ e. let k : is_among p seen ≡ is_among q seen = ap (λ x. is_among x seen) (same p q e) in cc
      | false ↦ λ e. refl
    ] refl

-- ---- none of them is seen

abbrev Unseen : List (List ℕ) → List (List ℕ) → Type 0
Unseen seen ps = AllByRecursion (λ p. is_among p seen ≡ false) ps

all_less : (seen : List (List ℕ)) (q : List ℕ) (ps : List (List ℕ)) → Unseen (seen ++ q ∷ []) ps → Unseen seen ps
all_less seen q [] h = tt
all_less seen q (p ∷ ps) h = (
  left_false (is_among p seen) (bytes_eq q p) (sym (among_more p q seen) ∙ h.0),
  all_less seen q ps h.1,
)

all_other : (seen : List (List ℕ)) (q : List ℕ) (ps : List (List ℕ)) → Unseen (seen ++ q ∷ []) ps → AllByRecursion (λ p. bytes_eq p q ≡ false) ps
all_other seen q [] h = tt
all_other seen q (p ∷ ps) h = (
  equal.symm p q ∙ right_false (is_among p seen) (bytes_eq q p) (sym (among_more p q seen) ∙ h.0),
  all_other seen q ps h.1,
)

all_differ : (seen : List (List ℕ)) (q : List ℕ) → is_among q seen ≡ true → (ps : List (List ℕ)) → Unseen seen ps → AllByRecursion (λ p. bytes_eq p q ≡ false) ps
all_differ seen q here [] h = tt
all_differ seen q here (p ∷ ps) h = (differs seen q p here h.0, all_differ seen q here ps h.1)

unseen : (seen qs : List (List ℕ)) → Unseen seen (distinct_after seen qs)
unseen seen [] = tt
unseen seen (q ∷ qs) =
    elim (is_among q seen) as (λ b. is_among q seen ≡ b → Unseen seen (cond b (distinct_after seen qs) (q ∷ distinct_after (seen ++ q ∷ []) qs))) [
      | true ↦ λ e. unseen seen qs
      | false ↦ λ e. (e, all_less seen q _ (unseen (seen ++ q ∷ []) qs))
    ] refl

-- ---- which they are

-- seen, or one of these
abbrev known : List ℕ → List (List ℕ) → List (List ℕ) → Bool
known p seen qs = is_among p seen || list_any (bytes_eq p) qs

known_next : (p q : List ℕ) (seen qs : List (List ℕ)) → known p (seen ++ q ∷ []) qs ≡ known p seen (q ∷ qs)
known_next p q seen qs =
    ap (λ b. b || list_any (bytes_eq p) qs) (among_more p q seen ∙ ap (λ b. is_among p seen || b) (equal.symm q p))
    ∙ or_next (is_among p seen) (bytes_eq p q) (list_any (bytes_eq p) qs)
  where
    or_next : (a b c : Bool) → ((a || b) || c) ≡ (a || (b || c))
    or_next true b c = refl
    or_next false b c = refl

-- one of them that is seen adds nothing
known_seen : (p q : List ℕ) (seen qs : List (List ℕ)) → is_among q seen ≡ true → known p seen qs ≡ known p seen (q ∷ qs)
known_seen p q seen qs here =
    elim (bytes_eq p q) as (λ b. bytes_eq p q ≡ b → known p seen qs ≡ (is_among p seen || (b || list_any (bytes_eq p) qs))) [
      | true ↦ λ e. let k : is_among p seen ≡ true = ap (λ x. is_among x seen) (same p q e) ∙ here in rw k refl
      | false ↦ λ e. refl
    ] refl

known_all : (p : List ℕ) (seen qs : List (List ℕ)) → known p seen (distinct_after seen qs) ≡ known p seen qs
known_all p seen [] = refl
known_all p seen (q ∷ qs) =
    elim (is_among q seen) as (λ b. is_among q seen ≡ b
    → known p seen (cond b (distinct_after seen qs) (q ∷ distinct_after (seen ++ q ∷ []) qs)) ≡ known p seen (q ∷ qs)) [
      | true ↦ λ e. known_all p seen qs ∙ known_seen p q seen qs e
      | false ↦ λ e. sym (known_next p q seen (distinct_after (seen ++ q ∷ []) qs)) ∙ known_all p (seen ++ q ∷ []) qs ∙ known_next p q seen qs
    ] refl

exact : (qs : List (List ℕ)) (q : List ℕ) → Contains (distinct_after [] qs) q ↔ Contains qs q
exact qs q = (
  (λ c. Contains-from_any same q qs (sym (known_all q [] qs) ∙ list_any-from_Contains equal q (distinct_after [] qs) c)),
  (λ c. Contains-from_any same q (distinct_after [] qs) (known_all q [] qs ∙ list_any-from_Contains equal q qs c)),
)

-- ---- their places

-- each comes before those after it
abbrev Rise : (List ℕ → ℕ) → List (List ℕ) → Type 0
Rise f [] = ⊤
Rise f (y ∷ ys) = AllByRecursion (λ z. f y < f z) ys × Rise f ys

-- one place further, after another path
behind : (q : List ℕ) (qs : List (List ℕ)) (p : List ℕ) → bytes_eq p q ≡ false → first_place (q ∷ qs) p ≡ 1 + first_place qs p
behind q qs p h = rw h refl

front : (q : List ℕ) (qs : List (List ℕ)) → first_place (q ∷ qs) q ≡ 0
front q qs = rw (equal.refl q) refl

less : (a b c d : ℕ) → a ≡ 1 + c → b ≡ 1 + d → c < d → a < b
less a b c d h k l = omega (arith, h, k, l)

above : (a b c : ℕ) → a ≡ 0 → b ≡ 1 + c → a < b
above a b c h k = omega (arith, h, k)

all_behind : (q : List ℕ) (qs : List (List ℕ)) (p : List ℕ) → bytes_eq p q ≡ false → (rs : List (List ℕ))
    → AllByRecursion (λ r. bytes_eq r q ≡ false) rs → AllByRecursion (λ r. first_place qs p < first_place qs r) rs
    → AllByRecursion (λ r. first_place (q ∷ qs) p < first_place (q ∷ qs) r) rs
all_behind q qs p h [] d k = tt
all_behind q qs p h (r ∷ rs) d k = (
  less (first_place (q ∷ qs) p) (first_place (q ∷ qs) r) (first_place qs p) (first_place qs r) (behind q qs p h) (behind q qs r d.0) k.0,
  all_behind q qs p h rs d.1 k.1,
)

rise_behind : (q : List ℕ) (qs rs : List (List ℕ)) → AllByRecursion (λ r. bytes_eq r q ≡ false) rs → Rise (first_place qs) rs → Rise (first_place (q ∷ qs)) rs
rise_behind q qs [] d h = tt
rise_behind q qs (r ∷ rs) d h = (all_behind q qs r d.0 rs d.1 h.0, rise_behind q qs rs d.1 h.1)

all_above : (q : List ℕ) (qs rs : List (List ℕ)) → AllByRecursion (λ r. bytes_eq r q ≡ false) rs
    → AllByRecursion (λ r. first_place (q ∷ qs) q < first_place (q ∷ qs) r) rs
all_above q qs [] d = tt
all_above q qs (r ∷ rs) d = (
  above (first_place (q ∷ qs) q) (first_place (q ∷ qs) r) (first_place qs r) (front q qs) (behind q qs r d.0),
  all_above q qs rs d.1,
)

rise : (seen qs : List (List ℕ)) → Rise (first_place qs) (distinct_after seen qs)
rise seen [] = tt
rise seen (q ∷ qs) =
    elim (is_among q seen) as (λ b. is_among q seen ≡ b → Rise (first_place (q ∷ qs)) (cond b (distinct_after seen qs) (q ∷ distinct_after (seen ++ q ∷ []) qs))) [
      | true ↦ λ e. rise_behind q qs _ (all_differ seen q e _ (unseen seen qs)) (rise seen qs)
      | false ↦ λ e. let others = all_other seen q _ (unseen (seen ++ q ∷ []) qs) in
          (all_above q qs _ others, rise_behind q qs _ others (rise (seen ++ q ∷ []) qs))
    ] refl

-- ---- in terms of lists

less_cmp : (a b : ℕ) → a < b → nat_cmp a b ≡ Less
less_cmp a b h = grind (arith, h)

all_map : (f : List ℕ → ℕ) (a : ℕ) (rs : List (List ℕ)) → AllByRecursion (λ r. a < f r) rs → AllByRecursion (λ b. nat_cmp a b ≡ Less) (map f rs)
all_map f a [] h = tt
all_map f a (r ∷ rs) h = (less_cmp a (f r) h.0, all_map f a rs h.1)

sorted : (f : List ℕ → ℕ) (rs : List (List ℕ)) → Rise f rs → IsStrictlySortedBy nat_cmp (map f rs)
unfolding IsStrictlySortedBy
sorted f [] h = tt
sorted f (r ∷ rs) h = (all_map f (f r) rs h.0, sorted f rs h.1)

apart : (f : List ℕ → ℕ) (p r : List ℕ) → f p < f r → bytes_eq p r ≡ false
apart f p r h =
    elim (bytes_eq p r) as (λ b. bytes_eq p r ≡ b → b ≡ false) [
      | true ↦ λ e. let k : f p ≡ f r = ap f (same p r e) in absurd (omega (arith, h, k))
      | false ↦ λ e. refl
    ] refl

all_apart : (f : List ℕ → ℕ) (p : List ℕ) (rs : List (List ℕ)) → AllByRecursion (λ r. f p < f r) rs → AllByRecursion (λ r. bytes_eq p r ≡ false) rs
all_apart f p [] h = tt
all_apart f p (r ∷ rs) h = (apart f p r h.0, all_apart f p rs h.1)

distinct : (f : List ℕ → ℕ) (rs : List (List ℕ)) → Rise f rs → IsDistinct bytes_eq rs
unfolding IsDistinct
distinct f [] h = tt
distinct f (r ∷ rs) h = (all_apart f r rs h.0, distinct f rs h.1)

pub each_once : (qs : List (List ℕ)) → AreEachOnce (distinct_after [] qs) qs
each_once qs = record {
  distinct = distinct (first_place qs) (distinct_after [] qs) (rise [] qs);
  order = IsStrictlyIncreasing-from_sorted _ (sorted (first_place qs) (distinct_after [] qs) (rise [] qs));
  exact = exact qs;
}

-- ---- where they come from

abbrev pub is_path : List ℕ → Option (List ℕ) → Bool
is_path q None = false
is_path q (Some p) = bytes_eq q p

is_path-is : (q : List ℕ) (o : Option (List ℕ)) → is_path q o ≡ true → o ≡ Some q
is_path-is q None h = absurd (false≢true h)
is_path-is q (Some p) h = ap Some (sym (same q p h))

path-is_path : (q : List ℕ) (o : Option (List ℕ)) → o ≡ Some q → is_path q o ≡ true
path-is_path q o h = rw h (equal.refl q)

any_path : {X : Type 0} (h : X → Option (List ℕ)) (q : List ℕ) (xs : List X) → list_any (bytes_eq q) (filter_map h xs) ≡ list_any (λ x. is_path q (h x)) xs
any_path h q [] = refl
any_path h q (x ∷ xs) =
    elim (h x) as (λ o. list_any (bytes_eq q) (cons_option o (filter_map h xs)) ≡ (is_path q o || list_any (λ x. is_path q (h x)) xs)) [
      | None ↦ any_path h q xs
      | Some p ↦ ap (λ b. bytes_eq q p || b) (any_path h q xs)
    ]

pub from_items : {X : Type 0} (h : X → Option (List ℕ)) (xs : List X) (q : List ℕ) → Contains (filter_map h xs) q ↔ Any (λ x. h x ≡ Some q) xs
from_items h xs q = (
  (λ c. let is = Any-from_list_any (λ x. is_path q (h x)) xs (sym (any_path h q xs) ∙ list_any-from_Contains equal q (filter_map h xs) c) in
      (is.0, is.1, is.2, is.3, is_path-is q (h is.1) is.4)),
  (λ a. Contains-from_any same q (filter_map h xs) (any_path h q xs ∙ list_any-from_Any (λ x. is_path q (h x)) xs (a.0, a.1, a.2, a.3, path-is_path q (h a.1) a.4))),
)
