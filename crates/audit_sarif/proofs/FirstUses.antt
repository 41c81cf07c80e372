-- The first use of each id.
use Rattle.std.proofs.Common.{◌≡◌, ◌<◌, ◌+◌, ℕ, List, [], ◌∷◌, map, Bool, true, false, cond, not, ◌||◌, ◌++◌, append-nil, append_assoc, Less, rules, arith, refl, sym, ap, ◌∙◌}
use Rattle.std.specs.Prelude.{⊤, bytes_eq, ◌↔◌}
use Rattle.std.specs.Cmp.{IsEquivalence}
use Rattle.std.specs.Cmp.Rules.{comparing}
use Rattle.std.specs.List.{AllByRecursion, Contains, IsDistinct, filter, list_any}
use Rattle.std.specs.List.Sorted.{IsStrictlySortedBy}
use Rattle.std.specs.Ordering.{nat_cmp}
use Rattle.std.proofs.lemmas.Map.Keys.{IsStrictlyIncreasing-from_sorted}
use Rattle.std.proofs.lemmas.Map.Views.{Contains-from_any, list_any-from_Contains}
use Rattle.std.proofs.lemmas.Slice.Eq.{bytes_eq-Decides}
use Rattle.std.proofs.lemmas.List.Elements.{filter-append}
use Rattle.audit_sarif.specs.Firsts.{first_of_each, is_text_of, with_all_new, with_new}
use Rattle.tame_names.specs.FirstPlaces.{AreEachOnce, first_place}

-- ---- equal strings

equal : IsEquivalence bytes_eq
equal = search (comparing, rules)

same : (xs ys : List ℕ) → bytes_eq xs ys ≡ true → xs ≡ ys
same xs ys h = search (rules, bytes_eq-Decides)

-- ---- all but one

abbrev others : List ℕ → List (List ℕ) → List (List ℕ)
others t ts = filter (λ s. not (bytes_eq s t)) ts

-- a string that differs from t differs from what is equal to t
differs : (q y t : List ℕ) → bytes_eq q t ≡ false → bytes_eq y t ≡ true → bytes_eq q y ≡ false
differs q y t h e = equal.symm q y ∙ equal.congr y t q e ∙ equal.symm t q ∙ h

any_others : (q t : List ℕ) → bytes_eq q t ≡ false → (ts : List (List ℕ))
    → list_any (bytes_eq q) (others t ts) ≡ list_any (bytes_eq q) ts
any_others q t h [] = refl
any_others q t h (y ∷ ys) =
    elim (bytes_eq y t) as (λ b. bytes_eq y t ≡ b
    → list_any (bytes_eq q) (cond (not b) (y ∷ others t ys) (others t ys)) ≡ (bytes_eq q y || list_any (bytes_eq q) ys)) [
      | true ↦ λ e. any_others q t h ys ∙ ap (λ b. b || list_any (bytes_eq q) ys) (sym (differs q y t h e))
      | false ↦ λ e. ap (λ b. bytes_eq q y || b) (any_others q t h ys)
    ] refl

all_others : (P : List ℕ → Type 0) (t : List ℕ) (ts : List (List ℕ))
    → AllByRecursion P ts → AllByRecursion P (others t ts)
all_others P t [] h = tt
all_others P t (y ∷ ys) h =
    elim (bytes_eq y t) as (λ b. AllByRecursion P (cond (not b) (y ∷ others t ys) (others t ys))) [
      | true ↦ all_others P t ys h.1
      | false ↦ (h.0, all_others P t ys h.1)
    ]

others_differ : (t : List ℕ) (ts : List (List ℕ)) → AllByRecursion (λ y. bytes_eq y t ≡ false) (others t ts)
others_differ t [] = tt
others_differ t (y ∷ ys) =
    elim (bytes_eq y t) as (λ b. bytes_eq y t ≡ b
    → AllByRecursion (λ y. bytes_eq y t ≡ false) (cond (not b) (y ∷ others t ys) (others t ys))) [
      | true ↦ λ e. others_differ t ys
      | false ↦ λ e. (e, others_differ t ys)
    ] refl

-- ---- which they are

abbrev firsts : List (List ℕ) → List (List ℕ)
firsts ts = first_of_each (λ t. t) ts

any_firsts : (q : List ℕ) (ts : List (List ℕ)) → list_any (bytes_eq q) (firsts ts) ≡ list_any (bytes_eq q) ts
any_firsts q [] = refl
any_firsts q (t ∷ ts) =
    elim (bytes_eq q t) as (λ b. bytes_eq q t ≡ b
    → (b || list_any (bytes_eq q) (others t (firsts ts))) ≡ (b || list_any (bytes_eq q) ts)) [
      | true ↦ λ e. refl
      | false ↦ λ e. any_others q t e (firsts ts) ∙ any_firsts q ts
    ] refl

exact : (ts : List (List ℕ)) (id : List ℕ) → Contains (firsts ts) id ↔ Contains ts id
exact ts id = (
  (λ c. Contains-from_any same id ts (sym (any_firsts id ts) ∙ list_any-from_Contains equal id (firsts ts) c)),
  (λ c. Contains-from_any same id (firsts ts) (any_firsts id ts ∙ list_any-from_Contains equal id ts c)),
)

-- ---- where they are

-- each has a lower number than those after it
abbrev Rise : (List ℕ → ℕ) → List (List ℕ) → Type 0
Rise f [] = ⊤
Rise f (y ∷ ys) = AllByRecursion (λ z. f y < f z) ys × Rise f ys

rise_others : (f : List ℕ → ℕ) (t : List ℕ) (ts : List (List ℕ)) → Rise f ts → Rise f (others t ts)
rise_others f t [] h = tt
rise_others f t (y ∷ ys) h =
    elim (bytes_eq y t) as (λ b. Rise f (cond (not b) (y ∷ others t ys) (others t ys))) [
      | true ↦ rise_others f t ys h.1
      | false ↦ (all_others (λ z. f y < f z) t ys h.0, rise_others f t ys h.1)
    ]

-- after another string, one place further
behind : (t : List ℕ) (ts : List (List ℕ)) (y : List ℕ) → bytes_eq y t ≡ false
    → first_place (t ∷ ts) y ≡ 1 + first_place ts y
behind t ts y h = rw h refl

front : (t : List ℕ) (ts : List (List ℕ)) → first_place (t ∷ ts) t ≡ 0
front t ts = rw (equal.refl t) refl

less : (a b c d : ℕ) → a ≡ 1 + c → b ≡ 1 + d → c < d → a < b
less a b c d h k l = omega (arith, h, k, l)

above : (a b c : ℕ) → a ≡ 0 → b ≡ 1 + c → a < b
above a b c h k = omega (arith, h, k)

all_behind : (t : List ℕ) (ts : List (List ℕ)) (y : List ℕ) → bytes_eq y t ≡ false → (zs : List (List ℕ))
    → AllByRecursion (λ z. bytes_eq z t ≡ false) zs → AllByRecursion (λ z. first_place ts y < first_place ts z) zs
    → AllByRecursion (λ z. first_place (t ∷ ts) y < first_place (t ∷ ts) z) zs
all_behind t ts y h [] d k = tt
all_behind t ts y h (z ∷ zs) d k = (
  less (first_place (t ∷ ts) y) (first_place (t ∷ ts) z) (first_place ts y) (first_place ts z)
      (behind t ts y h) (behind t ts z d.0) k.0,
  all_behind t ts y h zs d.1 k.1,
)

rise_behind : (t : List ℕ) (ts zs : List (List ℕ)) → AllByRecursion (λ z. bytes_eq z t ≡ false) zs
    → Rise (first_place ts) zs → Rise (first_place (t ∷ ts)) zs
rise_behind t ts [] d h = tt
rise_behind t ts (z ∷ zs) d h = (all_behind t ts z d.0 zs d.1 h.0, rise_behind t ts zs d.1 h.1)

all_above : (t : List ℕ) (ts zs : List (List ℕ)) → AllByRecursion (λ z. bytes_eq z t ≡ false) zs
    → AllByRecursion (λ z. first_place (t ∷ ts) t < first_place (t ∷ ts) z) zs
all_above t ts [] d = tt
all_above t ts (z ∷ zs) d = (
  above (first_place (t ∷ ts) t) (first_place (t ∷ ts) z) (first_place ts z) (front t ts) (behind t ts z d.0),
  all_above t ts zs d.1,
)

firsts_rise : (ts : List (List ℕ)) → Rise (first_place ts) (firsts ts)
firsts_rise [] = tt
firsts_rise (t ∷ ts) = (
  all_above t ts (others t (firsts ts)) (others_differ t (firsts ts)),
  rise_behind t ts (others t (firsts ts)) (others_differ t (firsts ts))
      (rise_others (first_place ts) t (firsts ts) (firsts_rise ts)),
)

-- ---- in terms of lists

less_cmp : (a b : ℕ) → a < b → nat_cmp a b ≡ Less
less_cmp a b h = grind (arith, h)

all_map : (f : List ℕ → ℕ) (a : ℕ) (zs : List (List ℕ)) → AllByRecursion (λ z. a < f z) zs
    → AllByRecursion (λ b. nat_cmp a b ≡ Less) (map f zs)
all_map f a [] h = tt
all_map f a (z ∷ zs) h = (less_cmp a (f z) h.0, all_map f a zs h.1)

sorted : (f : List ℕ → ℕ) (zs : List (List ℕ)) → Rise f zs → IsStrictlySortedBy nat_cmp (map f zs)
unfolding IsStrictlySortedBy
sorted f [] h = tt
sorted f (z ∷ zs) h = (all_map f (f z) zs h.0, sorted f zs h.1)

apart : (f : List ℕ → ℕ) (y z : List ℕ) → f y < f z → bytes_eq y z ≡ false
apart f y z h =
    elim (bytes_eq y z) as (λ b. bytes_eq y z ≡ b → b ≡ false) [
      | true ↦ λ e. let k : f y ≡ f z = ap f (same y z e) in absurd (omega (arith, h, k))
      | false ↦ λ e. refl
    ] refl

all_apart : (f : List ℕ → ℕ) (y : List ℕ) (zs : List (List ℕ)) → AllByRecursion (λ z. f y < f z) zs
    → AllByRecursion (λ z. bytes_eq y z ≡ false) zs
all_apart f y [] h = tt
all_apart f y (z ∷ zs) h = (apart f y z h.0, all_apart f y zs h.1)

distinct : (f : List ℕ → ℕ) (zs : List (List ℕ)) → Rise f zs → IsDistinct bytes_eq zs
unfolding IsDistinct
distinct f [] h = tt
distinct f (z ∷ zs) h = (all_apart f z zs h.0, distinct f zs h.1)

pub first_uses : (ts : List (List ℕ)) → AreEachOnce (firsts ts) ts
first_uses ts = record {
  distinct = distinct (first_place ts) (firsts ts) (firsts_rise ts);
  order = IsStrictlyIncreasing-from_sorted _ (sorted (first_place ts) (firsts ts) (firsts_rise ts));
  exact = exact ts;
}

-- ---- items by their strings

map_others : {X : Type 0} (text : X → List ℕ) (t : List ℕ) (xs : List X)
    → map text (filter (λ x. not (bytes_eq (text x) t)) xs) ≡ others t (map text xs)
map_others text t [] = refl
map_others text t (x ∷ xs) =
    elim (bytes_eq (text x) t) as (λ b. map text (cond (not b) (x ∷ filter (λ x. not (bytes_eq (text x) t)) xs) (filter (λ x. not (bytes_eq (text x) t)) xs))
    ≡ cond (not b) (text x ∷ others t (map text xs)) (others t (map text xs))) [
      | true ↦ map_others text t xs
      | false ↦ ap (λ ts. text x ∷ ts) (map_others text t xs)
    ]

-- the strings of the first items are the first strings
pub map_firsts : {X : Type 0} (text : X → List ℕ) (xs : List X) → map text (first_of_each text xs) ≡ firsts (map text xs)
map_firsts text [] = refl
map_firsts text (x ∷ xs) =
    ap (λ ts. text x ∷ ts)
    (map_others text (text x) (first_of_each text xs) ∙ ap (others (text x)) (map_firsts text xs))

any_map : {X : Type 0} (text : X → List ℕ) (t : List ℕ) (xs : List X)
    → is_text_of text t xs ≡ list_any (bytes_eq t) (map text xs)
any_map text t [] = refl
any_map text t (x ∷ xs) = ap (λ b. bytes_eq t (text x) || b) (any_map text t xs)

is_text_of-first : {X : Type 0} (text : X → List ℕ) (t : List ℕ) (xs : List X)
    → is_text_of text t (first_of_each text xs) ≡ is_text_of text t xs
is_text_of-first text t xs =
    any_map text t (first_of_each text xs)
    ∙ ap (list_any (bytes_eq t)) (map_firsts text xs)
    ∙ any_firsts t (map text xs)
    ∙ sym (any_map text t xs)

-- ---- one more item

-- an item, unless it is there
abbrev unless : {X : Type 0} → Bool → X → List X
unless there x = cond there [] (x ∷ [])

unless_other : {X : Type 0} (text : X → List ℕ) (d x : X) (there : Bool)
    → filter (λ y. not (bytes_eq (text y) (text d))) (unless there x) ≡ unless (bytes_eq (text x) (text d) || there) x
unless_other text d x true =
    elim (bytes_eq (text x) (text d)) as (λ b. [] ≡ unless (b || true) x) [ true ↦ refl | false ↦ refl ]
unless_other text d x false =
    elim (bytes_eq (text x) (text d)) as (λ b. cond (not b) (x ∷ []) [] ≡ unless (b || false) x) [ true ↦ refl | false ↦ refl ]

first_behind : {X : Type 0} (text : X → List ℕ) (xs : List X) (x : X)
    → first_of_each text (xs ++ x ∷ []) ≡ first_of_each text xs ++ unless (is_text_of text (text x) xs) x
first_behind text [] x = refl
first_behind text (d ∷ ds) x =
    ap (λ ys. d ∷ filter (λ y. not (bytes_eq (text y) (text d))) ys) (first_behind text ds x)
    ∙ ap (λ ys. d ∷ ys) (filter-append (λ y. not (bytes_eq (text y) (text d))) (first_of_each text ds) (unless (is_text_of text (text x) ds) x))
    ∙ ap (λ ys. d ∷ (filter (λ y. not (bytes_eq (text y) (text d))) (first_of_each text ds) ++ ys)) (unless_other text d x (is_text_of text (text x) ds))

with_unless : {X : Type 0} (there : Bool) (xs : List X) (x : X) → cond there xs (xs ++ x ∷ []) ≡ xs ++ unless there x
with_unless true xs x = sym (append-nil xs)
with_unless false xs x = refl

with_new-first : {X : Type 0} (text : X → List ℕ) (xs : List X) (x : X)
    → with_new text (first_of_each text xs) x ≡ first_of_each text (xs ++ x ∷ [])
with_new-first text xs x =
    ap (λ b. cond b (first_of_each text xs) (first_of_each text xs ++ x ∷ [])) (is_text_of-first text (text x) xs)
    ∙ with_unless (is_text_of text (text x) xs) (first_of_each text xs) x
    ∙ sym (first_behind text xs x)

with_all_new-first : {X : Type 0} (text : X → List ℕ) (ds xs : List X)
    → with_all_new text (first_of_each text ds) xs ≡ first_of_each text (ds ++ xs)
with_all_new-first text ds [] = ap (first_of_each text) (sym (append-nil ds))
with_all_new-first text ds (x ∷ xs) =
    ap (λ ys. with_all_new text ys xs) (with_new-first text ds x)
    ∙ with_all_new-first text (ds ++ x ∷ []) xs
    ∙ ap (first_of_each text) (append_assoc ds (x ∷ []) xs)

pub with_all_new-firsts : {X : Type 0} (text : X → List ℕ) (xs : List X)
    → with_all_new text [] xs ≡ first_of_each text xs
with_all_new-firsts text xs = with_all_new-first text [] xs

pub with_all_new-append : {X : Type 0} (text : X → List ℕ) (ds xs ys : List X)
    → with_all_new text ds (xs ++ ys) ≡ with_all_new text (with_all_new text ds xs) ys
with_all_new-append text ds [] ys = refl
with_all_new-append text ds (x ∷ xs) ys = with_all_new-append text (with_new text ds x) xs ys
