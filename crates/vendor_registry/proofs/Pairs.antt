-- The packages that are looked at are each of the default registry, once.
use Rattle.std.proofs.Common.{◌≡◌, ◌≤◌, ◌<◌, ℕ, ◌+◌, ◌==◌, List, [], ◌∷◌, ◌++◌, length, bytes_eq, Bool, true, false, cond, Option, Some, None, refl, sym, ap, ◌∙◌, arith, append_assoc, length-append}
use Rattle.std.specs.Prelude.{◌&&◌, ◌||◌, filter}
use Rattle.std.specs.List.{AllByRecursion, enumerate_from, position_from, slice_get}
use Rattle.std.proofs.lemmas.Bool.{false_from_ne_true}
use Rattle.std.proofs.lemmas.Bool.Decides.{nat_tests}
use Rattle.std.proofs.lemmas.Slice.Eq.{bytes_eq-Decides}
use Rattle.audit_core.specs.Paths.{is_default}
use Rattle.audit_lock.specs.declared.resolving.Package.{Package}
use Rattle.vendor_registry.specs.Looked.{AreEachPair, AreInOrder, AreUnlike, first_place, has_alike, is_alike, is_looked, is_place, looked, stands_for}

-- those that are looked at among the packages from a place on
abbrev from : List Package → ℕ → List Package → List (ℕ × Package)
from all i ps = filter (is_looked all) (enumerate_from i ps)

-- ---- tests

both : (a b : Bool) → (a && b) ≡ true → (a ≡ true) × (b ≡ true)
both true true h = (refl, refl)
both true false h = cc
both false b h = cc

three : (a b c : Bool) → (a && b && c) ≡ true → (a ≡ true) × ((b && c) ≡ true)
three true true true h = (refl, refl)
three true true false h = cc
three true false c h = cc
three false b c h = cc

all_three : (a b c : Bool) → a ≡ true → (b && c) ≡ true → (a && b && c) ≡ true
all_three true true true h k = refl
all_three true true false h k = cc
all_three true false c h k = cc
all_three false b c h k = cc

one_or : (a b : Bool) → b ≡ true → (a || b) ≡ true
one_or true b h = refl
one_or false b h = h

none_or : (a b : Bool) → a ≡ false → b ≡ false → (a || b) ≡ false
none_or true b h k = cc
none_or false b h k = k

-- ---- packages that are alike

alike : (p o : Package) → is_alike p o ≡ true → (o.name ≡ p.name) × (o.version ≡ p.version)
alike p o h =
    let parts = both (bytes_eq o.name p.name) (bytes_eq o.version p.version) h in
    ((bytes_eq-Decides o.name p.name).0 parts.0, (bytes_eq-Decides o.version p.version).0 parts.1)

self_alike : (p : Package) → is_alike p p ≡ true
self_alike p = rw ((bytes_eq-Decides p.name p.name).1 refl, (bytes_eq-Decides p.version p.version).1 refl) refl

stands_same : (p o x : Package) → is_alike p o ≡ true → stands_for p x ≡ stands_for o x
stands_same p o x h =
    let same = alike p o h in
    ap (λ (n : List ℕ). is_default x && bytes_eq x.name n && bytes_eq x.version p.version) (sym same.0)
    ∙ ap (λ (v : List ℕ). is_default x && bytes_eq x.name o.name && bytes_eq x.version v) (sym same.1)

place_same : (p o : Package) (n : ℕ) (ps : List Package) → is_alike p o ≡ true → position_from (stands_for p) n ps ≡ position_from (stands_for o) n ps
place_same p o n [] h = refl
place_same p o n (x ∷ xs) h =
    ap (λ (b : Bool). cond b (Some n) (position_from (stands_for p) (n + 1) xs)) (stands_same p o x h)
    ∙ ap (cond (stands_for o x) (Some n)) (place_same p o (n + 1) xs h)

stands : (p o : Package) → stands_for p o ≡ true → (is_default o ≡ true) × (is_alike p o ≡ true)
stands p o h = three (is_default o) (bytes_eq o.name p.name) (bytes_eq o.version p.version) h

pub self_stands : (p : Package) → is_default p ≡ true → stands_for p p ≡ true
self_stands p h = all_three (is_default p) (bytes_eq p.name p.name) (bytes_eq p.version p.version) h (self_alike p)

placed : (i : ℕ) (o : Option ℕ) → is_place i o ≡ true → o ≡ Some i
placed i None h = cc
placed i (Some k) h = let same : k ≡ i = grind (arith, nat_tests) in ap Some same

place_is : (i : ℕ) (o : Option ℕ) → o ≡ Some i → is_place i o ≡ true
place_is i o h = let same : (i == i) ≡ true = grind (arith, nat_tests) in ap (is_place i) h ∙ same

-- ---- of the default registry

default_case : (t : Bool) (p : ℕ × Package) (ps : List (ℕ × Package)) → (t ≡ true → is_default p.1 ≡ true) → AllByRecursion (λ q. is_default q.1 ≡ true) ps
    → AllByRecursion (λ (q : ℕ × Package). is_default q.1 ≡ true) (cond t (p ∷ ps) ps)
default_case true p ps is all = (is refl, all)
default_case false p ps is all = all

defaults_of : (all : List Package) (i : ℕ) (ps : List Package) → AllByRecursion (λ (q : ℕ × Package). is_default q.1 ≡ true) (from all i ps)
defaults_of all i [] = tt
defaults_of all i (p ∷ ps) =
    default_case (is_looked all (i, p)) (i, p) (from all (i + 1) ps) (λ h. (both (is_default p) (is_place i (first_place all p)) h).0) (defaults_of all (i + 1) ps)

-- ---- in order

at_end : (front : List Package) (p : Package) (ps : List Package) → slice_get (front ++ p ∷ ps) (length front) ≡ Some p
at_end [] p ps = refl
at_end (f ∷ fs) p ps = at_end fs p ps

order_case : (t : Bool) (all : List Package) (first : ℕ) (p : ℕ × Package) (ps : List (ℕ × Package)) → first ≤ p.0 → slice_get all p.0 ≡ Some p.1
    → AreInOrder all (p.0 + 1) ps → AreInOrder all first ps → AreInOrder all first (cond t (p ∷ ps) ps)
order_case true all first p ps low at behind rest = (low, at, behind)
order_case false all first p ps low at behind rest = rest

order_of : (all front : List Package) (i first : ℕ) (ps : List Package) → all ≡ front ++ ps → length front ≡ i → first ≤ i → AreInOrder all first (from all i ps)
order_of all front i first [] whole size low = tt
order_of all front i first (p ∷ ps) whole size low =
    let next : all ≡ (front ++ p ∷ []) ++ ps = whole ∙ sym (append_assoc front (p ∷ []) ps) in
    let more : length (front ++ p ∷ []) ≡ length front + 1 = length-append front (p ∷ []) in
    let at : slice_get all i ≡ Some p = ap (λ l. slice_get l i) whole ∙ ap (slice_get (front ++ p ∷ ps)) (sym size) ∙ at_end front p ps in
    order_case (is_looked all (i, p)) all first (i, p) (from all (i + 1) ps) low at
    (order_of all (front ++ p ∷ []) (i + 1) (i + 1) ps next (omega (arith, more, size)) (omega arith))
    (order_of all (front ++ p ∷ []) (i + 1) first ps next (omega (arith, more, size)) (omega (arith, low)))

-- ---- each pair once

unlike_case : (t : Bool) (p : Package) (o : ℕ × Package) (os : List (ℕ × Package)) → (t ≡ true → is_alike p o.1 ≡ false) → has_alike p os ≡ false
    → has_alike p (cond t (o ∷ os) os) ≡ false
unlike_case true p o os other rest = none_or (is_alike p o.1) (has_alike p os) (other refl) rest
unlike_case false p o os other rest = rest

other_place : (i j : ℕ) → Some i ≡ Some j → i < j → ⊥
other_place i j h low = let same : i ≡ j = cc in absurd (omega (arith, same, low))

unlike_behind : (all : List Package) (i j : ℕ) (p : Package) (ps : List Package) → first_place all p ≡ Some i → i < j → has_alike p (from all j ps) ≡ false
unlike_behind all i j p [] at low = refl
unlike_behind all i j p (o ∷ os) at low =
    unlike_case (is_looked all (j, o)) p (j, o) (from all (j + 1) os)
    (λ h. false_from_ne_true _ (λ same.
    other_place i j (sym at ∙ place_same p o 0 all same ∙ placed j (first_place all o) (both (is_default o) (is_place j (first_place all o)) h).1) low))
    (unlike_behind all i (j + 1) p os at (omega (arith, low)))

once_case : (t : Bool) (p : ℕ × Package) (ps : List (ℕ × Package)) → (t ≡ true → has_alike p.1 ps ≡ false) → AreUnlike ps → AreUnlike (cond t (p ∷ ps) ps)
once_case true p ps none rest = (none refl, rest)
once_case false p ps none rest = rest

once_of : (all : List Package) (i : ℕ) (ps : List Package) → AreUnlike (from all i ps)
once_of all i [] = tt
once_of all i (p ∷ ps) =
    once_case (is_looked all (i, p)) (i, p) (from all (i + 1) ps)
    (λ h. unlike_behind all i (i + 1) p ps (placed i (first_place all p) (both (is_default p) (is_place i (first_place all p)) h).1) (omega arith))
    (once_of all (i + 1) ps)

-- ---- every one

head_case : (t : Bool) (p : Package) (o : ℕ × Package) (os : List (ℕ × Package)) → t ≡ true → is_alike p o.1 ≡ true → has_alike p (cond t (o ∷ os) os) ≡ true
head_case true p o os is same = ap (λ b. b || has_alike p os) same
head_case false p o os is same = cc

tail_case : (t : Bool) (p : Package) (o : ℕ × Package) (os : List (ℕ × Package)) → has_alike p os ≡ true → has_alike p (cond t (o ∷ os) os) ≡ true
tail_case true p o os has = one_or (is_alike p o.1) (has_alike p os) has
tail_case false p o os has = has

found_in : (all : List Package) (p : Package) (i k : ℕ) (ps : List Package) → first_place all p ≡ Some k → position_from (stands_for p) i ps ≡ Some k
    → has_alike p (from all i ps) ≡ true
found_in all p i k [] first at = cc
found_in all p i k (o ∷ os) first at = found_case (stands_for p o) refl (λ h. found_in all p (i + 1) k os first h) at
  where
    found_case : (t : Bool) → stands_for p o ≡ t → (position_from (stands_for p) (i + 1) os ≡ Some k → has_alike p (from all (i + 1) os) ≡ true)
        → cond t (Some i) (position_from (stands_for p) (i + 1) os) ≡ Some k → has_alike p (from all i (o ∷ os)) ≡ true
    found_case true is more here =
        let parts = stands p o is in
        let place : first_place all o ≡ Some i = sym (place_same p o 0 all parts.1) ∙ first ∙ sym here in
        let looked_at : is_looked all (i, o) ≡ true =
        ap (λ b. b && is_place i (first_place all o)) parts.0 ∙ place_is i (first_place all o) place in
        head_case (is_looked all (i, o)) p (i, o) (from all (i + 1) os) looked_at parts.1
    found_case false is more behind = tail_case (is_looked all (i, o)) p (i, o) (from all (i + 1) os) (more behind)

position : (p : Package) (n : ℕ) (front ps : List Package) → stands_for p p ≡ true → (k : ℕ) × (position_from (stands_for p) n (front ++ p ∷ ps) ≡ Some k)
position p n [] ps is = (n, ap (λ b. cond b (Some n) (position_from (stands_for p) (n + 1) ps)) is)
position p n (f ∷ fs) ps is = position_case (stands_for p f) (position p (n + 1) fs ps is)
  where
    position_case : (t : Bool) → (k : ℕ) × (position_from (stands_for p) (n + 1) (fs ++ p ∷ ps) ≡ Some k)
        → (k : ℕ) × (cond t (Some n) (position_from (stands_for p) (n + 1) (fs ++ p ∷ ps)) ≡ Some k)
    position_case true more = (n, refl)
    position_case false more = more

every_of : (all front ps : List Package) → all ≡ front ++ ps → AllByRecursion (λ (p : Package). is_default p ≡ true → has_alike p (looked all) ≡ true) ps
every_of all front [] whole = tt
every_of all front (p ∷ ps) whole = (
  λ is.
      let at = position p 0 front ps (self_stands p is) in
      let first : first_place all p ≡ Some at.0 = ap (position_from (stands_for p) 0) whole ∙ at.1 in
      found_in all p 0 at.0 all first first,
  every_of all (front ++ p ∷ []) ps (whole ∙ sym (append_assoc front (p ∷ []) ps)),
)

pub each_pair : (packages : List Package) → AreEachPair packages (looked packages)
each_pair packages = record {
  default = defaults_of packages 0 packages;
  order = order_of packages [] 0 0 packages refl refl (omega arith);
  once = once_of packages 0 packages;
  every = every_of packages [] packages refl;
}
