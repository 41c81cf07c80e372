-- The first package with its name and version comes after others that haven't both.
use Rattle.std.proofs.Common.{◌≡◌, ◌<◌, ℕ, suc, ◌+◌, ◌==◌, List, [], ◌∷◌, ◌++◌, length, take, drop, not, Bool, true, false, cond, Some, refl, sym, ap, ◌∙◌, arith, length-take}
use Rattle.std.specs.Prelude.{◌&&◌, ◌||◌}
use Rattle.std.specs.List.{list_any, position_from}
use Rattle.std.proofs.Math.ListN.{take-append-drop}
use Rattle.std.proofs.lemmas.Bool.Decides.{nat_tests}
use Rattle.audit_core.specs.Paths.{is_default}
use Rattle.audit_lock.specs.declared.resolving.Package.{Package}
use Rattle.vendor_registry.specs.Looked.{first_place, is_looked, is_place, stands_for}
use Rattle.vendor_registry.proofs.Pairs.{self_stands}

found_case : (b : Bool) (p : Package) (rest : List Package) (n : ℕ) → stands_for p p ≡ b → b ≡ true → is_place (n + 0) (cond b (Some n) (position_from (stands_for p) (n + 1) rest)) ≡ true
found_case true p rest n is h = let same : (n == n + 0) ≡ true = grind (arith, nat_tests) in same
found_case false p rest n is h = cc

step_case : (b more : Bool) (p : Package) (left : List Package) (n size : ℕ) → is_place ((n + 1) + size) (position_from (stands_for p) (n + 1) left) ≡ not more
    → is_place (n + suc size) (cond b (Some n) (position_from (stands_for p) (n + 1) left)) ≡ not (b || more)
step_case true more p left n size h = let other : (n == n + suc size) ≡ false = grind (arith, nat_tests) in other
step_case false more p left n size h =
    let same : n + suc size ≡ (n + 1) + size = omega arith in
    ap (λ i. is_place i (position_from (stands_for p) (n + 1) left)) same ∙ h

place_among : (p : Package) (front rest : List Package) (n : ℕ) → stands_for p p ≡ true
    → is_place (n + length front) (position_from (stands_for p) n (front ++ p ∷ rest)) ≡ not (list_any (stands_for p) front)
place_among p [] rest n is = found_case (stands_for p p) p rest n refl is
place_among p (x ∷ xs) rest n is =
    step_case (stands_for p x) (list_any (stands_for p) xs) p (xs ++ p ∷ rest) n (length xs) (place_among p xs rest (n + 1) is)

default_case : (b : Bool) (p : Package) (front rest : List Package) → is_default p ≡ b
    → (b && is_place (length front) (first_place (front ++ p ∷ rest) p)) ≡ (b && not (list_any (stands_for p) front))
default_case false p front rest is = refl
default_case true p front rest is =
    let none : length front ≡ 0 + length front = omega arith in
    ap (λ i. is_place i (first_place (front ++ p ∷ rest) p)) none ∙ place_among p front rest 0 (self_stands p is)

-- the package at a place is looked at if it is of the default registry and none before it is its
-- equal
pub looked_is : (all : List Package) (i : ℕ) (p : Package) (rest : List Package) → i < length all → drop i all ≡ p ∷ rest
    → is_looked all (i, p) ≡ (is_default p && not (list_any (stands_for p) (take i all)))
looked_is all i p rest low at =
    let front : List Package = take i all in
    let whole : all ≡ front ++ p ∷ rest = sym (take-append-drop i all) ∙ ap (λ (ps : List Package). front ++ ps) at in
    let size : length front ≡ i = simp length-take (omega (arith, low)) in
    ap (λ n. is_default p && is_place n (first_place all p)) (sym size)
    ∙ ap (λ (ps : List Package). is_default p && is_place (length front) (first_place ps p)) whole
    ∙ default_case (is_default p) p front rest refl
