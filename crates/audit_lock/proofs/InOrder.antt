-- Packages that can be read, and the first that can't.
use Rattle.std.proofs.Common.{◌≡◌, ℕ, suc, ◌+◌, List, [], ◌∷◌, ◌++◌, length, Option, None, Some, Result, Ok, Err, refl, ap, ◌∙◌, arith}
use Rattle.toml.specs.Data.{Data}
use Rattle.audit_lock.specs.Listed.{listed_of}
use Rattle.audit_lock.specs.Locked.{listed_from, resolve_from}
use Rattle.audit_lock.specs.Naming.{each_place}
use Rattle.audit_lock.specs.InOrder.{AreListed, ArePlaced, array_of, packages_at}
use Rattle.audit_lock.specs.declared.listed.LockRule.{LockRule}
use Rattle.audit_lock.specs.declared.listed.LockRule.TheVariants as rule
use Rattle.audit_lock.specs.declared.listed.ListedPackage.{ListedPackage}
use Rattle.audit_lock.specs.declared.lockfiles.LockfileFault.TheVariants as fault

listed-all : (i : ℕ) (ds : List Data) (ps : List ListedPackage) → AreListed ds ps → listed_from i (array_of ds) ≡ Ok ps
listed-all i [] [] h = refl
listed-all i [] (p ∷ ps) h = absurd h
listed-all i (d ∷ ds) [] h = absurd h
listed-all i (d ∷ ds) (p ∷ ps) h = rw (h.0, listed-all (suc i) ds ps h.1) refl

listed-broken : (i : ℕ) (front back : List Data) (d : Data) (ps : List ListedPackage) (r : LockRule) → AreListed front ps → listed_of d ≡ Err r
    → listed_from i (array_of (front ++ d ∷ back)) ≡ Err (fault.Rule (Some (i + length front)) r)
listed-broken i [] back d [] r h e = let k : i + 0 ≡ i = omega arith in rw (e, k) refl
listed-broken i [] back d (p ∷ ps) r h e = absurd h
listed-broken i (f ∷ front) back d [] r h e = absurd h
listed-broken i (f ∷ front) back d (p ∷ ps) r h e =
    let k : i + suc (length front) ≡ suc i + length front = omega arith in
    rw (h.0, listed-broken (suc i) front back d ps r h.1 e, k) refl

placed-all : (place : List ℕ → Option ℕ) (i : ℕ) (ps : List ListedPackage) (ats : List (List ℕ)) → ArePlaced place ps ats → resolve_from place i ps ≡ Ok (packages_at ps ats)
placed-all place i [] [] h = refl
placed-all place i [] (at ∷ ats) h = absurd h
placed-all place i (p ∷ ps) [] h = absurd h
placed-all place i (p ∷ ps) (at ∷ ats) h = rw (h.0, placed-all place (suc i) ps ats h.1) refl

unnamed-broken : (place : List ℕ → Option ℕ) (i : ℕ) (front back : List ListedPackage) (p : ListedPackage) (ats : List (List ℕ)) → ArePlaced place front ats → each_place place p.dependencies ≡ None
    → resolve_from place i (front ++ p ∷ back) ≡ Err (fault.Rule (Some (i + length front)) rule.Names)
unnamed-broken place i [] back p [] h e = let k : i + 0 ≡ i = omega arith in rw (e, k) refl
unnamed-broken place i [] back p (at ∷ ats) h e = absurd h
unnamed-broken place i (f ∷ front) back p [] h e = absurd h
unnamed-broken place i (f ∷ front) back p (at ∷ ats) h e =
    let k : i + suc (length front) ≡ suc i + length front = omega arith in
    rw (h.0, unnamed-broken place (suc i) front back p ats h.1 e, k) refl

pub all_are_listed : (ds : List Data) (ps : List ListedPackage) → AreListed ds ps → listed_from 0 (array_of ds) ≡ Ok ps
all_are_listed = listed-all 0

pub first_is_named : (front back : List Data) (d : Data) (ps : List ListedPackage) (r : LockRule) → AreListed front ps → listed_of d ≡ Err r
    → listed_from 0 (array_of (front ++ d ∷ back)) ≡ Err (fault.Rule (Some (length front)) r)
first_is_named front back d ps r h e =
    let k : 0 + length front ≡ length front = omega arith in
    listed-broken 0 front back d ps r h e ∙ ap (λ n. Err (fault.Rule (Some n) r)) k

pub all_are_placed : (place : List ℕ → Option ℕ) (ps : List ListedPackage) (ats : List (List ℕ)) → ArePlaced place ps ats → resolve_from place 0 ps ≡ Ok (packages_at ps ats)
all_are_placed place = placed-all place 0

pub first_without_place : (place : List ℕ → Option ℕ) (front back : List ListedPackage) (p : ListedPackage) (ats : List (List ℕ)) → ArePlaced place front ats → each_place place p.dependencies ≡ None
    → resolve_from place 0 (front ++ p ∷ back) ≡ Err (fault.Rule (Some (length front)) rule.Names)
first_without_place place front back p ats h e =
    let k : 0 + length front ≡ length front = omega arith in
    unnamed-broken place 0 front back p ats h e ∙ ap (λ n. Err (fault.Rule (Some n) rule.Names)) k
