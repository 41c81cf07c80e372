-- One more item of a reading, and one more package in a map of names.
use Rattle.std.proofs.Common.{◌≡◌, ℕ, zero, suc, ◌+◌, ◌<◌, List, [], ◌∷◌, ◌++◌, length, take, drop, get_or, Bool, true, false, cond, Option, Some, None, option_map, Result, Ok, Err, refl, sym, ap, ◌∙◌, append_assoc, arith, rules, drop-cons}
use Rattle.std.specs.Prelude.{option_and_then, is_some}
use Rattle.std.specs.Option.{option_or}
use Rattle.std.specs.List.{position_from}
use Rattle.std.specs.Str.{bytes_eq}
use Rattle.std.proofs.lemmas.Slice.Eq.{bytes_eq-Decides}
use Rattle.toml_tables.specs.Results.{and_then}
use Rattle.toml_tables.proofs.Ahead.{before}
use Rattle.audit_lock.specs.Naming.{each_place}
use Rattle.audit_lock.specs.Locked.{resolve_from}
use Rattle.audit_lock.specs.declared.listed.ListedPackage.{ListedPackage}
use Rattle.audit_lock.proofs.Ahead.{before_read}

-- what is left from a place on is the item there, then what is left after it
pub drop_at : {A : Type 0} (xs : List A) (i : ℕ) (x : A) → i < length xs → x ≡ get_or xs i x → drop i xs ≡ x ∷ drop (suc i) xs
drop_at xs i x low is = drop-cons xs i x low ∙ ap (λ y. y ∷ drop (suc i) xs) (sym is)

pub read_more : {A F : Type 0} (whole : Result (List A) F) (xs : List A) (one : Result A F) (rest : Result (List A) F) (x : A)
    → whole ≡ before_read xs (and_then (λ y. and_then (λ ys. Ok (y ∷ ys)) rest) one) → one ≡ Ok x → whole ≡ before_read (xs ++ x ∷ []) rest
read_more whole xs one (Ok ys) x h is = h ∙ rw is (ap Ok (sym (append_assoc xs (x ∷ []) ys)))
read_more whole xs one (Err e) x h is = h ∙ rw is refl

pub found_more : {A : Type 0} (whole : Option (List A)) (xs : List A) (one : Option A) (rest : Option (List A)) (x : A)
    → whole ≡ before xs (option_and_then (λ y. option_map (λ ys. y ∷ ys) rest) one) → one ≡ Some x → whole ≡ before (xs ++ x ∷ []) rest
found_more whole xs one (Some ys) x h is = h ∙ rw is (ap Some (sym (append_assoc xs (x ∷ []) ys)))
found_more whole xs one None x h is = h ∙ rw is refl

-- a string without a place gets this one, any other keeps its own
pub put_step : (old : Option ℕ) (same : Bool) (place : ℕ) → (same ≡ true → old ≡ None) → cond same (Some place) old ≡ option_or old (cond same (Some place) None)
put_step old true place absent = rw (absent refl) refl
put_step None false place absent = refl
put_step (Some p) false place absent = refl

pub none_of : {A : Type 0} (o : Option A) → is_some o ≡ false → o ≡ None
none_of None h = refl
none_of (Some x) h = cc

first_or : {A : Type 0} (b : Bool) (x : A) (a o : Option A) → cond b (Some x) (option_or a o) ≡ option_or (cond b (Some x) a) o
first_or true x a o = refl
first_or false x a o = refl

-- the first place among the items so far, or the next item
pub position_more : {A : Type 0} (test : A → Bool) (n : ℕ) (xs : List A) (i : ℕ) (x : A) → i < length xs → x ≡ get_or xs i x
    → position_from test n (take (suc i) xs) ≡ option_or (position_from test n (take i xs)) (cond (test x) (Some (n + i)) None)
position_more test n [] i x low is = absurd (omega (arith, low))
position_more test n (y ∷ ys) zero x low is =
    let same : n + 0 ≡ n = omega arith in
    rw (is, same) refl
position_more test n (y ∷ ys) (suc i) x low is =
    let next : n + 1 + i ≡ n + suc i = omega arith in
    ap (cond (test y) (Some n)) (position_more test (n + 1) ys i x (omega (arith, low)) is ∙ rw next refl) ∙ first_or (test y) n _ _

pub same_bytes : (xs ys : List ℕ) → bytes_eq xs ys ≡ true → xs ≡ ys
same_bytes xs ys h = search (rules, bytes_eq-Decides)

each_place-same : (f g : List ℕ → Option ℕ) → ((q : List ℕ) → f q ≡ g q) → (ts : List (List ℕ)) → each_place f ts ≡ each_place g ts
each_place-same f g h [] = refl
each_place-same f g h (t ∷ ts) = rw (h t, each_place-same f g h ts) refl

-- two maps with the same places find the same dependencies
pub resolve_from-same : (f g : List ℕ → Option ℕ) → ((q : List ℕ) → f q ≡ g q) → (i : ℕ) (ps : List ListedPackage) → resolve_from f i ps ≡ resolve_from g i ps
resolve_from-same f g h i [] = refl
resolve_from-same f g h i (p ∷ ps) = rw (each_place-same f g h p.dependencies, resolve_from-same f g h (suc i) ps) refl
