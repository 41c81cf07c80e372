-- Facts on lists, places and answers.
use Rattle.std.proofs.Common.{◌≡◌, ℕ, suc, ◌+◌, ◌<◌, List, [], ◌∷◌, ◌++◌, length, drop, get_or, map, Bool, true, false, cond, Option, Some, None, option_map, Result, Ok, Err, refl, sym, ap, ◌∙◌, arith, rules, drop-cons}
use Rattle.std.specs.Prelude.{option_and_then, is_some, slice_get, bytes_eq, OnOk, OnErr, IfOk, find, ◌||◌}
use Rattle.std.specs.Option.{option_or}
use Rattle.std.specs.List.{position_from, list_any}
use Rattle.std.proofs.lemmas.Slice.Eq.{bytes_eq-Decides}

pub on_err : {T E : Type 0} (r : Result T E) {P : Type 0} → P → OnErr r P
on_err (Ok x) p = tt
on_err (Err e) p = p

pub same_bytes : (xs ys : List ℕ) → bytes_eq xs ys ≡ true → xs ≡ ys
same_bytes xs ys h = search (rules, bytes_eq-Decides)

pub bytes_same : (xs : List ℕ) → bytes_eq xs xs ≡ true
bytes_same xs = search (rules, bytes_eq-Decides)

-- the item at a place comes before what is left after it
pub drop_at : {A : Type 0} (xs : List A) (i : ℕ) (x : A) → i < length xs → x ≡ get_or xs i x → drop i xs ≡ x ∷ drop (suc i) xs
drop_at xs i x low is = drop-cons xs i x low ∙ ap (λ y. y ∷ drop (suc i) xs) (sym is)

pub none_of : {A : Type 0} (o : Option A) → is_some o ≡ false → o ≡ None
none_of None h = refl
none_of (Some x) h = cc

-- whether there is a place is whether some item passes
pub some_place : {A : Type 0} (test : A → Bool) (n : ℕ) (xs : List A) → is_some (position_from test n xs) ≡ list_any test xs
some_place test n [] = refl
some_place test n (x ∷ xs) =
    elim (test x) as (λ b. is_some (cond b (Some n) (position_from test (n + 1) xs)) ≡ (b || list_any test xs)) [
      | true ↦ refl
      | false ↦ some_place test (n + 1) xs
    ]

first_or : {A : Type 0} (b : Bool) (x : A) (a o : Option A) → cond b (Some x) (option_or a o) ≡ option_or (cond b (Some x) a) o
first_or true x a o = refl
first_or false x a o = refl

-- one more item at the end
pub position-append : {A : Type 0} (test : A → Bool) (n : ℕ) (xs : List A) (x : A) → position_from test n (xs ++ x ∷ []) ≡ option_or (position_from test n xs) (cond (test x) (Some (n + length xs)) None)
position-append test n [] x = let same : n + 0 ≡ n = omega arith in rw same refl
position-append test n (y ∷ ys) x =
    let next : n + 1 + length ys ≡ n + suc (length ys) = omega arith in
    ap (cond (test y) (Some n)) (position-append test (n + 1) ys x ∙ rw next refl) ∙ first_or (test y) n _ _

-- a text that had no place gets this one, any other keeps what it had
pub put_step : (old : Option ℕ) (same : Bool) (place : ℕ) → (same ≡ true → old ≡ None) → cond same (Some place) old ≡ option_or old (cond same (Some place) None)
put_step old true place absent = rw (absent refl) refl
put_step None false place absent = refl
put_step (Some p) false place absent = refl

raised : (b : Bool) (n : ℕ) (o : Option ℕ) → cond b (Some (n + 1)) (option_map (λ i. i + 1) o) ≡ option_map (λ i. i + 1) (cond b (Some n) o)
raised true n o = refl
raised false n o = refl

position-raised : {A : Type 0} (test : A → Bool) (n : ℕ) (xs : List A) → position_from test (n + 1) xs ≡ option_map (λ i. i + 1) (position_from test n xs)
position-raised test n [] = refl
position-raised test n (x ∷ xs) = rw (position-raised test (n + 1) xs) (raised (test x) n (position_from test (n + 1) xs))

get-raised : {A : Type 0} (x : A) (xs : List A) (o : Option ℕ) → option_and_then (λ i. slice_get (x ∷ xs) i) (option_map (λ i. i + 1) o) ≡ option_and_then (λ i. slice_get xs i) o
get-raised x xs None = refl
get-raised x xs (Some i) = let next : i + 1 ≡ suc i = omega arith in rw next refl

-- the item at the place of the first that passes is the first that passes
pub get_place : {A B : Type 0} (test : B → Bool) (f : A → B) (xs : List A) → option_and_then (λ i. slice_get xs i) (position_from test 0 (map f xs)) ≡ find (λ x. test (f x)) xs
get_place test f [] = refl
get_place test f (x ∷ xs) =
    let more : position_from test (0 + 1) (map f xs) ≡ option_map (λ i. i + 1) (position_from test 0 (map f xs)) = position-raised test 0 (map f xs) in
    let rest : option_and_then (λ i. slice_get (x ∷ xs) i) (position_from test (0 + 1) (map f xs)) ≡ find (λ y. test (f y)) xs =
    rw (more, get-raised x xs (position_from test 0 (map f xs))) (get_place test f xs) in
    elim (test (f x)) as (λ b. option_and_then (λ i. slice_get (x ∷ xs) i) (cond b (Some 0) (position_from test (0 + 1) (map f xs))) ≡ cond b (Some x) (find (λ y. test (f y)) xs)) [
      | true ↦ refl
      | false ↦ rest
    ]

pub cons_head : {A : Type 0} (x y : A) (xs ys : List A) → x ∷ xs ≡ y ∷ ys → x ≡ y
cons_head x y xs ys h = cc

pub cons_tail : {A : Type 0} (x y : A) (xs ys : List A) → x ∷ xs ≡ y ∷ ys → xs ≡ ys
cons_tail x y xs ys h = cc

-- ---- answers

pub if_ok : {T E : Type 0} (r : Result T E) {P Q : T → Type 0} → ((x : T) → P x → Q x) → IfOk r P → IfOk r Q
if_ok (Ok x) f p = f x p
if_ok (Err e) f p = tt

pub on_if_ok : {T E : Type 0} (r : Result T E) {P : T → Type 0} {Q : Type 0} → ((x : T) → P x → Q) → IfOk r P → OnOk r Q
on_if_ok (Ok x) f p = f x p
on_if_ok (Err e) f p = tt

pub or_left : (a b : Bool) → a ≡ true → (a || b) ≡ true
or_left a b h = rw h refl

pub or_right : (a b : Bool) → b ≡ true → (a || b) ≡ true
or_right true b h = refl
or_right false b h = h

-- as optional texts these are the same, so they are the same
pub somes : {A B : Type 0} (f : A → B) (xs : List A) (ys : List B) → map (λ x. Some (f x)) xs ≡ map (λ y. Some y) ys → map f xs ≡ ys
somes f [] [] h = refl
somes f [] (y ∷ ys) h = cc
somes f (x ∷ xs) [] h = cc
somes f (x ∷ xs) (y ∷ ys) h =
    let head : Some (f x) ≡ Some y = cons_head (Some (f x)) (Some y) (map (λ x. Some (f x)) xs) (map (λ y. Some y) ys) h in
    let same : f x ≡ y = cc in
    let more = somes f xs ys (cons_tail (Some (f x)) (Some y) (map (λ x. Some (f x)) xs) (map (λ y. Some y) ys) h) in
    rw (same, more) refl
