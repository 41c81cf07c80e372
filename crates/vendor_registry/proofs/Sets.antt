-- What a set has after one more is put into it.
use Rattle.std.proofs.Common.{◌≡◌, ℕ, List, [], ◌∷◌, ◌++◌, Bool, true, false, cond, bytes_eq, refl, sym, ap, ap₂, ◌∙◌}
use Rattle.std.specs.Prelude.{◌||◌, ◌&&◌}
use Rattle.std.specs.List.{list_any}
use Rattle.std.specs.declared.cmp.Ordering.{Ordering}
use Rattle.std.specs.declared.cmp.Ordering.TheVariants.{Less, Equal, Greater}
use Rattle.std.specs.Ordering.{is_eq, ordering_then, match_ordering, nat_cmp}
use Rattle.std.specs.Cmp.Lexicographic.{slice_cmp}
use Rattle.std.specs.BTreeMap.{is_at}
use Rattle.std.specs.BTreeSet.{insert_key}
use Rattle.std.proofs.lemmas.Map.Lookups.{CmpEqualImpliesEq, exact_bytes}
use Rattle.std.proofs.lemmas.Map.Text.{is_eq-slice_cmp}
use Rattle.std.proofs.lemmas.Slice.Eq.{bytes_eq-Decides}
use Rattle.audit_lock.specs.declared.resolving.Package.{Package}
use Rattle.audit_core.specs.Paths.{is_among, is_default}
use Rattle.audit_core.specs.Plans.{with_path}
use Rattle.vendor_registry.specs.Grouped.{HasPaths}
use Rattle.vendor_registry.specs.Looked.{HasPairs, is_pair, pair_cmp, pair_of, stands_for}
use Rattle.vendor_registry.specs.declared.looking.Pair.{Pair}

-- ---- either

or_last : (a b : Bool) → (a || b) ≡ (b || a)
or_last true true = refl
or_last true false = refl
or_last false true = refl
or_last false false = refl

or_again : (a b : Bool) → (a || b) ≡ ((a || b) || a)
or_again true b = refl
or_again false true = refl
or_again false false = refl

or_behind : (a b c : Bool) → (a || (b || c)) ≡ ((a || b) || c)
or_behind true b c = refl
or_behind false b c = refl

or_none : (a : Bool) → (a || false) ≡ a
or_none true = refl
or_none false = refl

-- ---- one more

any_case : {K : Type 0} (f : K → Bool) (k x : K) (xs more : List K) (o : Ordering) → (o ≡ Equal → k ≡ x) → list_any f more ≡ (list_any f xs || f k)
    → list_any f (match_ordering o (k ∷ x ∷ xs) (x ∷ xs) (x ∷ more)) ≡ ((f x || list_any f xs) || f k)
any_case f k x xs more Less own h = or_last (f k) (f x || list_any f xs)
any_case {K} f k x xs more Equal own h = or_again (f x) (list_any f xs) ∙ ap (λ (y : K). (f x || list_any f xs) || f y) (sym (own refl))
any_case f k x xs more Greater own h = ap (λ b. f x || b) h ∙ or_behind (f x) (list_any f xs) (f k)

pub any_insert : {K : Type 0} (R : K → K → Ordering) → CmpEqualImpliesEq R → (f : K → Bool) (k : K) (ks : List K) → list_any f (insert_key R ks k) ≡ (list_any f ks || f k)
any_insert R own f k [] = or_last (f k) false
any_insert R own f k (x ∷ xs) = any_case f k x xs (insert_key R xs k) (R k x) (own k x) (any_insert R own f k xs)

any_same : {K : Type 0} (f g : K → Bool) → ((k : K) → f k ≡ g k) → (ks : List K) → list_any f ks ≡ list_any g ks
any_same f g h [] = refl
any_same f g h (k ∷ ks) = ap (λ b. b || list_any f ks) (h k) ∙ ap (λ b. g k || b) (any_same f g h ks)

any_behind : {K : Type 0} (f : K → Bool) (xs : List K) (x : K) → list_any f (xs ++ x ∷ []) ≡ (list_any f xs || f x)
any_behind f [] x = or_last (f x) false
any_behind f (y ∷ ys) x = ap (λ b. f y || b) (any_behind f ys x) ∙ or_behind (f y) (list_any f ys) (f x)

-- ---- equal bytes

turned : (a b : List ℕ) (s t : Bool) → bytes_eq a b ≡ s → bytes_eq b a ≡ t → s ≡ t
turned a b true true h k = refl
turned a b false false h k = refl
turned a b true false h k = let same = (bytes_eq-Decides a b).0 h in let other = (bytes_eq-Decides b a).1 (sym same) in cc
turned a b false true h k = let same = (bytes_eq-Decides b a).0 k in let other = (bytes_eq-Decides a b).1 (sym same) in cc

pub bytes_turned : (a b : List ℕ) → bytes_eq a b ≡ bytes_eq b a
bytes_turned a b = turned a b (bytes_eq a b) (bytes_eq b a) refl refl

-- ---- pairs

then_eq : (r s : Ordering) → is_eq (ordering_then r s) ≡ (is_eq r && is_eq s)
then_eq Less s = refl
then_eq Equal s = refl
then_eq Greater s = refl

first_equal : (r s : Ordering) → ordering_then r s ≡ Equal → r ≡ Equal
first_equal Less s e = cc
first_equal Equal s e = refl
first_equal Greater s e = cc

second_equal : (r s : Ordering) → ordering_then r s ≡ Equal → s ≡ Equal
second_equal Less s e = cc
second_equal Equal s e = e
second_equal Greater s e = cc

exact_pair : CmpEqualImpliesEq pair_cmp
exact_pair a b e =
    let names = slice_cmp nat_cmp a.name b.name in
    let versions = slice_cmp nat_cmp a.version b.version in
    ap₂ pair_of (exact_bytes a.name b.name (first_equal names versions e)) (exact_bytes a.version b.version (second_equal names versions e))

pair_at : (p : Package) (k : Pair) → is_at (pair_cmp (pair_of p.name p.version)) k ≡ is_pair p k
pair_at p k =
    then_eq (slice_cmp nat_cmp p.name k.name) (slice_cmp nat_cmp p.version k.version)
    ∙ ap₂ (λ (a b : Bool). a && b) (is_eq-slice_cmp p.name k.name ∙ bytes_turned p.name k.name) (is_eq-slice_cmp p.version k.version ∙ bytes_turned p.version k.version)

-- whether a pair is among those so far
pub pair_among : (pairs : List Pair) (front : List Package) (p : Package) → HasPairs pairs front
    → list_any (is_at (pair_cmp (pair_of p.name p.version))) pairs ≡ list_any (stands_for p) front
pair_among pairs front p h = any_same (is_at (pair_cmp (pair_of p.name p.version))) (is_pair p) (pair_at p) pairs ∙ h p

pub pairs_more : (pairs : List Pair) (front : List Package) (p : Package) → is_default p ≡ true → HasPairs pairs front
    → HasPairs (insert_key pair_cmp pairs (pair_of p.name p.version)) (front ++ p ∷ [])
pairs_more pairs front p is h q =
    let pair : Pair = pair_of p.name p.version in
    let same : is_pair q pair ≡ stands_for q p = ap (λ b. b && bytes_eq p.name q.name && bytes_eq p.version q.version) (sym is) in
    any_insert pair_cmp exact_pair (is_pair q) pair pairs ∙ ap (λ b. b || is_pair q pair) (h q)
    ∙ ap (λ b. list_any (stands_for q) front || b) same ∙ sym (any_behind (stands_for q) front p)

-- ---- paths

path_at : (q k : List ℕ) → is_at (slice_cmp nat_cmp q) k ≡ bytes_eq k q
path_at q k = is_eq-slice_cmp q k ∙ bytes_turned q k

pub path_among : (keys qs : List (List ℕ)) (q : List ℕ) → HasPaths keys qs → list_any (is_at (slice_cmp nat_cmp q)) keys ≡ is_among q qs
path_among keys qs q h = any_same (is_at (slice_cmp nat_cmp q)) (λ k. bytes_eq k q) (path_at q) keys ∙ h q

again : (p q : List ℕ) (qs : List (List ℕ)) (b : Bool) → is_among p qs ≡ true → bytes_eq p q ≡ b → (is_among q qs || b) ≡ is_among q qs
again p q qs false is same = or_none (is_among q qs)
again p q qs true is same = let one = (bytes_eq-Decides p q).0 same in or_last (is_among q qs) true ∙ sym is ∙ ap (λ x. is_among x qs) one

paths_case : (b : Bool) (p q : List ℕ) (qs : List (List ℕ)) → is_among p qs ≡ b → (is_among q qs || bytes_eq p q) ≡ is_among q (cond b qs (qs ++ p ∷ []))
paths_case true p q qs is = again p q qs (bytes_eq p q) is refl
paths_case false p q qs is = sym (any_behind (λ k. bytes_eq k q) qs p)

pub paths_more : (keys qs : List (List ℕ)) (p : List ℕ) → HasPaths keys qs → HasPaths (insert_key (slice_cmp nat_cmp) keys p) (with_path qs p)
paths_more keys qs p h q =
    any_insert (slice_cmp nat_cmp) exact_bytes (λ k. bytes_eq k q) p keys ∙ ap (λ b. b || bytes_eq p q) (h q)
    ∙ paths_case (is_among p qs) p q qs refl
