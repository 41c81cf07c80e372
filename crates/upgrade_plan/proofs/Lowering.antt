-- Going through strings with the lowest so far gives the lowest of all.
use Rattle.std.proofs.Common.{◌≡◌, ℕ, List, [], ◌∷◌, ◌++◌, Bool, true, false, cond, Option, Some, None, refl, sym, ap, subst, ◌∙◌, append_assoc, append-nil}
use Rattle.std.specs.List.{AllByRecursion}
use Rattle.std.specs.Option.{option_cmp}
use Rattle.std.specs.Ordering.{is_lt, ordering_reverse}
use Rattle.std.specs.Cmp.{IsTotalOrder, nat_cmp_total, on_total, then_total}
use Rattle.std.specs.Cmp.Lexicographic.{options_total}
use Rattle.std.specs.declared.cmp.Ordering.{Ordering}
use Rattle.std.specs.declared.cmp.Ordering.TheVariants.{Less, Equal, Greater}
use Rattle.semver.specs.OrderLaws.{pre_total}
use Rattle.audit_advisory.specs.Points.{Point, precedence}
use Rattle.upgrade_plan.specs.Candidates.{place_of}
use Rattle.upgrade_plan.specs.Least.{IsFirstLowest, IsLowest, is_lower, lower_of}

-- ---- the order

pub precedence_total : IsTotalOrder precedence
precedence_total =
    then_total (on_total (λ (p : Point). p.major) nat_cmp_total)
    (then_total (on_total (λ (p : Point). p.minor) nat_cmp_total)
    (then_total (on_total (λ (p : Point). p.patch) nat_cmp_total) (on_total (λ (p : Point). p.pre) pre_total)))

less : (r : Ordering) → is_lt r ≡ true → r ≡ Less
less Less h = refl
less Equal h = cc
less Greater h = cc

through : {K : Type 0} {R : K → K → Ordering} → IsTotalOrder R → (a b c : K) → is_lt (R a b) ≡ true → is_lt (R b c) ≡ true → is_lt (R a c) ≡ true
through {R = R} o a b c h k = ap is_lt (o.trans a b c (less (R a b) h) (less (R b c) k))

-- what is lower than b is lower than what isn't lower than b
below_others : {K : Type 0} {R : K → K → Ordering} → IsTotalOrder R → (a b c : K) (r : Ordering) → R b c ≡ ordering_reverse r → R c b ≡ r
    → is_lt (R a b) ≡ true → is_lt r ≡ false → is_lt (R a c) ≡ true
below_others o a b c Less back is h k = absurd (cc)
below_others {R = R} o a b c Equal back is h k =
    let same : R c a ≡ R b a = o.congr c b a is in
    ap is_lt (o.antisymm a c ∙ ap ordering_reverse same ∙ sym (o.antisymm a b)) ∙ h
below_others o a b c Greater back is h k = through o a b c h (ap is_lt back)

places : IsTotalOrder (λ (a b : List ℕ). option_cmp precedence (place_of a) (place_of b))
places = on_total place_of (options_total precedence_total)

-- what is lower isn't higher
back_of : (a b : List ℕ) (r : Ordering) → option_cmp precedence (place_of b) (place_of a) ≡ ordering_reverse r → is_lt r ≡ true → is_lower b a ≡ false
back_of a b Less is h = ap is_lt is
back_of a b Equal is h = cc
back_of a b Greater is h = cc

not_back : (a b : List ℕ) → is_lower a b ≡ true → is_lower b a ≡ false
not_back a b h = back_of a b (option_cmp precedence (place_of a) (place_of b)) (places.antisymm b a) h

not_lower : (a : List ℕ) (b : Bool) → is_lower a a ≡ b → b ≡ false
not_lower a true is = sym is ∙ not_back a a is
not_lower a false is = refl

not_itself : (a : List ℕ) → is_lower a a ≡ false
not_itself a = not_lower a (is_lower a a) refl

lower_below : (a b c : List ℕ) → is_lower a b ≡ true → is_lower c b ≡ false → is_lower a c ≡ true
lower_below a b c h k = below_others places a b c (option_cmp precedence (place_of c) (place_of b)) (places.antisymm b c) refl h k

-- ---- facts about all items

weaker : {A : Type 0} (P Q : A → Type 0) → ((x : A) → P x → Q x) → (xs : List A) → AllByRecursion P xs → AllByRecursion Q xs
weaker P Q f [] h = tt
weaker P Q f (x ∷ xs) h = (f x h.0, weaker P Q f xs h.1)

pub both : {A : Type 0} (P : A → Type 0) (xs ys : List A) → AllByRecursion P xs → AllByRecursion P ys → AllByRecursion P (xs ++ ys)
both P [] ys h k = k
both P (x ∷ xs) ys h k = (h.0, both P xs ys h.1 k)

-- ---- one more string

-- the string, if it passes
abbrev pub picked : (List ℕ → Bool) → List ℕ → Option (List ℕ)
picked test t = cond (test t) (Some t) None

-- a string after the others that doesn't pass or isn't lower
behind_others : (test : List ℕ → Bool) (done : List (List ℕ)) (w t : List ℕ) → IsFirstLowest test done w → (test t ≡ true → is_lower t w ≡ false)
    → IsFirstLowest test (done ++ t ∷ []) w
behind_others test done w t f h = record {
  passes = f.passes;
  none_lower = both (λ u. test u ≡ true → is_lower u w ≡ false) done (t ∷ []) f.none_lower (h, tt);
  front = f.front;
  behind = f.behind ++ t ∷ [];
  stands = ap (λ l. l ++ t ∷ []) f.stands ∙ append_assoc f.front (w ∷ f.behind) (t ∷ []);
  first = f.first;
}

-- one that passes, if all earlier ones that pass are higher
last_one : (test : List ℕ → Bool) (done : List (List ℕ)) (t : List ℕ) → test t ≡ true → AllByRecursion (λ u. test u ≡ true → is_lower t u ≡ true) done
    → IsFirstLowest test (done ++ t ∷ []) t
last_one test done t h higher =
    let P : List ℕ → Type 0 = λ u. test u ≡ true → is_lower t u ≡ true in
    let Q : List ℕ → Type 0 = λ u. test u ≡ true → is_lower u t ≡ false in
    record {
      passes = h;
      none_lower = both Q done (t ∷ []) (weaker P Q (λ u k p. not_back t u (k p)) done higher) ((λ p. not_itself t), tt);
      front = done;
      behind = [];
      stands = refl;
      first = higher;
    }

-- a lower one that passes
lower_one : (test : List ℕ → Bool) (done : List (List ℕ)) (w t : List ℕ) → IsFirstLowest test done w → test t ≡ true → is_lower t w ≡ true
    → IsFirstLowest test (done ++ t ∷ []) t
lower_one test done w t f h low =
    last_one test done t h
    (weaker (λ u. test u ≡ true → is_lower u w ≡ false) (λ u. test u ≡ true → is_lower t u ≡ true) (λ u k p. lower_below t w u low (k p)) done f.none_lower)

-- the first that passes
first_one : (test : List ℕ → Bool) (done : List (List ℕ)) (t : List ℕ) → AllByRecursion (λ u. test u ≡ false) done → test t ≡ true
    → IsFirstLowest test (done ++ t ∷ []) t
first_one test done t none h =
    last_one test done t h (weaker (λ u. test u ≡ false) (λ u. test u ≡ true → is_lower t u ≡ true) (λ u no yes. absurd (cc)) done none)

step_passing : (test : List ℕ → Bool) (done : List (List ℕ)) (w t : List ℕ) → IsFirstLowest test done w → test t ≡ true
    → (b : Bool) → is_lower t w ≡ b → IsLowest test (done ++ t ∷ []) (cond b (Some t) (Some w))
step_passing test done w t f h true low = lower_one test done w t f h low
step_passing test done w t f h false low = behind_others test done w t f (λ p. low)

step : (test : List ℕ → Bool) (done : List (List ℕ)) (least : Option (List ℕ)) (t : List ℕ) → IsLowest test done least
    → (b : Bool) → test t ≡ b → IsLowest test (done ++ t ∷ []) (lower_of least (cond b (Some t) None))
step test done None t h true e = first_one test done t h e
step test done None t h false e = both (λ u. test u ≡ false) done (t ∷ []) h (e, tt)
step test done (Some w) t h true e = step_passing test done w t h e (is_lower t w) refl
step test done (Some w) t h false e = behind_others test done w t h (λ p. absurd (cc))

-- ---- all of them

-- the lowest of what was found and those that pass
abbrev pub lowest_from : (List ℕ → Bool) → Option (List ℕ) → List (List ℕ) → Option (List ℕ)
lowest_from test least [] = least
lowest_from test least (t ∷ ts) = lowest_from test (lower_of least (picked test t)) ts

lowest_behind : (test : List ℕ → Bool) (done : List (List ℕ)) (least : Option (List ℕ)) (ts : List (List ℕ)) → IsLowest test done least
    → IsLowest test (done ++ ts) (lowest_from test least ts)
lowest_behind test done least [] h = subst (λ l. IsLowest test l least) (sym (append-nil done)) h
lowest_behind test done least (t ∷ ts) h =
    let more = lowest_behind test (done ++ t ∷ []) (lower_of least (picked test t)) ts (step test done least t h (test t) refl) in
    subst (λ l. IsLowest test l (lowest_from test (lower_of least (picked test t)) ts)) (append_assoc done (t ∷ []) ts) more

pub lowest_of_all : (test : List ℕ → Bool) (ts : List (List ℕ)) → IsLowest test ts (lowest_from test None ts)
lowest_of_all test ts = lowest_behind test [] None ts tt

pub lowest_is : (test : List ℕ → Bool) (ts : List (List ℕ)) (o : Option (List ℕ)) → lowest_from test None ts ≡ o → IsLowest test ts o
lowest_is test ts o h = subst (IsLowest test ts) h (lowest_of_all test ts)
