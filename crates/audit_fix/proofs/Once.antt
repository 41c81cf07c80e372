-- Places that are kept once.
use Rattle.std.proofs.Common.{◌≡◌, ◌<◌, ◌++◌, ◌∷◌, ◌∙◌, ℕ, suc, List, [], length, drop, get_or, drop-cons, filter_map, Option, Some, None, Bool, true, false, cond, ◌&&◌, nat_eq, not, refl, sym, ap, append_assoc, rules}
use Rattle.std.specs.Prelude.{◌||◌}
use Rattle.std.specs.List.{cons_option, filter}
use Rattle.audit_advisory.specs.declared.advisories.Advisory.{Advisory}
use Rattle.audit_advisory.specs.declared.reports.Vulnerability.{Vulnerability}
use Rattle.audit_fix.specs.Plans.{each_once, is_among, unpatched_place, with_each, with_new}

-- those that aren't among the places already seen
abbrev pub unseen : List ℕ → List ℕ → List ℕ
unseen seen places = filter (λ p. not (is_among p seen)) places

-- ---- a filter of a filter

kept : (p : ℕ → Bool) (x : ℕ) (rest more : List ℕ) (b c d : Bool) → p x ≡ c → d ≡ (b && c) → more ≡ filter p rest
    → cond d (x ∷ more) more ≡ filter p (cond b (x ∷ rest) rest)
kept p x rest more true true d e f h = rw (f, e, h) refl
kept p x rest more true false d e f h = rw (f, e, h) refl
kept p x rest more false true d e f h = rw (f, h) refl
kept p x rest more false false d e f h = rw (f, h) refl

joined : (p q r : ℕ → Bool) → ((x : ℕ) → r x ≡ (q x && p x)) → (xs : List ℕ) → filter r xs ≡ filter p (filter q xs)
joined p q r h [] = refl
joined p q r h (x ∷ xs) = kept p x (filter q xs) (filter r xs) (q x) (p x) (r x) refl (h x) (joined p q r h xs)

-- ---- one more place

and_none : (b : Bool) → false ≡ (b && false)
and_none true = refl
and_none false = refl

-- a place already seen is left out anyway
seen_before : (seen : List ℕ) (place : ℕ) → is_among place seen ≡ true → (x : ℕ)
    → not (is_among x seen) ≡ (not (nat_eq place x) && not (is_among x seen))
seen_before seen place h x =
    elim (nat_eq place x) as (λ b. nat_eq place x ≡ b → not (is_among x seen) ≡ (not b && not (is_among x seen))) [
      | true ↦ λ e. let same : place ≡ x = search rules in rw (← same, h) refl
      | false ↦ λ e. refl
    ] refl

or_not : (b c d : Bool) → not c ≡ (not d && not b) → (e : Bool) → not (e || c) ≡ (not d && not (e || b))
or_not b c d h true = and_none (not d)
or_not b c d h false = h

-- one that wasn't seen is seen now
seen_now : (seen : List ℕ) (place x : ℕ) → not (is_among x (seen ++ place ∷ [])) ≡ (not (nat_eq place x) && not (is_among x seen))
seen_now [] place x =
    elim (nat_eq place x) as (λ b. not (b || false) ≡ (not b && true)) [
      | true ↦ refl
      | false ↦ refl
    ]
seen_now (s ∷ seen) place x =
    or_not (is_among x seen) (is_among x (seen ++ place ∷ [])) (nat_eq place x) (seen_now seen place x) (nat_eq s x)

by_cases : (seen : List ℕ) (place : ℕ) (more : List ℕ) (b : Bool) → is_among place seen ≡ b
    → seen ++ cond (not b) (place ∷ unseen seen (filter (λ p. not (nat_eq place p)) more)) (unseen seen (filter (λ p. not (nat_eq place p)) more))
    ≡ cond b seen (seen ++ place ∷ []) ++ unseen (cond b seen (seen ++ place ∷ [])) more
by_cases seen place more true is =
    ap (λ l. seen ++ l) (sym (joined (λ p. not (is_among p seen)) (λ p. not (nat_eq place p)) (λ p. not (is_among p seen)) (seen_before seen place is) more))
by_cases seen place more false is =
    let next = joined (λ p. not (is_among p seen)) (λ p. not (nat_eq place p)) (λ p. not (is_among p (seen ++ place ∷ []))) (seen_now seen place) more in
    rw (append_assoc, next) refl

one_more : (seen : List ℕ) (place : ℕ) (more : List ℕ)
    → seen ++ unseen seen (each_once (place ∷ more)) ≡ with_new seen place ++ unseen (with_new seen place) (each_once more)
one_more seen place more = by_cases seen place (each_once more) (is_among place seen) refl

place_more : (seen : List ℕ) (place : Option ℕ) (more : List ℕ)
    → seen ++ unseen seen (each_once (cons_option place more)) ≡ with_each seen place ++ unseen (with_each seen place) (each_once more)
place_more seen None more = refl
place_more seen (Some place) more = one_more seen place more

-- ---- vulnerability by vulnerability

pub unseen_none : (places : List ℕ) → unseen [] places ≡ places
unseen_none [] = refl
unseen_none (p ∷ ps) = rw (unseen_none ps) refl

pub one_looked_at : (advisories : List Advisory) (vs : List Vulnerability) (i : ℕ) (none : Vulnerability) (seen : List ℕ) (place : Option ℕ) → i < length vs
    → place ≡ unpatched_place advisories (get_or vs i none)
    → seen ++ unseen seen (each_once (filter_map (unpatched_place advisories) (drop i vs)))
    ≡ with_each seen place ++ unseen (with_each seen place) (each_once (filter_map (unpatched_place advisories) (drop (suc i) vs)))
one_looked_at advisories vs i none seen place low is =
    rw (drop-cons vs i none low, ← is) (place_more seen place (filter_map (unpatched_place advisories) (drop (suc i) vs)))
