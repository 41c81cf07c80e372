-- A text cut at another, and without its end.
use Rattle.std.proofs.Common.{◌≡◌, ◌≢◌, ℕ, zero, suc, ◌+◌, ◌-◌, ◌<◌, ◌≤◌, List, [], ◌∷◌, ◌++◌, length, take, drop, nat_eq, true, false, Option, Some, None, option_map, MatchOption, refl, sym, ap, ◌∙◌, arith, inl, inr, length-drop, length-append}
use Rattle.std.specs.Prelude.{unwrap_or}
use Rattle.std.proofs.lemmas.Bool.{cases_Bool}
use Rattle.std.proofs.lemmas.Bool.Decides.{Decides-eqb}
use Rattle.std.proofs.lemmas.Slice.Eq.{starts_is, ends_is}
use Rattle.std.specs.Borrow.{Bor}
use Rattle.std.specs.List.{starts_with, ends_with}
use Rattle.std.specs.Str.Pattern.{FindsText, FindsTextSuffix}
use Rattle.tame_location.specs.Urls.{cut_at, without_suffix}

-- ---- cut at a text

starts_not : (n s : List ℕ) → ((rest : List ℕ) → s ≢ n ++ rest) → starts_with nat_eq s n ≡ false
starts_not n s h = elim (cases_Bool (starts_with nat_eq s n)) [
  | inl x ↦ absurd (h (drop (length n) s) ((starts_is Decides-eqb s n (starts_with nat_eq s n) refl).0 x))
  | inr x ↦ x
]

-- if the text occurs nowhere, nothing is cut
pub cut_none : (n s : List ℕ) → ((i : ℕ) → i ≤ length s → (rest : List ℕ) → drop i s ≢ n ++ rest) → cut_at n s ≡ None
cut_none n [] h = refl
cut_none n (b ∷ bs) h =
    let away : starts_with nat_eq (b ∷ bs) n ≡ false = starts_not n (b ∷ bs) (h 0 (omega arith)) in
    rw (away, cut_none n bs (λ i low rest e. h (suc i) (omega (arith, low)) rest e)) refl

too_short : (n : List ℕ) (i : ℕ) (back : List ℕ) → 0 < length n → drop i [] ≡ n ++ back → ⊥
too_short n i back some e =
    let none : List ℕ = [] in
    let left : 0 - i ≡ length n + length back = sym (length-drop i none) ∙ ap length e ∙ length-append n back in
    omega (arith, left, some)

-- what is cut is around the first occurrence
pub cut_first : (n s : List ℕ) (i : ℕ) → 0 < length n → ((k : ℕ) → k < i → (rest : List ℕ) → drop k s ≢ n ++ rest)
    → (back : List ℕ) → drop i s ≡ n ++ back → cut_at n s ≡ Some (take i s, drop (i + length n) s)
cut_first n [] i some h back e = absurd (too_short n i back some e)
cut_first n (b ∷ bs) zero some h back e =
    let here : starts_with nat_eq (b ∷ bs) n ≡ true = (starts_is Decides-eqb (b ∷ bs) n (starts_with nat_eq (b ∷ bs) n) refl).1 back e in
    let same : 0 + length n ≡ length n = omega arith in
    rw (here, same) refl
cut_first n (b ∷ bs) (suc i) some h back e =
    let away : starts_with nat_eq (b ∷ bs) n ≡ false = starts_not n (b ∷ bs) (h 0 (omega arith)) in
    let more : suc i + length n ≡ suc (i + length n) = omega arith in
    rw (away, cut_first n bs i some (λ k low rest f. h (suc k) (omega (arith, low)) rest f) back e, more) refl

-- what `split_once` gives at a text
pub cut_split : (n s : List ℕ) → 0 < length n → (r : Option (Bor (List ℕ) × Bor (List ℕ)))
    → MatchOption r (FindsText n s None) (λ x. (i : ℕ) × (j : ℕ) × FindsText n s (Some (i, j)) × (x.0.now ≡ take i s) × (x.1.now ≡ drop j s) × (i ≤ j) × (length x.0.now ≡ i) × (length x.1.now + j ≡ length s))
    → option_map (λ p. (p.0.now, p.1.now)) r ≡ cut_at n s
cut_split n s some None h = sym (cut_none n s h)
cut_split n s some (Some x) h =
    let ends : h.1 ≡ h.0 + length n = h.2.1.ends in
    rw (h.3, h.4, ends) (sym (cut_first n s h.0 some h.2.0 (drop h.1 s) h.2.1.split))

-- ---- without its end

ends_not : (n s : List ℕ) → ((front : List ℕ) → s ≢ front ++ n) → ends_with nat_eq s n ≡ false
ends_not n s h = elim (cases_Bool (ends_with nat_eq s n)) [
  | inl x ↦ absurd (h (take (length s - length n) s) ((ends_is Decides-eqb s n (ends_with nat_eq s n) refl).0 x))
  | inr x ↦ x
]

-- what `strip_suffix` gives at a text, or else the text
pub stripped_or : (n : List ℕ) (text : Bor (List ℕ)) (r : Option (Bor (List ℕ)))
    → MatchOption r (FindsTextSuffix n text.now None) (λ x. (k : ℕ) × FindsTextSuffix n text.now (Some k) × (x.now ≡ take (length text.now - k) text.now) × (length x.now + k ≡ length text.now))
    → (unwrap_or r text).now ≡ without_suffix n text.now
stripped_or n text None h = rw (ends_not n text.now h) refl
stripped_or n text (Some x) h =
    let size : h.0 ≡ length n = h.1.0 in
    let here : ends_with nat_eq text.now n ≡ true = (ends_is Decides-eqb text.now n (ends_with nat_eq text.now n) refl).1 (take (length text.now - h.0) text.now) h.1.1 in
    rw (here, h.2, size) refl
