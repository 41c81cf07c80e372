-- A text cut at its first `{`, and the parts after the braces.
use Rattle.std.proofs.Common.{◌≡◌, ℕ, suc, ◌+◌, ◌<◌, List, [], ◌∷◌, length, Bool, true, false, cond, not, Option, Some, None, MatchOption, refl, sym, ap, ◌∙◌, arith}
use Rattle.std.specs.Borrow.{Bor}
use Rattle.std.specs.List.{onto_first, after_first, before_first, position_or_len, slice_split}
use Rattle.std.proofs.lemmas.List.Splits.{slice_split_first}
use Rattle.tame_entry.specs.Config.{is_brace}

step : (t : Bool) (b : ℕ) (bs : List ℕ) → cond (not t) (1 + position_or_len is_brace bs) 0 ≡ suc (length bs) → (position_or_len is_brace bs ≡ length bs → slice_split is_brace bs ≡ bs ∷ [])
    → cond t ([] ∷ slice_split is_brace bs) (onto_first b (slice_split is_brace bs)) ≡ (b ∷ bs) ∷ []
step true b bs h more = absurd (none (length bs) h)
  where
    none : (n : ℕ) → 0 ≡ suc n → ⊥
    none n h = omega (arith, h)
step false b bs h more = ap (onto_first b) (more (less (position_or_len is_brace bs) (length bs) h))
  where
    less : (m n : ℕ) → 1 + m ≡ suc n → m ≡ n
    less m n h = omega (arith, h)

-- if no byte is a brace, the text is the one part
uncut : (s : List ℕ) → position_or_len is_brace s ≡ length s → slice_split is_brace s ≡ s ∷ []
uncut [] h = refl
uncut (b ∷ bs) h = step (is_brace b) b bs h (uncut bs)

pub cut_first : (s : List ℕ) (r : Option (Bor (List ℕ) × Bor (List ℕ)))
    → MatchOption r (position_or_len is_brace s ≡ length s) (λ x. (position_or_len is_brace s < length s) × (x.0.now ≡ before_first is_brace s) × (x.1.now ≡ after_first is_brace s))
    → MatchOption r (slice_split is_brace s ≡ s ∷ []) (λ p. slice_split is_brace s ≡ p.0.now ∷ slice_split is_brace p.1.now)
cut_first s None h = uncut s h
cut_first s (Some x) h = slice_split_first is_brace s 0 h.0 ∙ ap (λ (f : List ℕ). f ∷ slice_split is_brace (after_first is_brace s)) (sym h.1) ∙ ap (λ a. x.0.now ∷ slice_split is_brace a) (sym h.2)
