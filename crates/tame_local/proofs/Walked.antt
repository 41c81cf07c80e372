-- The last `-` before the first `.`, by a pass over a text.
use Rattle.std.proofs.Common.{◌≡◌, ℕ, zero, suc, ◌+◌, ◌<◌, ◌==◌, List, [], ◌∷◌, length, drop, get_or, true, false, Option, Some, None, refl, sym, ap, ◌∙◌, subst, arith, inl, inr}
use Rattle.std.specs.Prelude.{nat_lt, if◌then◌else◌}
use Rattle.std.specs.List.{position_or_len}
use Rattle.std.specs.Path.{rfind_below}
use Rattle.std.proofs.Math.Seq.{drop-cons}
use Rattle.std.proofs.lemmas.Bool.{cases_Bool}
use Rattle.std.proofs.lemmas.Bool.Decides.{nat_tests}
use Rattle.std.proofs.lemmas.List.{drop_all}
use Rattle.std.proofs.lemmas.List.Sums.{position_or_len_is}
use Rattle.tame_local.specs.CrateFiles.{dash_of}

-- the last `-` so far, up to the first `.`, of what is left from a position on
abbrev pub dash_from : Option ℕ → ℕ → List ℕ → Option ℕ
dash_from last at [] = None
dash_from last at (b ∷ bs) =
    if b == 46 then last else dash_from (if b == 45 then Some at else last) (suc at) bs

-- no `.` is before a position
abbrev IsUndotted : List ℕ → ℕ → Type 0
IsUndotted text i = (k : ℕ) → k < i → (get_or text k 0 == 46) ≡ false

undotted_on : (text : List ℕ) (i : ℕ) → IsUndotted text i → (get_or text i 0 == 46) ≡ false → IsUndotted text (suc i)
undotted_on text i free here k low = elim (cases_Bool (k == i)) [
  | inl same ↦
      let is : i ≡ k = grind (arith, nat_tests) in
      subst (λ n. (get_or text n 0 == 46) ≡ false) is here
  | inr other ↦
      let less : k < i = grind (arith, nat_tests) in
      free k less
]

-- what is left finds what the text has
left_finds : (text : List ℕ) (n i : ℕ) → length text ≡ i + n → IsUndotted text i
    → dash_from (rfind_below 45 text i) i (drop i text) ≡ dash_of text
left_finds text zero i size free =
    let at : position_or_len (λ b. b == 46) text ≡ i = position_or_len_is (λ b. b == 46) text i 0 (omega (arith, size)) free (λ low. absurd (omega (arith, low, size))) in
    let past : nat_lt i (length text) ≡ false = grind (arith, nat_tests) in
    ap (dash_from (rfind_below 45 text i) i) (drop_all i text (omega (arith, size))) ∙ sym (rw (at, past) refl)
left_finds text (suc n) i size free =
    let low : i < length text = omega (arith, size) in
    let left = drop-cons text i 0 low in
    elim (cases_Bool (get_or text i 0 == 46)) [
      | inl dot ↦
          let at : position_or_len (λ b. b == 46) text ≡ i = position_or_len_is (λ b. b == 46) text i 0 (omega (arith, low)) free (λ _. dot) in
          let here : nat_lt i (length text) ≡ true = grind (arith, nat_tests) in
          rw (left, dot, at, here) refl
      | inr other ↦
          rw (left, other) (left_finds text n (suc i) (omega (arith, size)) (undotted_on text i free other))
    ]

-- a pass over the whole text finds it
pub walk_finds : (text : List ℕ) → dash_from None 0 text ≡ dash_of text
walk_finds text = left_finds text (length text) 0 (omega arith) (λ k low. absurd (omega (arith, low)))
