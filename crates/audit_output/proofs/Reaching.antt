-- Texts that a loop puts one after the other.
use Rattle.std.proofs.Common.{◌≡◌, ℕ, List, [], ◌++◌, Result, sym, ap, ◌∙◌, subst, append_assoc, append-nil}
use Rattle.std.specs.Prelude.{IsErr}
use Rattle.tame_names.specs.Output.{AddsPrefix}
use Rattle.report_parts.specs.Outputs.{IsPut}
use Rattle.report_parts.proofs.Puts.{if_err, part_first, part_then, put_none, put_then}

-- what was put so far and what is left are the whole text
pub record IsReached (before whole now left : List ℕ) : Type 0 where
  pub put : List ℕ
  pub so_far : now ≡ before ++ put
  pub all : whole ≡ put ++ left

-- the next text was put
pub reached_next : (before whole now left text rest new : List ℕ) → IsReached before whole now left → left ≡ text ++ rest → new ≡ now ++ text → IsReached before whole new rest
reached_next before whole now left text rest new h next is = record {
  put = h.put ++ text;
  so_far = is ∙ ap (λ (xs : List ℕ). xs ++ text) h.so_far ∙ append_assoc before h.put text;
  all = h.all ∙ ap (λ (xs : List ℕ). h.put ++ xs) next ∙ sym (append_assoc h.put text rest);
}

-- nothing is left
pub reached_all : {E : Type 0} (before whole now left : List ℕ) (r : Result Unit E) → IsReached before whole now left → left ≡ [] → IsPut before whole now r
reached_all {E = E} before whole now left r h none =
    let P : List ℕ → Type 0 = λ xs. IsPut {E = E} before xs now r in
    let all : h.put ≡ whole = sym (h.all ∙ ap (λ (xs : List ℕ). h.put ++ xs) none ∙ append-nil h.put) in
    subst P (append-nil h.put ∙ all) (put_then before h.put [] now now r h.so_far (put_none now r))

-- a part of the next text was put
pub reached_part : {E F : Type 0} (before whole now left text rest new : List ℕ) (r : Result Unit E) (s : Result Unit F) → IsReached before whole now left → left ≡ text ++ rest → IsPut now text new r → IsErr s
    → IsPut before whole new s
reached_part before whole now left text rest new r s h next is failed =
    let P : List ℕ → Type 0 = λ xs. AddsPrefix before xs new in
    record {
      whole = if_err s _ failed;
      part = subst P (ap (λ (xs : List ℕ). h.put ++ xs) (sym next) ∙ sym h.all) (part_then before h.put (text ++ rest) now new h.so_far (part_first now text rest new is.part));
    }
