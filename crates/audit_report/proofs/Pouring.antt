-- Blocks put one after the other.
use Rattle.std.proofs.Common.{◌≡◌, ℕ, List, ◌++◌, Bool, ◌+◌, ◌<◌, length, take, drop, get_or, Result, sym, ap, ◌∙◌, append_assoc, subst}
use Rattle.std.proofs.lemmas.Grind.{flat_map-append}
use Rattle.std.proofs.lemmas.List.{take-append-drop}
use Rattle.std.specs.List.{flat_map}
use Rattle.tame_names.specs.Output.{AddsPrefix}
use Rattle.audit_report.specs.Blocks.{Block}
use Rattle.report_parts.specs.Outputs.{IsPut}
use Rattle.audit_report.specs.Shown.{blocks_text, shown_after}
use Rattle.audit_report.specs.declared.shown_trees.ShownTree.{ShownTree}
use Rattle.report_parts.proofs.Puts.{part_first, part_then, put_then}
use Rattle.audit_report.proofs.Showing.{blocks_text-append, flat_map_more, shown_after-append}

-- the text of the first items is the first part of the text of all
front_of : {X : Type 0} (g : X → List Block) (wanted : Bool) (xs : List X) (i : ℕ) (s : List ShownTree)
    → blocks_text wanted s (flat_map g xs) ≡ blocks_text wanted s (flat_map g (take i xs)) ++ blocks_text wanted (shown_after wanted s (flat_map g (take i xs))) (flat_map g (drop i xs))
front_of g wanted xs i s =
    ap (λ ys. blocks_text wanted s (flat_map g ys)) (sym (take-append-drop i xs))
    ∙ ap (blocks_text wanted s) (flat_map-append g (take i xs) (drop i xs))
    ∙ blocks_text-append wanted s (flat_map g (take i xs)) (flat_map g (drop i xs))

module _ {X : Type 0} (g : X → List Block) (wanted : Bool) (xs : List X) (i : ℕ) (item : X) (low : i < length xs) (here : item ≡ get_or xs i item) where
  -- the text of one more item, after that of the first ones
  text_more : (s t : List ShownTree) → t ≡ shown_after wanted s (flat_map g (take i xs))
      → blocks_text wanted s (flat_map g (take i xs)) ++ blocks_text wanted t (g item) ≡ blocks_text wanted s (flat_map g (take (i + 1) xs))
  text_more s t trees =
      ap (λ z. blocks_text wanted s (flat_map g (take i xs)) ++ blocks_text wanted z (g item)) trees
      ∙ sym (blocks_text-append wanted s (flat_map g (take i xs)) (g item))
      ∙ ap (blocks_text wanted s) (sym (flat_map_more g xs i item low here))

  pub poured_next : (s t : List ShownTree) (before a b : List ℕ) → a ≡ before ++ blocks_text wanted s (flat_map g (take i xs)) → t ≡ shown_after wanted s (flat_map g (take i xs))
      → b ≡ a ++ blocks_text wanted t (g item) → b ≡ before ++ blocks_text wanted s (flat_map g (take (i + 1) xs))
  poured_next s t before a b text trees put =
      put
      ∙ ap (λ (x : List ℕ). x ++ blocks_text wanted t (g item)) text
      ∙ append_assoc before (blocks_text wanted s (flat_map g (take i xs))) (blocks_text wanted t (g item))
      ∙ ap (λ (x : List ℕ). before ++ x) (text_more s t trees)

  pub trees_next : (s t u : List ShownTree) → t ≡ shown_after wanted s (flat_map g (take i xs)) → u ≡ shown_after wanted t (g item)
      → u ≡ shown_after wanted s (flat_map g (take (i + 1) xs))
  trees_next s t u trees more =
      more ∙ ap (λ z. shown_after wanted z (g item)) trees ∙ sym (shown_after-append wanted s (flat_map g (take i xs)) (g item))
      ∙ ap (shown_after wanted s) (sym (flat_map_more g xs i item low here))

  -- if the block of one more item was cut off, a part of the whole was put
  pub poured_cut : (s t : List ShownTree) (before a now : List ℕ) → a ≡ before ++ blocks_text wanted s (flat_map g (take i xs)) → t ≡ shown_after wanted s (flat_map g (take i xs))
      → AddsPrefix a (blocks_text wanted t (g item)) now → AddsPrefix before (blocks_text wanted s (flat_map g xs)) now
  poured_cut s t before a now text trees part =
      let P : List ℕ = blocks_text wanted s (flat_map g (take i xs)) in
      let block : List ℕ = blocks_text wanted t (g item) in
      let rest : List ℕ = blocks_text wanted (shown_after wanted s (flat_map g (take (i + 1) xs))) (flat_map g (drop (i + 1) xs)) in
      let all : (P ++ block) ++ rest ≡ blocks_text wanted s (flat_map g xs) =
      ap (λ (x : List ℕ). x ++ rest) (text_more s t trees) ∙ sym (front_of g wanted xs (i + 1) s) in
      subst (λ (x : List ℕ). AddsPrefix before x now) all (part_first before (P ++ block) rest now (part_then before P block a now text part))

-- ---- one list of blocks after another

pub both_put : {E : Type 0} (wanted : Bool) (s t : List ShownTree) (xs ys : List Block) (before mid now : List ℕ) (r : Result Unit E)
    → mid ≡ before ++ blocks_text wanted s xs → t ≡ shown_after wanted s xs → IsPut mid (blocks_text wanted t ys) now r → IsPut before (blocks_text wanted s (xs ++ ys)) now r
both_put wanted s t xs ys before mid now r first trees h =
    let same : blocks_text wanted s xs ++ blocks_text wanted t ys ≡ blocks_text wanted s (xs ++ ys) =
    ap (λ z. blocks_text wanted s xs ++ blocks_text wanted z ys) trees ∙ sym (blocks_text-append wanted s xs ys) in
    subst (λ (x : List ℕ). IsPut before x now r) same (put_then before (blocks_text wanted s xs) (blocks_text wanted t ys) mid now r first h)

pub first_cut : (wanted : Bool) (s : List ShownTree) (xs ys : List Block) (before now : List ℕ)
    → AddsPrefix before (blocks_text wanted s xs) now → AddsPrefix before (blocks_text wanted s (xs ++ ys)) now
first_cut wanted s xs ys before now part =
    subst (λ (x : List ℕ). AddsPrefix before x now) (sym (blocks_text-append wanted s xs ys)) (part_first before (blocks_text wanted s xs) _ now part)

pub both_shown : (wanted : Bool) (s t u : List ShownTree) (xs ys : List Block) → t ≡ shown_after wanted s xs → u ≡ shown_after wanted t ys → u ≡ shown_after wanted s (xs ++ ys)
both_shown wanted s t u xs ys first then = then ∙ ap (λ z. shown_after wanted z ys) first ∙ sym (shown_after-append wanted s xs ys)
