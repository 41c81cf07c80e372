-- Blocks shown one after the other.
use Rattle.std.proofs.Common.{◌≡◌, ℕ, List, [], ◌∷◌, ◌++◌, Bool, ◌+◌, ◌<◌, length, take, get_or, refl, sym, ap, ◌∙◌, append_assoc, append-nil}
use Rattle.std.proofs.lemmas.Grind.{flat_map-append}
use Rattle.std.proofs.lemmas.List.{take_more}
use Rattle.std.specs.List.{flat_map}
use Rattle.audit_report.specs.Blocks.{Block}
use Rattle.audit_report.specs.Shown.{block_text, blocks_text, shown_after, shown_with}
use Rattle.audit_report.specs.declared.shown_trees.ShownTree.{ShownTree}

pub blocks_text-append : (wanted : Bool) (shown : List ShownTree) (xs ys : List Block)
    → blocks_text wanted shown (xs ++ ys) ≡ blocks_text wanted shown xs ++ blocks_text wanted (shown_after wanted shown xs) ys
blocks_text-append wanted shown [] ys = refl
blocks_text-append wanted shown (x ∷ xs) ys =
    ap (λ t. block_text wanted shown x ++ t) (blocks_text-append wanted (shown_with wanted shown x.locked) xs ys)
    ∙ sym (append_assoc (block_text wanted shown x) _ _)

pub shown_after-append : (wanted : Bool) (shown : List ShownTree) (xs ys : List Block)
    → shown_after wanted shown (xs ++ ys) ≡ shown_after wanted (shown_after wanted shown xs) ys
shown_after-append wanted shown [] ys = refl
shown_after-append wanted shown (x ∷ xs) ys = shown_after-append wanted (shown_with wanted shown x.locked) xs ys

-- the blocks of one more item
pub flat_map_more : {X : Type 0} (g : X → List Block) (xs : List X) (i : ℕ) (x : X) → i < length xs → x ≡ get_or xs i x
    → flat_map g (take (i + 1) xs) ≡ flat_map g (take i xs) ++ g x
flat_map_more g xs i x l here =
    ap (flat_map g) (take_more xs i x l)
    ∙ flat_map-append g (take i xs) (get_or xs i x ∷ [])
    ∙ ap (λ t. flat_map g (take i xs) ++ t) (append-nil (g (get_or xs i x)))
    ∙ ap (λ y. flat_map g (take i xs) ++ g y) (sym here)
