-- A tree put after the lines of its block.
use Rattle.std.proofs.Common.{◌≡◌, ℕ, codes, List, ◌++◌, Result, ap, ◌∙◌, append_assoc, subst}
use Rattle.tame_names.specs.Output.{AddsPrefix}
use Rattle.report_parts.specs.Outputs.{IsPut}
use Rattle.audit_report.specs.Shown.{tree_text, tree_title}
use Rattle.report_parts.proofs.Puts.{part_first, part_then, put_then}

-- in the order in which it is put: the lines with the title, the tree, the empty line
pieces : (lines tree : List ℕ) → ((lines ++ codes "Dependency tree:\n") ++ tree) ++ codes "\n" ≡ lines ++ tree_text tree
unfolding tree_text tree_title
pieces lines tree =
    append_assoc (lines ++ codes "Dependency tree:\n") tree (codes "\n") ∙ append_assoc lines (codes "Dependency tree:\n") (tree ++ codes "\n")

-- cut off before the tree
pub cut_in_lines : (before lines tree now : List ℕ) → AddsPrefix before (lines ++ codes "Dependency tree:\n") now → AddsPrefix before (lines ++ tree_text tree) now
cut_in_lines before lines tree now part =
    subst (λ (x : List ℕ). AddsPrefix before x now) (pieces lines tree) (part_first before _ (codes "\n") now (part_first before _ tree now part))

-- cut off in the tree
pub cut_in_tree : (before lines tree mid now : List ℕ) → mid ≡ before ++ (lines ++ codes "Dependency tree:\n") → AddsPrefix mid tree now
    → AddsPrefix before (lines ++ tree_text tree) now
cut_in_tree before lines tree mid now first part =
    subst (λ (x : List ℕ). AddsPrefix before x now) (pieces lines tree) (part_first before _ (codes "\n") now (part_then before _ tree mid now first part))

-- the empty line is put last
pub put_treed : {E : Type 0} (before lines tree mid end now : List ℕ) (r : Result Unit E) → mid ≡ before ++ (lines ++ codes "Dependency tree:\n") → end ≡ mid ++ tree
    → IsPut end (codes "\n") now r → IsPut before (lines ++ tree_text tree) now r
put_treed before lines tree mid end now r first then last =
    let both : end ≡ before ++ ((lines ++ codes "Dependency tree:\n") ++ tree) = then ∙ ap (λ (x : List ℕ). x ++ tree) first ∙ append_assoc before _ tree in
    subst (λ (x : List ℕ). IsPut before x now r) (pieces lines tree) (put_then before _ (codes "\n") end now r both last)
