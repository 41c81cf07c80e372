-- The text of blocks, in which each name, version and source has its tree once (this project,
-- after cargo-audit).
use Rattle.std.specs.Prelude.{ℕ, codes, List, [], ◌∷◌, ◌++◌, Bool, not, ◌&&◌, bytes_eq, if◌then◌else◌}
use Rattle.std.specs.List.{list_any}
use Rattle.std.specs.Option.{option_eq}
use Rattle.audit_lock.specs.declared.resolving.Package.{Package}
use Rattle.audit_report.specs.Blocks.{Block}
use Rattle.audit_report.specs.declared.shown_trees.ShownTree.{ShownTree}

-- ---- which trees were shown

abbrev pub is_tree_of : Package → ShownTree → Bool
is_tree_of p t =
    bytes_eq t.name p.name && bytes_eq t.version p.version && option_eq bytes_eq t.source p.source

abbrev pub was_shown : List ShownTree → Package → Bool
was_shown shown p = list_any (is_tree_of p) shown

abbrev pub tree_key : Package → ShownTree
tree_key p = record { name = p.name; version = p.version; source = p.source }

-- a tree is due if trees are wanted, and this one wasn't shown before
abbrev pub is_due : Bool → List ShownTree → Package → Bool
is_due wanted shown p = wanted && not (was_shown shown p)

abbrev pub shown_with : Bool → List ShownTree → Package → List ShownTree
shown_with wanted shown p = if is_due wanted shown p then shown ++ tree_key p ∷ [] else shown

-- ---- the text, and the trees shown afterwards

unfoldable pub tree_title : List ℕ
tree_title = codes "Dependency tree:\n"

-- a tree, and an empty line
unfoldable pub tree_text : List ℕ → List ℕ
tree_text tree = tree_title ++ tree ++ codes "\n"

-- the tree if it is due, and an empty line
abbrev pub tree_lines : Bool → List ℕ → List ℕ
tree_lines due tree = if due then tree_text tree else codes "\n"

abbrev pub block_text : Bool → List ShownTree → Block → List ℕ
block_text wanted shown b = b.lines ++ tree_lines (is_due wanted shown b.locked) b.tree

abbrev pub blocks_text : Bool → List ShownTree → List Block → List ℕ
blocks_text wanted shown [] = []
blocks_text wanted shown (b ∷ bs) =
    block_text wanted shown b ++ blocks_text wanted (shown_with wanted shown b.locked) bs

abbrev pub shown_after : Bool → List ShownTree → List Block → List ShownTree
shown_after wanted shown [] = shown
shown_after wanted shown (b ∷ bs) = shown_after wanted (shown_with wanted shown b.locked) bs

-- one of these blocks is of a package's name, version and source
abbrev pub is_among : List Block → Package → Bool
is_among blocks p = list_any (λ b. is_tree_of p (tree_key b.locked)) blocks
