-- Each tree is shown once.
use Rattle.std.proofs.Common.{◌≡◌, ℕ, List, [], ◌∷◌, ◌++◌, Bool, true, false, cond, not, ◌&&◌, ◌||◌, Option, Some, None, rules, refl, sym, ap, ◌∙◌, append-nil}
use Rattle.std.specs.Prelude.{bytes_eq}
use Rattle.std.specs.List.{list_any}
use Rattle.std.specs.Option.{option_eq}
use Rattle.std.proofs.Math.Bool.{or_assoc}
use Rattle.std.proofs.lemmas.Bool.{false≢true}
use Rattle.std.proofs.lemmas.List.Folds.{list_any-append}
use Rattle.std.proofs.lemmas.Slice.Eq.{bytes_eq-Decides}
use Rattle.audit_lock.specs.declared.resolving.Package.{Package}
use Rattle.audit_report.specs.Blocks.{Block}
use Rattle.audit_report.specs.Shown.{blocks_text, is_among, is_due, is_tree_of, shown_after, shown_with, tree_key, tree_lines, was_shown}
use Rattle.audit_report.specs.declared.shown_trees.ShownTree.{ShownTree}
use Rattle.audit_report.proofs.Showing.{blocks_text-append}

or-false : (b : Bool) → (b || false) ≡ b
or-false true = refl
or-false false = refl

-- ---- packages of equal name, version and source: if the tree of one was shown, so was the other's

pub bytes_same : (xs ys : List ℕ) → bytes_eq xs ys ≡ true → xs ≡ ys
bytes_same xs ys h = search (rules, bytes_eq-Decides)

option_same : (a b : Option (List ℕ)) → option_eq bytes_eq a b ≡ true → a ≡ b
option_same None None h = refl
option_same None (Some b) h = absurd (false≢true h)
option_same (Some a) None h = absurd (false≢true h)
option_same (Some a) (Some b) h = ap Some (bytes_same a b h)

pub left : (a b : Bool) → (a && b) ≡ true → a ≡ true
left true b h = refl
left false b h = h

pub right : (a b : Bool) → (a && b) ≡ true → b ≡ true
right true b h = h
right false b h = absurd (false≢true h)

-- the parts of a package that trees compare
abbrev key_shown : List ShownTree → List ℕ → List ℕ → Option (List ℕ) → Bool
key_shown shown name version source =
    list_any (λ t. bytes_eq t.name name && bytes_eq t.version version && option_eq bytes_eq t.source source) shown

shown_same : (shown : List ShownTree) (p q : Package) → is_tree_of p (tree_key q) ≡ true
    → was_shown shown p ≡ was_shown shown q
shown_same shown p q h =
    let both = left (bytes_eq q.name p.name && bytes_eq q.version p.version) (option_eq bytes_eq q.source p.source) h in
    let name : q.name ≡ p.name = bytes_same _ _ (left (bytes_eq q.name p.name) (bytes_eq q.version p.version) both) in
    let version : q.version ≡ p.version = bytes_same _ _ (right (bytes_eq q.name p.name) (bytes_eq q.version p.version) both) in
    let source : q.source ≡ p.source =
    option_same _ _ (right (bytes_eq q.name p.name && bytes_eq q.version p.version) (option_eq bytes_eq q.source p.source) h) in
    ap (λ n. key_shown shown n p.version p.source) (sym name)
    ∙ ap (λ v. key_shown shown q.name v p.source) (sym version)
    ∙ ap (λ s. key_shown shown q.name q.version s) (sym source)

-- ---- one more block

-- `is`: whether the tree of q was shown; `same`: whether p has the key of q
known : (shown : List ShownTree) (p q : Package) (same : Bool) → is_tree_of p (tree_key q) ≡ same
    → was_shown shown q ≡ true → was_shown shown p ≡ (was_shown shown p || same)
known shown p q true e h =
    let seen : was_shown shown p ≡ true = shown_same shown p q e ∙ h in rw seen
known shown p q false e h = sym (or-false (was_shown shown p))

with_key : (shown : List ShownTree) (p q : Package) (is : Bool) → was_shown shown q ≡ is
    → was_shown (cond (true && not is) (shown ++ tree_key q ∷ []) shown) p
    ≡ (was_shown shown p || is_tree_of p (tree_key q))
with_key shown p q true h = known shown p q (is_tree_of p (tree_key q)) refl h
with_key shown p q false h =
    list_any-append (is_tree_of p) shown (tree_key q ∷ [])
    ∙ ap (λ b. was_shown shown p || b) (or-false (is_tree_of p (tree_key q)))

pub shown_after-all : (shown : List ShownTree) (blocks : List Block) (p : Package)
    → was_shown (shown_after true shown blocks) p ≡ (was_shown shown p || is_among blocks p)
shown_after-all shown [] p = sym (or-false (was_shown shown p))
shown_after-all shown (b ∷ bs) p =
    shown_after-all (shown_with true shown b.locked) bs p
    ∙ ap (λ x. x || is_among bs p) (with_key shown p b.locked (was_shown shown b.locked) refl)
    ∙ or_assoc (was_shown shown p) (is_tree_of p (tree_key b.locked)) (is_among bs p)

pub block_behind : (shown : List ShownTree) (blocks : List Block) (b : Block)
    → blocks_text true shown (blocks ++ b ∷ []) ≡ blocks_text true shown blocks
    ++ (b.lines ++ tree_lines (not (was_shown shown b.locked || is_among blocks b.locked)) b.tree)
block_behind shown blocks b =
    blocks_text-append true shown blocks (b ∷ [])
    ∙ ap (λ t. blocks_text true shown blocks ++ t)
    (append-nil (b.lines ++ tree_lines (is_due true (shown_after true shown blocks) b.locked) b.tree)
    ∙ ap (λ w. b.lines ++ tree_lines (not w) b.tree) (shown_after-all shown blocks b.locked))
