-- What is printed for binaries, one after the other.
use Rattle.std.proofs.Common.{◌≡◌, ◌<◌, ◌≤◌, ◌+◌, ℕ, List, [], ◌∷◌, Bool, length, drop, get_or, refl, sym, ap, ◌∙◌, arith}
use Rattle.std.proofs.lemmas.List.{drop_all, drop_more}
use Rattle.audit_binaries.specs.declared.answers.BinaryAnswer.{BinaryAnswer}
use Rattle.audit_report.specs.declared.presenters.Presenter.{Presenter}
use Rattle.audit_output.specs.BinaryOutputs.{binaries_printed, binary_printed, in_front, with_trees}
use Rattle.audit_output.specs.Outputs.{Shown}

-- the next one, and what is left
pub printed_next : (v : Bool) (s : Shown) (p next : Presenter) (paths : List (List ℕ)) (i : ℕ) (answers : List BinaryAnswer) (path : List ℕ) (a : BinaryAnswer) (left : List BinaryAnswer)
    → i < length paths → path ≡ get_or paths i path → answers ≡ a ∷ left → next ≡ with_trees p (binary_printed v s p path a).trees
    → binaries_printed v s p (drop i paths) answers ≡ in_front (binary_printed v s p path a) (binaries_printed v s next (drop (i + 1) paths) left)
printed_next v s p next paths i answers path a left low is more shown =
    ap (λ (ps : List (List ℕ)). binaries_printed v s p ps answers) (drop_more paths i path low ∙ ap (λ (x : List ℕ). x ∷ drop (i + 1) paths) (sym is))
    ∙ ap (λ (xs : List BinaryAnswer). binaries_printed v s p (path ∷ drop (i + 1) paths) xs) more
    ∙ ap (λ (q : Presenter). in_front (binary_printed v s p path a) (binaries_printed v s q (drop (i + 1) paths) left)) (sym shown)

-- nothing is printed without an answer
pub printed_none : (v : Bool) (s : Shown) (p : Presenter) (paths : List (List ℕ)) (answers : List BinaryAnswer) → length answers ≡ 0 → binaries_printed v s p paths answers ≡ record { out = []; err = [] }
printed_none v s p [] answers none = refl
printed_none v s p (path ∷ paths) [] none = refl
printed_none v s p (path ∷ paths) (a ∷ answers) none = absurd (omega (arith, none))

-- nothing is printed without a path
pub printed_end : (v : Bool) (s : Shown) (p : Presenter) (paths : List (List ℕ)) (i : ℕ) (answers : List BinaryAnswer) → length paths ≤ i → binaries_printed v s p (drop i paths) answers ≡ record { out = []; err = [] }
printed_end v s p paths i answers end = ap (λ (ps : List (List ℕ)). binaries_printed v s p ps answers) (drop_all i paths end)
