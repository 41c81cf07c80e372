use Rattle.std.proofs.Common.{◌≡◌, ◌&&◌, ℕ, List, [], ◌∷◌, ◌++◌, map, ap, sym, ◌∙◌}
use Rattle.std.specs.Prelude.{bytes_eq}
use Rattle.std.proofs.lemmas.List.{map-append}
use Rattle.audit_report.specs.Symbols.{Segments, is_subsequence, names, plain}
use Rattle.audit_report.proofs.Kept.{names-longer}
use Rattle.audit_report.proofs.symbols.names.Goals as goal

by_ends : (wanted symbol : Segments) (a : List ℕ) (xs : Segments) (l b : List ℕ) (ys : Segments) (m : List ℕ)
    → wanted ≡ a ∷ (xs ++ l ∷ []) → symbol ≡ b ∷ (ys ++ m ∷ [])
    → names (map plain wanted) symbol
    ≡ (bytes_eq (plain a) b && is_subsequence (map plain xs) ys && bytes_eq (plain l) m)
by_ends wanted symbol a xs l b ys m p q =
    ap (λ w. names (map plain w) symbol) p
    ∙ ap (names (map plain (a ∷ (xs ++ l ∷ [])))) q
    ∙ ap (λ ws. names (plain a ∷ ws) (b ∷ (ys ++ m ∷ []))) (map-append plain xs (l ∷ []))
    ∙ names-longer (plain a) (map plain xs) (plain l) b ys m

pub returns : goal.returns
returns c = c.names_between.ensures ∙ sym (by_ends _ _ _ _ _ _ _ _ c.in-Some.ensures c.in-Some-ends_of.ensures)
