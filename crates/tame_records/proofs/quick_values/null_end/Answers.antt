use Rattle.std.proofs.Common.{◌≡◌, ℕ, ◌+◌, List, ◌∷◌, true, drop, get_or, ap, ◌∙◌, arith, rules}
use Rattle.tame_records.proofs.QuickLex.{null_at, two_bytes}
use Rattle.tame_records.proofs.quick_values.null_end.Goals as goal

pub returns-clause-value : goal.returns-clause-value
returns-clause-value c =
    let bytes = c.args.bytes.now in
    let at = c.args.at in
    let said : c.has_two.result ≡ true = search rules in
    let said_2 : c.has_two-2.result ≡ true = search rules in
    let a = c.has_two.ensures.value said in
    let b = c.has_two-2.ensures.value said_2 in
    let next : get_or bytes (at + 2 + 1) 0 ≡ 108 = b.1 in
    let same : at + 2 + 2 ≡ at + 4 = omega arith in
    let here : drop at bytes ≡ 110 ∷ 117 ∷ 108 ∷ 108 ∷ drop (at + 4) bytes =
    two_bytes bytes at 110 117 a.0 a.1 (omega arith) (omega arith) ∙ ap (λ (xs : List ℕ). 110 ∷ 117 ∷ xs) (two_bytes bytes (at + 2) 108 108 b.0 next (omega arith) (omega arith) ∙ ap (λ (m : ℕ). 108 ∷ 108 ∷ drop m bytes) same) in
    null_at bytes at (at + 4) here
