use Rattle.std.proofs.Common.{◌≡◌, ℕ, ◌+◌, List, ◌∷◌, true, drop, get_or, ap, ◌∙◌, arith, rules}
use Rattle.tame_records.proofs.QuickLex.{false_at, next_byte, true_at, two_bytes}
use Rattle.tame_records.proofs.quick_values.flag_end.Goals as goal

pub returns-then-has_two-2-clause-value : goal.returns-then-has_two-2-clause-value
returns-then-has_two-2-clause-value c =
    let bytes = c.args.bytes.now in
    let at = c.args.at in
    let said : c.has_two.result ≡ true = search rules in
    let said_2 : c.has_two-then-has_two.result ≡ true = search rules in
    let a = c.has_two.ensures.value said in
    let b = c.has_two-then-has_two.ensures.value said_2 in
    let same : at + 2 + 2 ≡ at + 4 = omega arith in
    let here : drop at bytes ≡ 116 ∷ 114 ∷ 117 ∷ 101 ∷ drop (at + 4) bytes =
    two_bytes bytes at 116 114 a.0 a.1 (omega arith) (omega arith) ∙ ap (λ (xs : List ℕ). 116 ∷ 114 ∷ xs) (two_bytes bytes (at + 2) 117 101 b.0 b.1 (omega arith) (omega arith) ∙ ap (λ (m : ℕ). 117 ∷ 101 ∷ drop m bytes) same) in
    true_at bytes at (at + 4) here

pub returns-clause-value : goal.returns-clause-value
returns-clause-value c =
    let bytes = c.args.bytes.now in
    let at = c.args.at in
    let said : c.has_two-2.result ≡ true = search rules in
    let said_2 : c.has_two-3.result ≡ true = search rules in
    let a = c.has_two-2.ensures.value said in
    let b = c.has_two-3.ensures.value said_2 in
    let last : get_or bytes (at + 4) 0 ≡ 101 = omega (arith, c.byte_at.ensures.value) in
    let same : at + 2 + 2 ≡ at + 4 = omega arith in
    let same_2 : at + 4 + 1 ≡ at + 5 = omega arith in
    let end : drop (at + 2 + 2) bytes ≡ 101 ∷ drop (at + 5) bytes = ap (λ (m : ℕ). drop m bytes) same ∙ next_byte bytes (at + 4) 101 last (omega arith) ∙ ap (λ (m : ℕ). 101 ∷ drop m bytes) same_2 in
    let here : drop at bytes ≡ 102 ∷ 97 ∷ 108 ∷ 115 ∷ 101 ∷ drop (at + 5) bytes =
    two_bytes bytes at 102 97 a.0 a.1 (omega arith) (omega arith) ∙ ap (λ (xs : List ℕ). 102 ∷ 97 ∷ xs) (two_bytes bytes (at + 2) 108 115 b.0 b.1 (omega arith) (omega arith) ∙ ap (λ (xs : List ℕ). 108 ∷ 115 ∷ xs) end) in
    false_at bytes at (at + 5) here
