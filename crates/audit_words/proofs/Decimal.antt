-- Numbers from their decimal digits.
use Rattle.std.proofs.Common.{◌≡◌, ℕ, ◌<◌, ◌+◌, ◌-◌, ◌*◌, ◌^◌, List, [], ◌∷◌, ◌++◌, Some, refl, sym}
use Rattle.std.specs.Fmt.{decimal}
use Rattle.std.proofs.lemmas.Fmt.{decimal_nonempty, digits_decimal, digits_value-decimal}
use Rattle.audit_words.specs.Values.{number, value_from}
use Rattle.audit_words.proofs.Numbers.{digits_model, number_ok}

pub number-decimal : (n : ℕ) → n < 2 ^ 64 → number (decimal n) ≡ Some n
number-decimal n h =
    let value : value_from 0 (decimal n) ≡ n = digits_value-decimal digits_model n h in
    let fits : value_from 0 (decimal n) < 2 ^ 64 = rw value h in
    sym (number_ok (decimal n) n (digits_decimal digits_model n h) (decimal_nonempty n h) fits (sym value))

value-behind : (n : ℕ) (digits : List ℕ) (digit : ℕ) → value_from n (digits ++ digit ∷ []) ≡ 10 * value_from n digits + (digit - 48)
value-behind n [] digit = refl
value-behind n (d ∷ ds) digit = value-behind (10 * n + (d - 48)) ds digit

pub digit-behind : (digits : List ℕ) (digit : ℕ) → value_from 0 (digits ++ digit ∷ []) ≡ 10 * value_from 0 digits + (digit - 48)
digit-behind = value-behind 0
