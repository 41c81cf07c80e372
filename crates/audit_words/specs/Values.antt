-- The values of options, and how words are cut.
use Rattle.std.specs.Prelude.{ℕ, codes, List, [], ◌∷◌, Bool, true, false, ◌&&◌, ◌==◌, ◌+◌, ◌-◌, ◌*◌, ◌^◌, nat_le, nat_lt, bytes_eq, Option, Some, None, option_and_then, unwrap_or, if◌then◌else◌}
use Rattle.std.specs.Str.{all_ascii_digits}
use Rattle.audit_settings.specs.declared.commands.Color.{Color}
use Rattle.audit_settings.specs.declared.commands.Color.TheVariants.{Always, Auto, Never}

abbrev pub color_of : List ℕ → Option Color
color_of value =
    if bytes_eq value (codes "always") then Some Always
    else if bytes_eq value (codes "auto") then Some Auto
    else if bytes_eq value (codes "never") then Some Never
    else None

abbrev pub unless_empty : List ℕ → Option (List ℕ)
unless_empty [] = None
unless_empty (b ∷ bs) = Some (b ∷ bs)

-- the number that digits write after a number
abbrev pub value_from : ℕ → List ℕ → ℕ
value_from n [] = n
value_from n (digit ∷ digits) = value_from (10 * n + (digit - 48)) digits

-- one digit or more and nothing else, at most 2^64 - 1
abbrev pub number : List ℕ → Option ℕ
number [] = None
number (c ∷ cs) =
    if all_ascii_digits (c ∷ cs) && nat_lt (value_from 0 (c ∷ cs)) (2 ^ 64)
    then Some (value_from 0 (c ∷ cs))
    else None

-- so many packages can be made: 1 to 5,000
abbrev pub is_makeable : ℕ → Bool
is_makeable n = nat_le 1 n && nat_le n 5000

abbrev pub packages_of : List ℕ → Option ℕ
packages_of word = option_and_then (λ n. if is_makeable n then Some n else None) (number word)

-- ---- how words are cut

abbrev pub is_empty : {A : Type 0} → List A → Bool
is_empty [] = true
is_empty (x ∷ xs) = false

-- what comes after a string's beginning
abbrev pub after : List ℕ → List ℕ → Option (List ℕ)
after [] text = Some text
after (p ∷ ps) [] = None
after (p ∷ ps) (b ∷ bs) = if b == p then after ps bs else None

-- a value without the `=` that may come before it
abbrev pub without_equals : List ℕ → List ℕ
without_equals value = unwrap_or (after (codes "=") value) value

-- what comes before the first `=`
abbrev pub name_part : List ℕ → List ℕ
name_part [] = []
name_part (c ∷ cs) = if c == 61 then [] else c ∷ name_part cs

-- what comes after the first `=`, if there is one
abbrev pub joined_value : List ℕ → Option (List ℕ)
joined_value [] = None
joined_value (c ∷ cs) = if c == 61 then Some cs else joined_value cs
