-- One byte further back in a line.
use Rattle.std.proofs.Common.{◌≡◌, ℕ, ◌+◌, ◌-◌, ◌<◌, ◌≤◌, suc, List, [], ◌∷◌, length, take, drop, reverse, Bool, true, false, cond, ◌==◌, Some, None, refl, sym, ap, ◌∙◌, arith, get_or}
use Rattle.std.proofs.lemmas.List.{take_more, drop_more, length-drop, reverse-append}
use Rattle.std.proofs.lemmas.Bool.Decides.{nat_tests}
use Rattle.tame_entry.specs.Scan.{Flag, decided, flag_back, flag_from, part_flag, without_last}

-- from one place up to another
abbrev pub stretch : ℕ → ℕ → List ℕ → List ℕ
stretch from to l = take (to - from) (drop from l)

back : (l : List ℕ) (i : ℕ) → i < length l → reverse (take (i + 1) l) ≡ get_or l i 0 ∷ reverse (take i l)
back l i h = ap reverse (take_more l i 0 h) ∙ reverse-append (take i l) (get_or l i 0 ∷ [])

last : (s t : Bool) (x y z : Flag) → s ≡ false → t ≡ false → cond s x (cond t y z) ≡ z
last true t x y z h k = cc
last false true x y z h k = cc
last false false x y z h k = refl

middle : (s t : Bool) (x y z : Flag) → s ≡ false → t ≡ true → cond s x (cond t y z) ≡ y
middle true t x y z h k = cc
middle false false x y z h k = cc
middle false true x y z h k = refl

first : (s : Bool) (x y : Flag) → s ≡ true → cond s x y ≡ x
first true x y h = refl
first false x y h = cc

before_one : (n : ℕ) → 0 < n → n ≡ n - 1 + 1
before_one n h = omega (arith, h)

one_less : (n k : ℕ) → 0 < n → n ≤ k → n - 1 < k
one_less n k h w = omega (arith, h, w)

is : (b n : ℕ) → b ≡ n → (b == n) ≡ true
is b n h = ap (λ k. k == n) h ∙ same n
  where
    same : (n : ℕ) → (n == n) ≡ true
    same n = grind (arith, nat_tests)

other_brace : (b : ℕ) → b ≡ 44 → (b == 125) ≡ false
other_brace b h = ap (λ k. k == 125) h

tail : (l : List ℕ) (i : ℕ) → without_last (drop i l) ≡ stretch i (length l - 1) l
tail l i = ap (λ n. take n (drop i l)) (ap (λ k. k - 1) (length-drop i l) ∙ turned (length l) i)
  where
    turned : (n i : ℕ) → n - i - 1 ≡ n - 1 - i
    turned n i = omega arith

-- the last mark is a `}`
pub from_brace : (l : List ℕ) (n : ℕ) → 0 < n → n ≤ length l → get_or l (n - 1) 0 ≡ 125
    → flag_from (reverse (take n l)) (drop n l) ≡ flag_back (reverse (take (n - 1) l)) (stretch (n - 1) (length l - 1) l)
from_brace l n some within brace =
    let i = n - 1 in
    let h : i < length l = one_less n (length l) some within in
    ap (λ k. flag_from (reverse (take k l)) (drop k l)) (before_one n some)
    ∙ ap (λ r. flag_from r (drop (i + 1) l)) (back l i h)
    ∙ first (get_or l i 0 == 125) _ _ (is (get_or l i 0) 125 brace)
    ∙ ap (λ p. flag_back (reverse (take i l)) (without_last p)) (sym (drop_more l i 0 h))
    ∙ ap (flag_back (reverse (take i l))) (tail l i)

opened : (l : List ℕ) (n m : ℕ) → 0 < n → n ≤ length l
    → flag_back (reverse (take n l)) (stretch n m l) ≡ flag_back (get_or l (n - 1) 0 ∷ reverse (take (n - 1) l)) (stretch (n - 1 + 1) m l)
opened l n m some within =
    ap (λ k. flag_back (reverse (take k l)) (stretch k m l)) (before_one n some)
    ∙ ap (λ r. flag_back r (stretch (n - 1 + 1) m l)) (back l (n - 1) (one_less n (length l) some within))

-- a comma, whose part decides
pub comma_some : (l : List ℕ) (n m : ℕ) (flag : Flag) → 0 < n → n ≤ length l → get_or l (n - 1) 0 ≡ 44 → part_flag (stretch (n - 1 + 1) m l) ≡ Some flag
    → flag_back (reverse (take n l)) (stretch n m l) ≡ flag
comma_some l n m flag some within comma said =
    opened l n m some within
    ∙ middle (get_or l (n - 1) 0 == 125) (get_or l (n - 1) 0 == 44) _ _ _ (other_brace (get_or l (n - 1) 0) comma) (is (get_or l (n - 1) 0) 44 comma)
    ∙ ap (λ o. decided o (flag_back (reverse (take (n - 1) l)) [])) said

none_there : (l : List ℕ) (i : ℕ) → [] ≡ stretch i i l
none_there l i = ap (λ n. take n (drop i l)) (zero_is i)
  where
    zero_is : (i : ℕ) → 0 ≡ i - i
    zero_is i = omega arith

-- a comma, whose part says nothing
pub comma_none : (l : List ℕ) (n m : ℕ) → 0 < n → n ≤ length l → get_or l (n - 1) 0 ≡ 44 → part_flag (stretch (n - 1 + 1) m l) ≡ None
    → flag_back (reverse (take n l)) (stretch n m l) ≡ flag_back (reverse (take (n - 1) l)) (stretch (n - 1) (n - 1) l)
comma_none l n m some within comma said =
    opened l n m some within
    ∙ middle (get_or l (n - 1) 0 == 125) (get_or l (n - 1) 0 == 44) _ _ _ (other_brace (get_or l (n - 1) 0) comma) (is (get_or l (n - 1) 0) 44 comma)
    ∙ ap (λ o. decided o (flag_back (reverse (take (n - 1) l)) [])) said
    ∙ ap (flag_back (reverse (take (n - 1) l))) (none_there l (n - 1))

longer : (l : List ℕ) (n m : ℕ) → 0 < n → n ≤ m → m ≤ length l → get_or l (n - 1) 0 ∷ stretch (n - 1 + 1) m l ≡ stretch (n - 1) m l
longer l n m some ordered within =
    sym (ap (λ k. take k (drop (n - 1) l)) (one_more n m some ordered) ∙ ap (take (suc (m - (n - 1 + 1)))) (drop_more l (n - 1) 0 (below n m (length l) some ordered within)))
  where
    one_more : (n m : ℕ) → 0 < n → n ≤ m → m - (n - 1) ≡ suc (m - (n - 1 + 1))
    one_more n m some ordered = omega (arith, some, ordered)

    below : (n m k : ℕ) → 0 < n → n ≤ m → m ≤ k → n - 1 < k
    below n m k a b c = omega (arith, a, b, c)

-- another byte
pub back_other : (l : List ℕ) (n m : ℕ) → 0 < n → n ≤ m → m ≤ length l → (get_or l (n - 1) 0 == 125) ≡ false → (get_or l (n - 1) 0 == 44) ≡ false
    → flag_back (reverse (take n l)) (stretch n m l) ≡ flag_back (reverse (take (n - 1) l)) (stretch (n - 1) m l)
back_other l n m some ordered within brace comma =
    opened l n m some (shorter n m (length l) ordered within)
    ∙ last (get_or l (n - 1) 0 == 125) (get_or l (n - 1) 0 == 44) _ _ _ brace comma
    ∙ ap (flag_back (reverse (take (n - 1) l))) (longer l n m some ordered within)
  where
    shorter : (n m k : ℕ) → n ≤ m → m ≤ k → n ≤ k
    shorter n m k a b = omega (arith, a, b)
