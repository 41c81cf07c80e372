-- How deep values nest.
use Rattle.std.proofs.Common.{◌≤◌, max, ◌+◌, ℕ, suc, List, [], ◌∷◌, ◌++◌, map, Bool, true, false, Option, Some, None, arith}
use Rattle.std.specs.List.{flat_map}
use Rattle.json.specs.Json.{Json, string}
use Rattle.json.specs.Tree.{depth, items_depth, members_depth}
use Rattle.report_parts.specs.Values.{array_of, count_or_null, items_of, member_if, members_of, text_or_null, texts}

-- ---- members and items of bounded depth

pub both : (a b n : ℕ) → a ≤ n → b ≤ n → max a b ≤ n
both a b n h k = omega (arith, h, k)

pub zero_le : (n : ℕ) → 0 ≤ n
zero_le n = omega arith

pub members_both : (n : ℕ) (xs ys : List (List ℕ × Json))
    → members_depth (members_of xs) ≤ n → members_depth (members_of ys) ≤ n → members_depth (members_of (xs ++ ys)) ≤ n
members_both n [] ys h k = k
members_both n (x ∷ xs) ys h k = omega (arith, h, members_both n xs ys (omega (arith, h)) k)

pub items_both : (n : ℕ) (xs ys : List Json)
    → items_depth (items_of xs) ≤ n → items_depth (items_of ys) ≤ n → items_depth (items_of (xs ++ ys)) ≤ n
items_both n [] ys h k = k
items_both n (x ∷ xs) ys h k = omega (arith, h, items_both n xs ys (omega (arith, h)) k)

pub items_within : {X : Type 0} (n : ℕ) (g : X → List Json) → ((x : X) → items_depth (items_of (g x)) ≤ n)
    → (xs : List X) → items_depth (items_of (flat_map g xs)) ≤ n
items_within n g h [] = omega arith
items_within n g h (x ∷ xs) = items_both n (g x) (flat_map g xs) (h x) (items_within n g h xs)

pub le_suc : (m n : ℕ) → m ≤ n → suc m ≤ n + 1
le_suc m n h = omega (arith, h)

-- ---- the parts

pub text_within : (t : Option (List ℕ)) → depth (text_or_null t) ≤ 0
text_within None = omega arith
text_within (Some t) = omega arith

pub count_within : (n : Option ℕ) → depth (count_or_null n) ≤ 0
count_within None = omega arith
count_within (Some n) = omega arith

pub texts_items : (ts : List (List ℕ)) → items_depth (items_of (map string ts)) ≤ 0
texts_items [] = omega arith
texts_items (t ∷ ts) = omega (arith, texts_items ts)

pub texts_within : (ts : List (List ℕ)) → depth (texts ts) ≤ 1
texts_within ts = omega (arith, texts_items ts)

pub low : 0 ≤ 0
low = omega arith

pub up : (j : Json) (n k : ℕ) → n ≤ k → depth j ≤ n → depth j ≤ k
up j n k h d = omega (arith, h, d)

pub array_within : (n : ℕ) (js : List Json) → items_depth (items_of js) ≤ n → depth (array_of js) ≤ n + 1
array_within n js h = omega (arith, h)

pub member_if_within : (n : ℕ) (stands : Bool) (k : List ℕ) (j : Json) → depth j ≤ n → members_depth (members_of (member_if stands k j)) ≤ n
member_if_within n true k j h = omega (arith, h)
member_if_within n false k j h = omega arith
