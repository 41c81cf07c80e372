-- Names that are equal up to ASCII case have one path.
use Rattle.std.proofs.Common.{◌≡◌, ℕ, List, ◌++◌, length, take, drop, map, Bool, true, false, cond, IsTrue, Some, refl, sym, ap, ◌∙◌}
use Rattle.std.specs.Prelude.{◌==◌, codes, None}
use Rattle.std.specs.Char.{to_ascii_lowercase}
use Rattle.std.proofs.lemmas.List.{map-append, take-map, drop-map, length-map}
use Rattle.tame_names.specs.Names.{is_name, path, prefix, relative_path, separator}

abbrev lower : List ℕ → List ℕ
lower xs = map to_ascii_lowercase xs

abbrev folders : Bool → Bool → Bool → List ℕ → List ℕ → List ℕ
folders one two three sep name = cond one (codes "1") (cond two (codes "2") (cond three (codes "3" ++ sep ++ take 1 name) (take 2 name ++ sep ++ take 2 (drop 2 name))))

joined_lower : (xs ys zs : List ℕ) → lower (xs ++ ys ++ zs) ≡ lower xs ++ lower ys ++ lower zs
joined_lower xs ys zs = simp map-append

taken : (n : ℕ) (a b : List ℕ) → lower a ≡ lower b → lower (take n a) ≡ lower (take n b)
taken n a b h = sym (take-map to_ascii_lowercase n a) ∙ ap (take n) h ∙ take-map to_ascii_lowercase n b

dropped : (n : ℕ) (a b : List ℕ) → lower a ≡ lower b → lower (drop n a) ≡ lower (drop n b)
dropped n a b h = sym (drop-map to_ascii_lowercase n a) ∙ ap (drop n) h ∙ drop-map to_ascii_lowercase n b

folders_lower : (one two three : Bool) (sep a b : List ℕ) → lower a ≡ lower b → lower (folders one two three sep a) ≡ lower (folders one two three sep b)
folders_lower true two three sep a b h = refl
folders_lower false true three sep a b h = refl
folders_lower false false true sep a b h =
    let part : lower (take 1 a) ≡ lower (take 1 b) = taken 1 a b h in
    joined_lower (codes "3") sep (take 1 a) ∙ ap (λ x. lower (codes "3") ++ lower sep ++ x) part ∙ sym (joined_lower (codes "3") sep (take 1 b))
folders_lower false false false sep a b h =
    let front : lower (take 2 a) ≡ lower (take 2 b) = taken 2 a b h in
    let back : lower (take 2 (drop 2 a)) ≡ lower (take 2 (drop 2 b)) = taken 2 (drop 2 a) (drop 2 b) (dropped 2 a b h) in
    joined_lower (take 2 a) sep (take 2 (drop 2 a)) ∙ ap (λ x. x ++ lower sep ++ lower (take 2 (drop 2 a))) front ∙ ap (λ x. lower (take 2 b) ++ lower sep ++ x) back ∙ sym (joined_lower (take 2 b) sep (take 2 (drop 2 b)))

-- names that are equal up to ASCII case have one path
pub one_path : (a b : List ℕ) → IsTrue (is_name a) → IsTrue (is_name b) → lower a ≡ lower b → path a ≡ path b
one_path a b named_a named_b h =
    let sep = separator None in
    let count : length a ≡ length b = sym (length-map a to_ascii_lowercase) ∙ ap length h ∙ length-map b to_ascii_lowercase in
    let parts : lower (prefix sep a) ≡ lower (prefix sep b) =
    folders_lower (length a == 1) (length a == 2) (length a == 3) sep a b h ∙ ap (λ n. lower (folders (n == 1) (n == 2) (n == 3) sep b)) count in
    let whole : relative_path sep a ≡ relative_path sep b =
    joined_lower (prefix sep a) sep a ∙ ap (λ x. x ++ lower sep ++ lower a) parts ∙ ap (λ x. lower (prefix sep b) ++ lower sep ++ x) h ∙ sym (joined_lower (prefix sep b) sep b) in
    rw (named_a, named_b) (ap (λ p. Some p) whole)
