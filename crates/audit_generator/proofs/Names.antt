-- Generated names are valid, and each has its own path.
use Rattle.std.proofs.Common.{◌≡◌, ℕ, ◌+◌, ◌<◌, ◌≤◌, ◌^◌, Bool, true, false, not, cond, ◌||◌, ◌==◌, List, [], ◌∷◌, ◌++◌, length, map, codes, Some, None, refl, sym, ap, ◌∙◌, arith, nat_lt, append_assoc}
use Rattle.std.specs.Prelude.{find}
use Rattle.std.specs.Char.{to_ascii_lowercase}
use Rattle.std.specs.List.{enumerate_from, list_all, list_any}
use Rattle.std.specs.Fmt.{decimal}
use Rattle.std.specs.Str.{chars, str_to_ascii_lowercase}
use Rattle.std.proofs.lemmas.Bool.{and_parts}
use Rattle.std.proofs.lemmas.Bool.Decides.{nat_tests}
use Rattle.std.proofs.lemmas.Fmt.{decimal_injective}
use Rattle.std.proofs.lemmas.List.{map-append}
use Rattle.std.proofs.lemmas.Str.{chars-IsAscii}
use lib.Utf8.{encode}
use Rattle.tame_entry.proofs.EntryLemmas.{ascii}
use Rattle.tame_names.specs.Names.{first_invalid, is_name, is_name_char, path, prefix}
use Rattle.audit_generator.specs.Packages.{name_at}
use Rattle.audit_generator.specs.Hosted.{path_at}
use Rattle.audit_generator.proofs.Printable.{decimal_passes}

-- ---- names

digit_char : (c : ℕ) → 48 ≤ c → c ≤ 57 → is_name_char c ≡ true
digit_char c low high = grind (arith, nat_tests)

digit_low : (c : ℕ) → 48 ≤ c → c ≤ 57 → nat_lt c 128 ≡ true
digit_low c low high = grind (arith, nat_tests)

none_invalid : (n : ℕ) (cs : List ℕ) → list_all is_name_char cs ≡ true → find (λ (p : ℕ × ℕ). not (is_name_char p.1)) (enumerate_from n cs) ≡ None
none_invalid n [] h = refl
none_invalid n (c ∷ cs) h =
    let (here, more) = and_parts (is_name_char c) (list_all is_name_char cs) h in
    rw here (none_invalid (n + 1) cs more)

some_bytes : (c : ℕ) (cs : List ℕ) → (length (c ∷ cs) == 0) ≡ false
some_bytes c cs = grind (arith, nat_tests)

name_chars : (k : ℕ) → k < 2 ^ 64 → chars (name_at k) ≡ name_at k
name_chars k h = chars-IsAscii (name_at k) (ascii (name_at k) (decimal_passes (λ b. nat_lt b 128) digit_low k h))

pub name_named : (k : ℕ) → k < 2 ^ 64 → is_name (name_at k) ≡ true
name_named k h =
    let none : first_invalid (name_at k) ≡ None = rw (name_chars k h) (none_invalid 0 (name_at k) (decimal_passes is_name_char digit_char k h)) in
    rw (some_bytes 103 (decimal k), none) refl

-- the path of a generated name
pub name_path : (k : ℕ) → k < 2 ^ 64 → path (name_at k) ≡ Some (path_at k)
unfolding encode
name_path k h = rw (name_named k h) refl

-- ---- paths

abbrev is_slash : ℕ → Bool
is_slash c = c == 47

abbrev has_slash : List ℕ → Bool
has_slash cs = list_any is_slash cs

-- what follows the last slash
abbrev last_part : List ℕ → List ℕ
last_part [] = []
last_part (c ∷ cs) = cond (has_slash cs) (last_part cs) (cond (is_slash c) cs (c ∷ cs))

slash_within : (xs ys : List ℕ) → has_slash (xs ++ 47 ∷ ys) ≡ true
slash_within [] ys = refl
slash_within (x ∷ xs) ys = rw (slash_within xs ys) (or_true (is_slash x))
  where
    or_true : (b : Bool) → (b || true) ≡ true
    or_true true = refl
    or_true false = refl

last_found : (xs ys : List ℕ) → has_slash ys ≡ false → last_part (xs ++ 47 ∷ ys) ≡ ys
last_found [] ys h = rw h refl
last_found (x ∷ xs) ys h = rw (slash_within xs ys) (last_found xs ys h)

digit_kept : (c : ℕ) → 48 ≤ c → c ≤ 57 → (to_ascii_lowercase c == c) ≡ true
digit_kept c low high = grind (arith, nat_tests)

digit_no_slash : (c : ℕ) → 48 ≤ c → c ≤ 57 → not (is_slash c) ≡ true
digit_no_slash c low high = grind (arith, nat_tests)

same_number : (a b : ℕ) → (a == b) ≡ true → a ≡ b
same_number a b h = grind (arith, nat_tests)

all_kept : (cs : List ℕ) → list_all (λ c. to_ascii_lowercase c == c) cs ≡ true → map to_ascii_lowercase cs ≡ cs
all_kept [] h = refl
all_kept (c ∷ cs) h =
    let (here, more) = and_parts (to_ascii_lowercase c == c) (list_all (λ c. to_ascii_lowercase c == c) cs) h in
    rw (same_number (to_ascii_lowercase c) c here, all_kept cs more) refl

none_slash : (cs : List ℕ) → list_all (λ c. not (is_slash c)) cs ≡ true → has_slash cs ≡ false
none_slash [] h = refl
none_slash (c ∷ cs) h =
    let (here, more) = and_parts (not (is_slash c)) (list_all (λ c. not (is_slash c)) cs) h in
    let other : is_slash c ≡ false = grind (arith, nat_tests) in
    rw (other, none_slash cs more) refl

name_kept : (k : ℕ) → k < 2 ^ 64 → map to_ascii_lowercase (name_at k) ≡ name_at k
name_kept k h = ap (λ cs. 103 ∷ cs) (all_kept (decimal k) (decimal_passes (λ c. to_ascii_lowercase c == c) digit_kept k h))

name_no_slash : (k : ℕ) → k < 2 ^ 64 → has_slash (name_at k) ≡ false
name_no_slash k h = none_slash (decimal k) (decimal_passes (λ c. not (is_slash c)) digit_no_slash k h)

lowered : (folders name : List ℕ) → str_to_ascii_lowercase (folders ++ codes "/" ++ name) ≡ map to_ascii_lowercase folders ++ 47 ∷ map to_ascii_lowercase name
lowered folders name =
    map-append to_ascii_lowercase (folders ++ codes "/") name ∙ ap (λ (xs : List ℕ). xs ++ map to_ascii_lowercase name) (map-append to_ascii_lowercase folders (codes "/"))
    ∙ append_assoc (map to_ascii_lowercase folders) (47 ∷ []) (map to_ascii_lowercase name)

path_ends : (k : ℕ) → k < 2 ^ 64 → last_part (path_at k) ≡ name_at k
path_ends k h =
    rw (lowered (prefix (codes "/") (name_at k)) (name_at k), name_kept k h) (last_found (map to_ascii_lowercase (prefix (codes "/") (name_at k))) (name_at k) (name_no_slash k h))

behind_first : List ℕ → List ℕ
behind_first [] = []
behind_first (c ∷ cs) = cs

-- distinct packages have distinct paths
pub path_injective : (k l : ℕ) → k < 2 ^ 64 → l < 2 ^ 64 → path_at k ≡ path_at l → k ≡ l
unfolding behind_first
path_injective k l hk hl same =
    let names : name_at k ≡ name_at l = sym (path_ends k hk) ∙ ap last_part same ∙ path_ends l hl in
    decimal_injective k l hk hl (ap behind_first names)
