-- Paths of a registry: the text after the last slash, and paths that are different.
use Rattle.std.proofs.Common.{◌≡◌, ℕ, zero, suc, ◌+◌, ◌-◌, ◌<◌, ◌≤◌, ◌==◌, List, [], ◌∷◌, ◌++◌, length, map, take, drop, find, not, is_none, option_map, option_and_then, IsTrue, chars, IsUtf8, IsAscii, nat_eq, codes, bytes_eq, get_or, Bool, true, false, cond, Option, Some, None, refl, sym, ap, ◌∙◌, arith, subst, lit<}
use Rattle.std.specs.Prelude.{◌&&◌, nat_lt}
use Rattle.std.specs.Char.{to_ascii_lowercase}
use Rattle.std.specs.List.{enumerate_from, ends_with}
use Rattle.std.proofs.lemmas.Bool.{false≢true}
use Rattle.std.proofs.lemmas.Str.{chars-IsAscii, encodes-IsAscii}
use Rattle.tame_names.proofs.Ascii.{name-IsAscii, none_found}
use Rattle.tame_names.proofs.Relative.{path_relative}
use Rattle.tame_local.specs.CrateFiles.{Lacks, components, crate_file, dash_of, ending, parted, stem_components}
use Rattle.tame_local.proofs.Walked.{dash_from, walk_finds}
use Rattle.std.proofs.Math.Dec.{eqb-suc-zero}
use Rattle.std.proofs.lemmas.Bool.{false_from_ne_true}
use Rattle.std.proofs.lemmas.Bool.Decides.{nat_tests}
use Rattle.std.proofs.lemmas.List.{append_assoc, append-nil, map-append, length-append, get_or-append_right}
use Rattle.std.proofs.lemmas.Slice.Eq.{bytes_eq-Decides}
use Rattle.tame_names.specs.Names.{HasCharacter, HasLength, first_invalid, is_name, is_name_char, prefix, relative_path, separator}
use Rattle.tame_names.specs.Paths.{begins_with_slash, cut_at_last, ends_with_slash, file_name, is_same, join, parent, parent_of_plain, plain_path}
use Rattle.tame_names.specs.Pieces.{without_end}

no_and : (t : Bool) → (t && false) ≡ false
no_and true = refl
no_and false = refl

pub some_behind : (xs y : List ℕ) (b : ℕ) → (length (xs ++ b ∷ y) == 0) ≡ false
some_behind [] y b = eqb-suc-zero (length y)
some_behind (x ∷ xs) y b = eqb-suc-zero (length (xs ++ b ∷ y))

-- ---- the last slash

cut_none : (y : List ℕ) → Lacks 47 y → cut_at_last 47 y ≡ None
cut_none [] h = refl
cut_none (b ∷ bs) h = rw (h.0, cut_none bs h.1) refl

pub cut_behind : (xs y : List ℕ) → Lacks 47 y → cut_at_last 47 (xs ++ 47 ∷ y) ≡ Some (xs, y)
cut_behind [] y h = rw (cut_none y h) refl
cut_behind (x ∷ xs) y h = rw (cut_behind xs y h) refl

-- ---- paths that end with no slash

kept : (y : List ℕ) → Lacks 47 y → without_end 47 y ≡ y
kept [] h = refl
kept (b ∷ bs) h = rw h.0 (ap (λ (xs : List ℕ). b ∷ xs) (kept bs h.1))

kept_first : (y : List ℕ) → Lacks 47 y → 0 < length y → without_end 47 (47 ∷ y) ≡ 47 ∷ y
kept_first [] h some = absurd (omega (arith, some))
kept_first (c ∷ cs) h some = rw (kept (c ∷ cs) h, eqb-suc-zero (length cs)) refl

kept_behind : (xs y : List ℕ) → Lacks 47 y → 0 < length y → without_end 47 (xs ++ 47 ∷ y) ≡ xs ++ 47 ∷ y
kept_behind [] y h some = kept_first y h some
kept_behind (x ∷ xs) y h some =
    rw (kept_behind xs y h some, some_behind xs y 47, no_and (x == 47)) refl

pub plain_behind : (xs y : List ℕ) → Lacks 47 y → 0 < length y → plain_path (xs ++ 47 ∷ y) ≡ xs ++ 47 ∷ y
plain_behind [] y h some = ap (λ (ys : List ℕ). 47 ∷ ys) (kept y h)
plain_behind (x ∷ xs) y h some = ap (λ (ys : List ℕ). x ∷ ys) (kept_behind xs y h some)

pub name_behind : (xs y : List ℕ) → Lacks 47 y → 0 < length y → file_name (xs ++ 47 ∷ y) ≡ y
name_behind xs y h some = rw (plain_behind xs y h some, cut_behind xs y h) refl

-- ---- texts that differ

pub differ : (xs ys : List ℕ) → (xs ≡ ys → ⊥) → bytes_eq xs ys ≡ false
differ xs ys h = false_from_ne_true _ (λ e. h ((bytes_eq-Decides xs ys).0 e))

pub lacking : (n : ℕ) (xs ys : List ℕ) (zs : List ℕ) → Lacks n xs → xs ≡ ys ++ n ∷ zs → ⊥
lacking n [] [] zs h e = cc
lacking n [] (y ∷ ys) zs h e = cc
lacking n (x ∷ xs) [] zs h e =
    let same : x ≡ n = cc in
    let self : (n == n) ≡ true = grind (arith, nat_tests) in
    let other : (n == n) ≡ false = ap (λ m. m == n) (sym same) ∙ h.0 in
    cc
lacking n (x ∷ xs) (y ∷ ys) zs h e =
    let rest : xs ≡ ys ++ n ∷ zs = cc in
    lacking n xs ys zs h.1 rest

-- ---- a folder, and what is in it

pub joined : (r y : List ℕ) → 0 < length r → ends_with_slash r ≡ false → begins_with_slash y ≡ false → join r y ≡ r ++ 47 ∷ y
joined [] y some plain first = absurd (omega (arith, some))
joined (b ∷ bs) y some plain first = rw (eqb-suc-zero (length bs), first, plain) refl

pub parent_behind : (r y : List ℕ) → 0 < length r → Lacks 47 y → 0 < length y → parent (r ++ 47 ∷ y) ≡ Some r
parent_behind [] y some h long = absurd (omega (arith, some))
parent_behind (b ∷ bs) y some h long =
    let r : List ℕ = b ∷ bs in
    let other : bytes_eq (r ++ 47 ∷ y) (codes "/") ≡ false = differ (r ++ 47 ∷ y) (codes "/") (λ e.
    let size : length (r ++ 47 ∷ y) ≡ 1 = ap length e in
    let whole : length (r ++ 47 ∷ y) ≡ length r + length (47 ∷ y) = length-append r (47 ∷ y) in
    omega (arith, size, whole)) in
    ap parent_of_plain (plain_behind r y h long) ∙ plain_parent r y (some_behind r y 47) other (cut_behind r y h) (eqb-suc-zero (length bs))
  where
    plain_parent : (r y : List ℕ) → (length (r ++ 47 ∷ y) == 0) ≡ false → bytes_eq (r ++ 47 ∷ y) (codes "/") ≡ false → cut_at_last 47 (r ++ 47 ∷ y) ≡ Some (r, y)
        → (length r == 0) ≡ false → parent_of_plain (r ++ 47 ∷ y) ≡ Some r
    plain_parent r y long other cut some = rw (long, other, cut, some) refl

pub last_behind : (r : List ℕ) (y : List ℕ) (k : ℕ) → length y ≡ suc k → ends_with_slash (r ++ y) ≡ (get_or y k 0 == 47)
last_behind r y k size =
    let whole : length (r ++ y) ≡ length r + length y = length-append r y in
    let long : nat_lt 0 (length (r ++ y)) ≡ true = grind (arith, nat_tests, whole, size) in
    let place : length (r ++ y) - 1 - length r ≡ k = omega (arith, whole, size) in
    let low : length r ≤ length (r ++ y) - 1 = omega (arith, whole, size) in
    rw long (ap (λ b. b == 47) (get_or-append_right r y (length r) (length (r ++ y) - 1) 0 refl low ∙ ap (λ n. get_or y n 0) place))

pub index_ends : (r : List ℕ) → ends_with_slash (r ++ 47 ∷ codes "index") ≡ false
index_ends r = last_behind r (47 ∷ codes "index") 5 refl

-- ---- the path of a name in an index

abbrev pub lower : List ℕ → List ℕ
lower = map to_ascii_lowercase

slash_ascii : IsAscii (47 ∷ [])
slash_ascii zero = lit< tt
slash_ascii (suc i) = lit< tt

slash : separator None ≡ 47 ∷ []
slash = sym (append-nil (separator None)) ∙ encodes-IsAscii (47 ∷ []) slash_ascii

pub relative_parts : (name : List ℕ) → relative_path (separator None) name ≡ lower (prefix (47 ∷ []) name) ++ 47 ∷ lower name
relative_parts name = ap (λ sep. relative_path sep name) slash ∙ ap lower (append_assoc (prefix (47 ∷ []) name) (47 ∷ []) name) ∙ map-append to_ascii_lowercase (prefix (47 ∷ []) name) (47 ∷ name)

-- ---- bytes that names lack

pub lacks_both : (n : ℕ) (xs ys : List ℕ) → Lacks n xs → Lacks n ys → Lacks n (xs ++ ys)
lacks_both n [] ys h g = g
lacks_both n (x ∷ xs) ys h g = (h.0, lacks_both n xs ys h.1 g)

pub lacks_part : (n k : ℕ) (xs : List ℕ) → Lacks n xs → Lacks n (take k xs)
lacks_part n zero xs h = tt
lacks_part n (suc k) [] h = tt
lacks_part n (suc k) (x ∷ xs) h = (h.0, lacks_part n k xs h.1)

found_lacks : (n m : ℕ) (cs : List ℕ) → ((c : ℕ) → is_name_char c ≡ true → (c == n) ≡ false)
    → find (λ (p : ℕ × ℕ). not (is_name_char p.1)) (enumerate_from m cs) ≡ None → Lacks n cs
found_lacks n m [] other h = tt
found_lacks n m (c ∷ cs) other h =
    let found = none_found (is_name_char c) _ _ h in
    (other c found.0, found_lacks n (m + 1) cs other found.1)

unrefused : (b : Bool) (o : Option (ℕ × ℕ)) → is_none (cond b (Some (HasLength 0)) (option_map (λ (p : ℕ × ℕ). HasCharacter p.1 p.0) o)) ≡ true → (b ≡ false) × (o ≡ None)
unrefused true o h = cc
unrefused false None h = (refl, refl)
unrefused false (Some p) h = cc

pub name_lacks : (n : ℕ) (text : List ℕ) → ((c : ℕ) → is_name_char c ≡ true → (c == n) ≡ false) → IsUtf8 text → IsTrue (is_name text) → Lacks n text
name_lacks n text other utf8 named =
    subst (Lacks n) (chars-IsAscii text (name-IsAscii text utf8 named)) (found_lacks n 0 (chars text) other (unrefused (length text == 0) (first_invalid text) named).1)

pub name_long : (text : List ℕ) → IsTrue (is_name text) → 0 < length text
name_long [] named = absurd (false≢true named)
name_long (c ∷ cs) named = omega arith

pub no_dot : (c : ℕ) → is_name_char c ≡ true → (c == 46) ≡ false
no_dot c h = grind (arith, nat_tests)

pub no_slash : (c : ℕ) → is_name_char c ≡ true → (c == 47) ≡ false
no_slash c h = grind (arith, nat_tests)

raised : (n c : ℕ) → n < 97 → nat_lt c 65 ≡ false → (c + 32 == n) ≡ false
raised n c low h = grind (arith, nat_tests)

lower_case : (n : ℕ) (s t : Bool) (c : ℕ) → n < 97 → nat_lt c 65 ≡ s → (c == n) ≡ false → (cond s c (cond t (c + 32) c) == n) ≡ false
lower_case n true t c low e h = h
lower_case n false true c low e h = raised n c low e
lower_case n false false c low e h = h

pub lower_lacks : (n : ℕ) (cs : List ℕ) → n < 97 → Lacks n cs → Lacks n (lower cs)
lower_lacks n [] low h = tt
lower_lacks n (c ∷ cs) low h = (lower_case n (nat_lt c 65) (nat_lt c 91) c low refl h.0, lower_lacks n cs low h.1)

pub named_path : (name : List ℕ) → IsUtf8 name → IsTrue (is_name name) → begins_with_slash (relative_path (separator None) name) ≡ false
named_path name utf8 named = path_relative (relative_path (separator None) name) (name, utf8, rw named refl)

-- ---- a registry's paths

pub index_path : (r name : List ℕ) → IsUtf8 name → IsTrue (is_name name)
    → join (r ++ 47 ∷ codes "index") (relative_path (separator None) name) ≡ r ++ 47 ∷ (codes "index" ++ 47 ∷ (lower (prefix (47 ∷ []) name) ++ 47 ∷ lower name))
index_path r name utf8 named =
    let index : List ℕ = r ++ 47 ∷ codes "index" in
    let whole : length index ≡ length r + length (47 ∷ codes "index") = length-append r (47 ∷ codes "index") in
    joined index (relative_path (separator None) name) (omega (arith, whole)) (index_ends r) (named_path name utf8 named)
    ∙ append_assoc r (47 ∷ codes "index") (47 ∷ relative_path (separator None) name)
    ∙ ap (λ (rel : List ℕ). r ++ 47 ∷ (codes "index" ++ 47 ∷ rel)) (relative_parts name)

-- the folder of an index file
abbrev pub index_folder : List ℕ → List ℕ → List ℕ
index_folder r name = r ++ 47 ∷ (codes "index" ++ 47 ∷ lower (prefix (47 ∷ []) name))

pub index_parts : (r name : List ℕ) → r ++ 47 ∷ (codes "index" ++ 47 ∷ (lower (prefix (47 ∷ []) name) ++ 47 ∷ lower name)) ≡ index_folder r name ++ 47 ∷ lower name
index_parts r name = sym (append_assoc r (47 ∷ (codes "index" ++ 47 ∷ lower (prefix (47 ∷ []) name))) (47 ∷ lower name))

pub same_behind : (xs ys zs : List ℕ) → xs ++ ys ≡ xs ++ zs → ys ≡ zs
same_behind [] ys zs h = h
same_behind (x ∷ xs) ys zs h = same_behind xs ys zs (ap (drop 1) h)

pub same_in : (r x y : List ℕ) → r ++ 47 ∷ x ≡ r ++ 47 ∷ y → x ≡ y
same_in r x y h = ap (drop 1) (same_behind r (47 ∷ x) (47 ∷ y) h)

-- two paths without slashes at their ends that differ
pub apart : (p q : List ℕ) → plain_path p ≡ p → plain_path q ≡ q → (p ≡ q → ⊥) → is_same p q ≡ false
apart p q hp hq h = differ (plain_path p) (plain_path q) (λ e. h (sym hp ∙ e ∙ hq))

pub same_paths : (p q : List ℕ) → plain_path p ≡ p → plain_path q ≡ q → is_same p q ≡ true → p ≡ q
same_paths p q hp hq same = sym hp ∙ (bytes_eq-Decides (plain_path p) (plain_path q)).0 same ∙ hq

-- ---- crate files

pub file_lacks : (name version : List ℕ) → Lacks 47 name → Lacks 47 version → Lacks 47 (crate_file name version)
file_lacks name version hn hv = lacks_both 47 name (45 ∷ (version ++ ending)) hn (refl, lacks_both 47 version ending hv (refl, (refl, (refl, (refl, (refl, (refl, tt)))))))

pub file_long : (name version : List ℕ) → 0 < length (crate_file name version)
file_long [] version = omega arith
file_long (c ∷ cs) version = omega arith

pub file_no_index : (name version : List ℕ) → crate_file name version ≡ codes "index" → ⊥
file_no_index name version e = lacking 45 (codes "index") name (version ++ ending) (refl, (refl, (refl, (refl, (refl, tt))))) (sym e)

-- a text without a dot is no crate file's name
no_dash : (last : Option ℕ) (at : ℕ) (bs : List ℕ) → Lacks 46 bs → dash_from last at bs ≡ None
no_dash last at [] h = refl
no_dash last at (b ∷ bs) h = rw h.0 (no_dash (cond (b == 45) (Some at) last) (suc at) bs h.1)

no_dash_of : (bs : List ℕ) → Lacks 46 bs → dash_of bs ≡ None
no_dash_of bs h = sym (walk_finds bs) ∙ no_dash None 0 bs h

pub undotted_no_file : (bs : List ℕ) → Lacks 46 bs → components bs ≡ None
undotted_no_file bs h = stem_case (ends_with nat_eq bs ending)
  where
    stem_case : (t : Bool) → option_and_then stem_components (cond t (Some (take (length bs - 6) bs)) None) ≡ None
    stem_case false = refl
    stem_case true = ap (option_map (parted (take (length bs - 6) bs))) (no_dash_of (take (length bs - 6) bs) (lacks_part 46 (length bs - 6) bs h))
