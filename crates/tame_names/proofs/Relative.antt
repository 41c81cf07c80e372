-- The path of a name doesn't begin with `/`, so one folder has it at one path.
use Rattle.std.proofs.Common.{◌≡◌, ℕ, ◌+◌, List, [], ◌∷◌, ◌++◌, length, take, drop, map, Bool, true, false, not, cond, Option, Some, None, option_map, refl, sym, ap, ◌∙◌, arith, codes}
use Rattle.std.specs.Prelude.{◌==◌, ◌||◌, find, is_none, nat_lt}
use Rattle.std.specs.Char.{to_ascii_lowercase}
use Rattle.std.specs.List.{enumerate_from}
use Rattle.std.specs.Str.{IsUtf8, chars}
use Rattle.std.proofs.lemmas.Bool.Decides.{nat_tests}
use Rattle.std.proofs.lemmas.Str.{chars-IsAscii}
use Rattle.tame_names.specs.Names.{IsIndexPath, HasCharacter, HasLength, first_invalid, is_name, is_name_char, relative_path, separator}
use Rattle.tame_names.specs.Paths.{begins_with_slash, ends_with_slash, join}
use Rattle.tame_names.proofs.Ascii.{name-IsAscii}

-- ---- the first byte

no_slash : (c : ℕ) → is_name_char c ≡ true → (c == 47) ≡ false
no_slash c h = grind (arith, nat_tests)

raised : (c : ℕ) → nat_lt c 65 ≡ false → (c + 32 == 47) ≡ false
raised c h = grind (arith, nat_tests)

lower_case : (s t : Bool) (c : ℕ) → nat_lt c 65 ≡ s → (c == 47) ≡ false → (cond s c (cond t (c + 32) c) == 47) ≡ false
lower_case true t c e h = h
lower_case false true c e h = raised c e
lower_case false false c e h = h

lower_no_slash : (c : ℕ) → (c == 47) ≡ false → (to_ascii_lowercase c == 47) ≡ false
lower_no_slash c h = lower_case (nat_lt c 65) (nat_lt c 91) c refl h

folders_first : (one two three : Bool) (sep : List ℕ) (c : ℕ) (cs more : List ℕ) → (c == 47) ≡ false
    → begins_with_slash (map to_ascii_lowercase (cond one (codes "1") (cond two (codes "2") (cond three (codes "3" ++ sep ++ take 1 (c ∷ cs)) (take 2 (c ∷ cs) ++ sep ++ take 2 (drop 2 (c ∷ cs))))) ++ sep ++ more)) ≡ false
folders_first true two three sep c cs more h = refl
folders_first false true three sep c cs more h = refl
folders_first false false true sep c cs more h = refl
folders_first false false false sep c cs more h = lower_no_slash c h

-- ---- what a name's test says

no_refusal : (b : Bool) (o : Option (ℕ × ℕ)) → is_none (cond b (Some (HasLength 0)) (option_map (λ (p : ℕ × ℕ). HasCharacter p.1 p.0) o)) ≡ true → (b ≡ false) × (o ≡ None)
no_refusal true o h = cc
no_refusal false None h = (refl, refl)
no_refusal false (Some p) h = cc

first_kept : (b : Bool) (x : ℕ × ℕ) (rest : Option (ℕ × ℕ)) → cond (not b) (Some x) rest ≡ None → b ≡ true
first_kept true x rest h = refl
first_kept false x rest h = cc

first_char : (c : ℕ) (cs : List ℕ) → find (λ (p : ℕ × ℕ). not (is_name_char p.1)) (enumerate_from 0 (c ∷ cs)) ≡ None → is_name_char c ≡ true
first_char c cs h = first_kept (is_name_char c) _ _ h

some_path : (b : Bool) (p q : List ℕ) → cond b (Some q) None ≡ Some p → (b ≡ true) × (q ≡ p)
some_path true p q h = (refl, cc)
some_path false p q h = cc

relative_of : (name p : List ℕ) → IsUtf8 name → is_name name ≡ true → relative_path (separator None) name ≡ p → begins_with_slash p ≡ false
relative_of [] p utf8 named is = cc
relative_of (c ∷ cs) p utf8 named is =
    let ascii = name-IsAscii (c ∷ cs) utf8 named in
    let none : first_invalid (c ∷ cs) ≡ None = (no_refusal (length (c ∷ cs) == 0) (first_invalid (c ∷ cs)) named).1 in
    let same : chars (c ∷ cs) ≡ c ∷ cs = chars-IsAscii (c ∷ cs) ascii in
    let kept : is_name_char c ≡ true = first_char c cs (ap (λ (xs : List ℕ). find (λ (q : ℕ × ℕ). not (is_name_char q.1)) (enumerate_from 0 xs)) (sym same) ∙ none) in
    ap begins_with_slash (sym is) ∙ folders_first (length (c ∷ cs) == 1) (length (c ∷ cs) == 2) (length (c ∷ cs) == 3) (separator None) c cs (c ∷ cs) (no_slash c kept)

pub path_relative : (p : List ℕ) → IsIndexPath p → begins_with_slash p ≡ false
path_relative p h =
    let parts = some_path (is_name h.0) p (relative_path (separator None) h.0) h.2 in
    relative_of h.0 p h.1 parts.0 parts.1

-- ---- one path below a folder

same_behind : (xs ys zs : List ℕ) → xs ++ ys ≡ xs ++ zs → ys ≡ zs
same_behind [] ys zs h = h
same_behind (x ∷ xs) ys zs h = same_behind xs ys zs (ap (drop 1) h)

join_case : (empty first second slash : Bool) (folder p q : List ℕ) → empty ≡ false → first ≡ false → second ≡ false
    → cond (empty || first) p (cond slash (folder ++ p) (folder ++ 47 ∷ p)) ≡ cond (empty || second) q (cond slash (folder ++ q) (folder ++ 47 ∷ q)) → p ≡ q
join_case true first second slash folder p q he hf hs h = cc
join_case false true second slash folder p q he hf hs h = cc
join_case false false true slash folder p q he hf hs h = cc
join_case false false false true folder p q he hf hs h = same_behind folder p q h
join_case false false false false folder p q he hf hs h = ap (drop 1) (same_behind folder (47 ∷ p) (47 ∷ q) h)

-- two relative paths that are the same path below a folder are one path
pub join_same : (folder p q : List ℕ) → (length folder == 0) ≡ false → begins_with_slash p ≡ false → begins_with_slash q ≡ false → join folder p ≡ join folder q → p ≡ q
join_same folder p q some hp hq h = join_case (length folder == 0) (begins_with_slash p) (begins_with_slash q) (ends_with_slash folder) folder p q some hp hq h
