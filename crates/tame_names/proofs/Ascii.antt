-- A name is ASCII.
use Rattle.std.proofs.Common.{◌≡◌, ℕ, zero, suc, ◌+◌, ◌<◌, List, [], ◌∷◌, length, Bool, true, false, not, cond, Option, option_map, Some, None, IsTrue, refl, sym, ◌∙◌, subst, arith, lit<}
use Rattle.std.specs.Prelude.{find, is_none, ◌==◌, if◌then◌else◌}
use Rattle.std.proofs.Common.{ap}
use Rattle.std.specs.Prelude.{◌||◌}
use Rattle.std.specs.Char.{is_ascii_alphabetic}
use Rattle.std.specs.List.{enumerate_from}
use Rattle.std.specs.Str.{chars, IsAscii, IsUtf8}
use Rattle.std.proofs.lemmas.Str.{encodes-IsAscii, encodes-chars}
use Rattle.std.proofs.lemmas.Bool.Decides.{nat_tests}
use Rattle.tame_names.specs.Names.{HasCharacter, HasLength, by_characters, first_bad, first_invalid, is_char_at, is_name, is_name_char, refusal_of, strict_refusal}

below : (c : ℕ) → is_name_char c ≡ true → c < 128
below c h = grind (arith, nat_tests)

pub none_found : (b : Bool) (x : ℕ × ℕ) (rest : Option (ℕ × ℕ)) → cond (not b) (Some x) rest ≡ None → (b ≡ true) × (rest ≡ None)
none_found true x rest h = (refl, h)
none_found false x rest h = cc

valid_below : (n : ℕ) (cs : List ℕ) → find (λ (p : ℕ × ℕ). not (is_name_char p.1)) (enumerate_from n cs) ≡ None → IsAscii cs
valid_below n [] h i = lit< tt
valid_below n (c ∷ cs) h zero = below c (none_found _ _ _ h).0
valid_below n (c ∷ cs) h (suc i) = valid_below (n + 1) cs (none_found (is_name_char c) _ _ h).1 i

no_refusal : (b : Bool) (o : Option (ℕ × ℕ)) → is_none (if b then Some (HasLength 0) else option_map (λ (p : ℕ × ℕ). HasCharacter p.1 p.0) o) ≡ true → o ≡ None
no_refusal true o h = cc
no_refusal false None h = refl
no_refusal false (Some p) h = cc

-- the bytes of a name are ASCII
pub name-IsAscii : (text : List ℕ) → IsUtf8 text → IsTrue (is_name text) → IsAscii text
name-IsAscii text utf8 named =
    let ascii : IsAscii (chars text) = valid_below 0 (chars text) (no_refusal (length text == 0) (first_invalid text) named) in
    subst IsAscii (sym (encodes-IsAscii (chars text) ascii) ∙ encodes-chars text utf8) ascii

-- ---- names of cargo are names

pub char_name : (first : Bool) (c : ℕ) → cond first (is_ascii_alphabetic c || c == 95) (is_name_char c) ≡ true → is_name_char c ≡ true
char_name true c h = grind (arith, nat_tests)
char_name false c h = h

none_either : (n : ℕ) (cs : List ℕ) → find (λ (p : ℕ × ℕ). not (is_char_at p)) (enumerate_from n cs) ≡ None → find (λ (p : ℕ × ℕ). not (is_name_char p.1)) (enumerate_from n cs) ≡ None
none_either n [] h = refl
none_either n (c ∷ cs) h =
    let both = none_found (is_char_at (n, c)) (n, c) (find (λ (p : ℕ × ℕ). not (is_char_at p)) (enumerate_from (n + 1) cs)) h in
    rw (char_name (n == 0) c both.0) (none_either (n + 1) cs both.1)

pub no_bad : (limit : Option ℕ) (text : List ℕ) (o : Option (ℕ × ℕ)) → by_characters limit text o ≡ None → o ≡ None
no_bad limit text None h = refl
no_bad limit text (Some p) h = cc

pub not_first : {A : Type 0} (b : Bool) (x : A) (o : Option A) → cond b (Some x) o ≡ None → (b ≡ false) × (o ≡ None)
not_first true x o h = cc
not_first false x o h = (refl, h)

none_mapped : (o : Option (ℕ × ℕ)) → o ≡ None → option_map (λ (p : ℕ × ℕ). HasCharacter p.1 p.0) o ≡ None
none_mapped None h = refl
none_mapped (Some p) h = cc

-- what cargo doesn't refuse is a name
pub strict_named : (limit : Option ℕ) (text : List ℕ) → strict_refusal limit text ≡ None → refusal_of text ≡ None
strict_named limit text h =
    let some = not_first (length text == 0) (HasLength 0) (by_characters limit text (first_bad text)) h in
    let good : first_bad text ≡ None = no_bad limit text (first_bad text) some.1 in
    rw some.0 (none_mapped (first_invalid text) (none_either 0 (chars text) good))

pub strict_name : (limit : Option ℕ) (text : List ℕ) → strict_refusal limit text ≡ None → IsTrue (is_name text)
strict_name limit text h = ap is_none (strict_named limit text h)
