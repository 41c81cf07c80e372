-- Texts that TOML writes as they are.
use Rattle.std.proofs.Common.{◌≡◌, ℕ, ◌<◌, ◌^◌, ◌≤◌, Bool, true, false, not, ◌&&◌, ◌==◌, List, [], ◌∷◌, ◌++◌, codes, refl, arith, nat_le}
use Rattle.std.specs.List.{list_all, list_any}
use Rattle.std.specs.Fmt.{decimal}
use Rattle.std.proofs.lemmas.Bool.{and_parts}
use Rattle.std.proofs.lemmas.Bool.Decides.{nat_tests}
use Rattle.std.proofs.lemmas.List.Folds.{list_all-append}
use Rattle.std.proofs.lemmas.Fmt.{decimal_is_IsNumeral}
use Rattle.std.specs.Str.Parse.{AllDigits}
use Rattle.std.proofs.lemmas.Str.Parse.{digit_from_value}
use Rattle.audit_generator.specs.Packages.{name_at, version_text, default_source}
use Rattle.toml_writer.specs.Text.{needs_escape, quotes_after, escaped, encoding_of, basic, is_control, string_text}

-- a byte that needs no escape in any form of string, of those in names, versions and sources
abbrev pub is_simple : ℕ → Bool
is_simple c = (nat_le 43 c && nat_le c 122) && not (c == 92)

none_pass : (p : ℕ → Bool) → ((c : ℕ) → is_simple c ≡ true → p c ≡ false) → (s : List ℕ) → list_all is_simple s ≡ true → list_any p s ≡ false
none_pass p fails [] h = refl
none_pass p fails (c ∷ cs) h =
    let (here, more) = and_parts (is_simple c) (list_all is_simple cs) h in
    rw (fails c here, none_pass p fails cs more) refl

no_control : (c : ℕ) → is_simple c ≡ true → is_control c ≡ false
no_control c h = grind (arith, nat_tests)

not_backslash : (c : ℕ) → is_simple c ≡ true → (c == 92) ≡ false
not_backslash c h = grind (arith, nat_tests)

not_quote : (c : ℕ) → is_simple c ≡ true → (c == 34) ≡ false
not_quote c h = grind (arith, nat_tests)

not_line_feed : (c : ℕ) → is_simple c ≡ true → (c == 10) ≡ false
not_line_feed c h = grind (arith, nat_tests)

no_escape : (c : ℕ) → is_simple c ≡ true → needs_escape false 0 c ≡ false
unfolding needs_escape
no_escape c h = grind (arith, nat_tests)

no_quotes : (c : ℕ) → is_simple c ≡ true → quotes_after false 0 c ≡ 0
unfolding quotes_after
no_quotes c h = rw (not_quote c h) refl

escaped-simple : (s : List ℕ) → list_all is_simple s ≡ true → escaped false 0 s ≡ s
unfolding escaped
escaped-simple [] h = refl
escaped-simple (c ∷ cs) h =
    let (here, more) = and_parts (is_simple c) (list_all is_simple cs) h in
    rw (no_escape c here, no_quotes c here, escaped-simple cs more) refl

encoding-simple : (s : List ℕ) → list_all is_simple s ≡ true → encoding_of s ≡ basic
unfolding encoding_of
encoding-simple s h =
    let a = none_pass is_control no_control s h in
    let b = none_pass (λ x. x == 92) not_backslash s h in
    let c = none_pass (λ x. x == 34) not_quote s h in
    let d = none_pass (λ x. x == 10) not_line_feed s h in
    rw (a, b, c, d) refl

-- the text between quotes
pub string_text-simple : (s : List ℕ) → list_all is_simple s ≡ true → string_text s ≡ 34 ∷ s ++ 34 ∷ []
unfolding string_text
string_text-simple s h = rw (encoding-simple s h, escaped-simple s h) refl

digit_simple : (c : ℕ) → 48 ≤ c → c ≤ 57 → is_simple c ≡ true
digit_simple c low high = grind (arith, nat_tests)

digits_simple : (ds : List ℕ) → AllDigits 10 ds → list_all is_simple ds ≡ true
digits_simple [] h = refl
digits_simple (d ∷ ds) h =
    let at = digit_from_value d h.0 in
    rw (digit_simple d at.0 at.1, digits_simple ds h.1) refl

pub decimal_simple : (n : ℕ) → n < 2 ^ 64 → list_all is_simple (decimal n) ≡ true
decimal_simple n h = digits_simple (decimal n) (decimal_is_IsNumeral n h).0.1

pub name_simple : (k : ℕ) → k < 2 ^ 64 → list_all is_simple (name_at k) ≡ true
name_simple k h = decimal_simple k h

pub version_simple : (minor : ℕ) → minor < 2 ^ 64 → list_all is_simple (version_text minor) ≡ true
version_simple minor h =
    rw (list_all-append is_simple (decimal minor) (codes ".0"), decimal_simple minor h) refl

pub source_simple : list_all is_simple default_source ≡ true
source_simple = refl
