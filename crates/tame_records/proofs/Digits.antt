-- 64 digits decode.
use Rattle.std.proofs.Common.{◌≡◌, ℕ, zero, suc, ◌*◌, List, [], ◌∷◌, length, Bool, true, false, not, cond, Option, Some, None, Result, Ok, Err, refl, ap, ◌∙◌, arith}
use Rattle.std.specs.Prelude.{◌↔◌, ◌&&◌, IsOk, IsTrue, ◌==◌}
use Rattle.std.specs.List.{AllPass, list_all}
use Rattle.std.specs.Result.{MatchResult, result_unwrap_or}
use Rattle.std.specs.Char.{is_ascii_hexdigit}
use Rattle.std.proofs.lemmas.Bool.Decides.{nat_tests}
use Rattle.hex.specs.Hex.{IsBytes, is_hex_digit, decode_of, decode_sized, encode_lower}
use Rattle.hex.specs.declared.error.FromHexError.{FromHexError}
use Rattle.hex.proofs.HexLemmas.{IsOk-decode_sized, decode_of-ok, decode_of-encode_lower}
use Rattle.tame_records.specs.Checksums.{chksum_of, first_bad_digit, hex_bytes, unless_bad}
use Rattle.tame_records.specs.declared.checksums.Chksum.{Chksum}
use Rattle.tame_records.specs.declared.checksums.ChksumParseError.{ChksumParseError}
use Rattle.tame_records.specs.declared.checksums.ChksumParseError.TheVariants.{InvalidLength}

is_digit : (c : ℕ) → is_ascii_hexdigit c ≡ true → is_hex_digit c ≡ true
is_digit c h = grind (arith, nat_tests)

none_found : (b : Bool) (x : ℕ) (rest : Option ℕ) → cond (not b) (Some x) rest ≡ None → (b ≡ true) × (rest ≡ None)
none_found true x rest h = (refl, h)
none_found false x rest h = cc

all_digits : (text : List ℕ) → first_bad_digit text ≡ None → AllPass is_hex_digit text
all_digits [] h k d low = absurd (omega (arith, low))
all_digits (c ∷ cs) h zero d low = is_digit c (none_found _ _ _ h).0
all_digits (c ∷ cs) h (suc k) d low = all_digits cs (none_found (is_ascii_hexdigit c) _ _ h).1 k d (omega (arith, low))

refuted : (decoded : Result (List ℕ) FromHexError) (result : Result Unit FromHexError) (out : List ℕ) (e : FromHexError) → IsOk decoded
    → MatchResult decoded (λ bytes. (result ≡ Ok tt) × (out ≡ bytes)) (λ f. result ≡ Err f) → result ≡ Err e → ⊥
refuted (Ok bytes) result out e ok h is = cc h.0
refuted (Err f) result out e ok h is = cc ok

-- decoding 64 digits into room for 32 bytes isn't refused
pub decodes : (text : List ℕ) (result : Result Unit FromHexError) (out : List ℕ) (e : FromHexError) → length text ≡ 64 → first_bad_digit text ≡ None
    → MatchResult (decode_sized text 32) (λ bytes. (result ≡ Ok tt) × (out ≡ bytes)) (λ f. result ≡ Err f) → result ≡ Err e → ⊥
decodes text result out e len good h is =
    let sized : length text ≡ 2 * 32 = omega arith in
    refuted (decode_sized text 32) result out e ((IsOk-decode_sized text 32).1 (sized, all_digits text good)) h is

a_digit : (c : ℕ) → is_hex_digit c ≡ true → is_ascii_hexdigit c ≡ true
a_digit c h = grind (arith, nat_tests)

none_bad : (b : Bool) (x : ℕ) (rest : Option ℕ) → b ≡ true → rest ≡ None → cond (not b) (Some x) rest ≡ None
none_bad true x rest h none = none
none_bad false x rest h none = cc

pub no_bad_digit : (text : List ℕ) → AllPass is_hex_digit text → first_bad_digit text ≡ None
no_bad_digit [] all = refl
no_bad_digit (c ∷ cs) all =
    none_bad (is_ascii_hexdigit c) c (first_bad_digit cs) (a_digit c (all zero zero (omega arith)))
    (no_bad_digit cs (λ k d low. all (suc k) d (omega (arith, low))))

unless_none : (bad : Option ℕ) (bytes digest : List ℕ) → bad ≡ None → bytes ≡ digest → unless_bad bad bytes ≡ Ok (record { 0 = digest })
unless_none bad bytes digest none is = rw (none, is) refl

sized : (b : Bool) (x y : Result Chksum ChksumParseError) → b ≡ true → cond b x y ≡ x
sized b x y h = rw h refl

-- the digits of a digest parse to it
pub parses : (text bytes : List ℕ) → text ≡ encode_lower bytes → length bytes ≡ 32 → IsBytes bytes → chksum_of text ≡ Ok (record { 0 = bytes })
parses text bytes is len fits =
    let back : decode_of text ≡ Ok bytes = rw is (decode_of-encode_lower bytes fits) in
    let ok = decode_of-ok text bytes back in
    let long : (length text == 64) ≡ true = grind (arith, nat_tests, ok.2, len) in
    let out : hex_bytes text ≡ bytes = ap (λ (r : Result (List ℕ) FromHexError). result_unwrap_or r []) back in
    sized _ _ _ long ∙ unless_none (first_bad_digit text) (hex_bytes text) bytes (no_bad_digit text ok.1) out

-- ---- exactly the strings of 64 digits parse

all_pass : (text : List ℕ) → first_bad_digit text ≡ None → IsTrue (list_all is_ascii_hexdigit text)
all_pass [] h = refl
all_pass (c ∷ cs) h =
    let both = none_found (is_ascii_hexdigit c) c (first_bad_digit cs) h in
    rw both.0 (all_pass cs both.1)

split : (a b : Bool) → (a && b) ≡ true → (a ≡ true) × (b ≡ true)
split true b h = (refl, h)
split false b h = cc

none_bad_of : (text : List ℕ) → IsTrue (list_all is_ascii_hexdigit text) → first_bad_digit text ≡ None
none_bad_of [] h = refl
none_bad_of (c ∷ cs) h =
    let both = split (is_ascii_hexdigit c) (list_all is_ascii_hexdigit cs) h in
    none_bad (is_ascii_hexdigit c) c (first_bad_digit cs) both.0 (none_bad_of cs both.1)

ok_then : (b : Bool) (n : ℕ) (bad : Option ℕ) (bytes : List ℕ) → IsOk (cond b (unless_bad bad bytes) (Err (InvalidLength n))) → (b ≡ true) × (bad ≡ None)
ok_then true n None bytes h = (refl, refl)
ok_then true n (Some x) bytes h = cc
ok_then false n bad bytes h = cc

then_ok : (b : Bool) (n : ℕ) (bad : Option ℕ) (bytes : List ℕ) → b ≡ true → bad ≡ None → IsOk (cond b (unless_bad bad bytes) (Err (InvalidLength n)))
then_ok b n bad bytes h none = rw (h, none) refl

pub parse_digits : (text : List ℕ) → IsOk (chksum_of text) ↔ ((length text ≡ 64) × IsTrue (list_all is_ascii_hexdigit text))
parse_digits text = (
  λ ok.
      let both = ok_then (length text == 64) (length text) (first_bad_digit text) (hex_bytes text) ok in
      (grind (arith, nat_tests), all_pass text both.1),
  λ h. then_ok (length text == 64) (length text) (first_bad_digit text) (hex_bytes text) (grind (arith, nat_tests)) (none_bad_of text h.1),
)
