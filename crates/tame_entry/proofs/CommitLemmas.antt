-- Hex digits are ASCII, and those of 20 bytes name a commit.
use Rattle.std.proofs.Common.{◌≡◌, ℕ, zero, suc, ◌<◌, List, [], ◌∷◌, length, Bool, true, false, not, cond, Option, Some, None, refl, IsTrue, arith, lit<}
use Rattle.std.specs.Prelude.{is_none, ◌==◌, ◌&&◌}
use Rattle.std.specs.Char.{is_ascii_hexdigit}
use Rattle.std.specs.Str.{IsAscii, IsUtf8}
use Rattle.std.proofs.lemmas.Str.{IsUtf8-from_ascii}
use Rattle.std.proofs.lemmas.Bool.Decides.{nat_tests}
use Rattle.hex.specs.Hex.{IsBytes, encode_lower}
use Rattle.hex.proofs.HexLemmas.{decode_of-ok, decode_of-encode_lower}
use Rattle.tame_records.specs.Checksums.{first_bad_digit}
use Rattle.tame_records.proofs.Digits.{no_bad_digit}
use Rattle.tame_entry.specs.Commits.{is_commit}

below : (c : ℕ) → is_ascii_hexdigit c ≡ true → c < 128
below c h = grind (arith, nat_tests)

pub none_found : (b : Bool) (x : ℕ) (rest : Option ℕ) → cond (not b) (Some x) rest ≡ None → (b ≡ true) × (rest ≡ None)
none_found true x rest h = (refl, h)
none_found false x rest h = cc

digits_ascii : (text : List ℕ) → first_bad_digit text ≡ None → IsAscii text
digits_ascii [] h i = lit< tt
digits_ascii (c ∷ cs) h zero = below c (none_found (is_ascii_hexdigit c) c _ h).0
digits_ascii (c ∷ cs) h (suc i) = digits_ascii cs (none_found (is_ascii_hexdigit c) c _ h).1 i

both : (a b : Bool) → (a && b) ≡ true → (a ≡ true) × (b ≡ true)
both true b h = (refl, h)
both false b h = cc

none : (o : Option ℕ) → is_none o ≡ true → o ≡ None
none None h = refl
none (Some x) h = cc

pub commit_good : (text : List ℕ) → IsTrue (is_commit text) → first_bad_digit text ≡ None
commit_good text h = none (first_bad_digit text) (both (length text == 40) (is_none (first_bad_digit text)) h).1

pub commit_utf8 : (text : List ℕ) → IsTrue (is_commit text) → IsUtf8 text
commit_utf8 text h = IsUtf8-from_ascii text (digits_ascii text (commit_good text h))

is_none_same : (o : Option ℕ) → o ≡ None → is_none o ≡ true
is_none_same o h = rw h refl

and_true : (a b : Bool) → a ≡ true → b ≡ true → (a && b) ≡ true
and_true a b ha hb = rw (ha, hb) refl

pub lower_commit : (raw text : List ℕ) → text ≡ encode_lower raw → length raw ≡ 20 → IsBytes raw → IsTrue (is_commit text)
lower_commit raw text is len fits =
    let ok = decode_of-ok (encode_lower raw) raw (decode_of-encode_lower raw fits) in
    let long : (length (encode_lower raw) == 40) ≡ true = grind (arith, nat_tests, ok.2, len) in
    rw is (and_true _ _ long (is_none_same (first_bad_digit (encode_lower raw)) (no_bad_digit (encode_lower raw) ok.1)))
