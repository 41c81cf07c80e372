-- A revision of honest text is named as it is.
use Rattle.std.proofs.Common.{◌≡◌, ℕ, zero, suc, ◌<◌, ◌≤◌, lit<, List, [], ◌∷◌, ◌++◌, Bool, true, false, not, cond, length, Some, IsTrue, refl, ap, ◌∙◌, arith}
use Rattle.std.specs.Prelude.{◌==◌, ◌&&◌, nat_le}
use Rattle.std.specs.Char.{is_whitespace}
use Rattle.std.specs.List.{list_all}
use Rattle.std.specs.Str.{IsAscii, drop_trailing_whitespace, encode_utf8_all, skip_leading_whitespace, trim, trim_end, trim_start}
use Rattle.std.proofs.lemmas.Bool.Decides.{nat_tests}
use Rattle.std.proofs.lemmas.Str.{chars-IsAscii, encode_ascii}
use Rattle.http_header.specs.FieldValue.{is_visible_text}
use Rattle.http_header.specs.Token.{is_visible_or_blank}
use Rattle.tame_names.specs.Pieces.{ends_with}
use Rattle.tame_entry.specs.Revision.{is_honest_text, revision_text}
use Rattle.tame_entry.specs.declared.revisions.OwnedRevision.{OwnedRevision}
use Rattle.tame_entry.specs.declared.revisions.OwnedRevision.TheVariants.{Etag, LastModified}
use Rattle.tame_sparse.specs.Named.{named_http}

-- each byte is one of 32 to 126
abbrev Printed : List ℕ → Type 0
Printed [] = Unit {0}
Printed (b ∷ bs) = (32 ≤ b) × (b ≤ 126) × Printed bs

both : (a b : Bool) → (a && b) ≡ true → (a ≡ true) × (b ≡ true)
both true b h = (refl, h)
both false b h = cc

not_true : (a : Bool) → not a ≡ true → a ≡ false
not_true true h = cc
not_true false h = refl

low : (b : ℕ) → nat_le 32 b ≡ true → 32 ≤ b
low b h = grind (arith, nat_tests)

high : (b : ℕ) → nat_le b 126 ≡ true → b ≤ 126
high b h = grind (arith, nat_tests)

printed : (bs : List ℕ) → list_all (λ c. nat_le 32 c && nat_le c 126) bs ≡ true → Printed bs
printed [] h = tt
printed (b ∷ bs) h =
    let first = both (nat_le 32 b && nat_le b 126) _ h in
    let bounds = both (nat_le 32 b) (nat_le b 126) first.0 in
    (low b bounds.0, high b bounds.1, printed bs first.1)

-- ---- such texts are characters as they are

ascii : (bs : List ℕ) → Printed bs → IsAscii bs
ascii [] h i = lit< tt
ascii (b ∷ bs) h zero = omega (arith, h.1)
ascii (b ∷ bs) h (suc i) = ascii bs h.2 i

encoded : (bs : List ℕ) → Printed bs → encode_utf8_all bs ≡ bs
encoded [] h = refl
encoded (b ∷ bs) h =
    let small : b < 128 = omega (arith, h.1) in
    ap (λ (xs : List ℕ). xs ++ encode_utf8_all bs) (encode_ascii b small) ∙ ap (λ (xs : List ℕ). b ∷ xs) (encoded bs h.2)

-- ---- nothing is trimmed

unequal : (b : ℕ) → (b == 32) ≡ false → 32 ≤ b → 33 ≤ b
unequal b h low = grind (arith, nat_tests)

dark : (b : ℕ) → 33 ≤ b → b ≤ 126 → is_whitespace b ≡ false
dark b low high = grind (arith, nat_tests)

started : (b : ℕ) (bs : List ℕ) → is_whitespace b ≡ false → skip_leading_whitespace (b ∷ bs) ≡ b ∷ bs
started b bs h = rw h refl

start_same : (b : ℕ) (bs : List ℕ) → Printed (b ∷ bs) → (b == 32) ≡ false → trim_start (b ∷ bs) ≡ b ∷ bs
unfolding trim_start
start_same b bs h first =
    ap (λ cs. encode_utf8_all (skip_leading_whitespace cs)) (chars-IsAscii (b ∷ bs) (ascii (b ∷ bs) h))
    ∙ ap encode_utf8_all (started b bs (dark b (unequal b first h.0) h.1)) ∙ encoded (b ∷ bs) h

no_length : (n : ℕ) → (suc n == 0) ≡ false
no_length n = grind (arith, nat_tests)

kept : (a b : Bool) (xs : List ℕ) → b ≡ false → cond (a && b) [] xs ≡ xs
kept true b xs h = rw h refl
kept false b xs h = refl

dark_kept : (a b : Bool) (xs : List ℕ) → a ≡ false → cond (a && b) [] xs ≡ xs
dark_kept a b xs h = rw h refl

ended : (bs : List ℕ) → Printed bs → ends_with 32 bs ≡ false → drop_trailing_whitespace bs ≡ bs
ended [] h last = refl
ended (b ∷ []) h last = dark_kept (is_whitespace b) _ _ (dark b (unequal b last h.0) h.1)
ended (b ∷ c ∷ bs) h last =
    let more : drop_trailing_whitespace (c ∷ bs) ≡ c ∷ bs = ended (c ∷ bs) h.2 last in
    ap (λ (xs : List ℕ). cond (is_whitespace b && (length xs == 0)) [] (b ∷ xs)) more ∙ kept (is_whitespace b) _ _ (no_length (length bs))

end_same : (bs : List ℕ) → Printed bs → ends_with 32 bs ≡ false → trim_end bs ≡ bs
unfolding trim_end
end_same bs h last =
    ap (λ cs. encode_utf8_all (drop_trailing_whitespace cs)) (chars-IsAscii bs (ascii bs h)) ∙ ap encode_utf8_all (ended bs h last) ∙ encoded bs h

-- ---- and each byte is visible

seen : (b : ℕ) → 32 ≤ b → b ≤ 126 → is_visible_or_blank b ≡ true
seen b low high = grind (arith, nat_tests)

all_seen : (bs : List ℕ) → Printed bs → is_visible_text bs ≡ true
all_seen [] h = refl
all_seen (b ∷ bs) h = rw (seen b h.0 h.1) (all_seen bs h.2)

pub honest_trim : (text : List ℕ) → is_honest_text text ≡ true → trim text ≡ text
honest_trim [] h = cc
honest_trim (b ∷ bs) h =
    let last = both (list_all (λ c. nat_le 32 c && nat_le c 126) (b ∷ bs) && not (b == 32)) (not (ends_with 32 (b ∷ bs))) h in
    let first = both (list_all (λ c. nat_le 32 c && nat_le c 126) (b ∷ bs)) (not (b == 32)) last.0 in
    let is = printed (b ∷ bs) first.0 in
    ap trim_end (start_same b bs is (not_true (b == 32) first.1)) ∙ end_same (b ∷ bs) is (not_true (ends_with 32 (b ∷ bs)) last.1)

honest_seen : (text : List ℕ) → is_honest_text text ≡ true → is_visible_text text ≡ true
honest_seen [] h = cc
honest_seen (b ∷ bs) h =
    let last = both (list_all (λ c. nat_le 32 c && nat_le c 126) (b ∷ bs) && not (b == 32)) (not (ends_with 32 (b ∷ bs))) h in
    all_seen (b ∷ bs) (printed (b ∷ bs) (both (list_all (λ c. nat_le 32 c && nat_le c 126) (b ∷ bs)) (not (b == 32)) last.0).0)

some_text : (text : List ℕ) → is_honest_text text ≡ true → (length text == 0) ≡ false
some_text [] h = cc
some_text (b ∷ bs) h = no_length (length bs)

-- what an honest server uses is named as it is
pub honest_named : (r : OwnedRevision) → IsTrue (is_honest_text (revision_text r)) → named_http r ≡ Some r
honest_named (Etag text) h = rw (honest_trim text h, honest_seen text h, some_text text h) refl
honest_named (LastModified text) h = rw (honest_trim text h, honest_seen text h, some_text text h) refl
