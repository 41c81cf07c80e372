-- The names that cargo and crates.io don't refuse are those that meet their rules.
use Rattle.std.proofs.Common.{◌≡◌, ◌↔◌, ◌<◌, ◌≤◌, ◌++◌, ℕ, zero, suc, ◌+◌, List, [], ◌∷◌, length, Bool, true, false, not, cond, Option, option_map, Some, None, IsTrue, IfSome, All, Contains, refl, sym, ap, ◌∙◌, arith}
use Rattle.std.specs.Prelude.{find, bytes_eq, slice_get, slice_index_or, ◌==◌, ◌||◌}
use Rattle.std.specs.List.{enumerate_from}
use Rattle.std.specs.Str.{IsUtf8, chars}
use Rattle.std.proofs.lemmas.Bool.Decides.{nat_tests}
use Rattle.std.proofs.lemmas.List.Folds.{list_any-append}
use Rattle.std.proofs.lemmas.Slice.Eq.{bytes_eq-Decides}
use Rattle.std.proofs.lemmas.Str.{chars-nil, encodes-chars}
use Rattle.std.proofs.Math.Utf8.{encodes}
use Rattle.tame_names.specs.NameRules.{IsCargoName, IsCratesIoName, is_first_char, reserved_names}
use Rattle.tame_names.specs.Names.{HasLength, IsReserved, artifacts, by_characters, first_bad, is_char_at, is_longer, is_name_char, keywords, libraries, reserved_kind, stands_in, strict_refusal, windows}
use Rattle.tame_names.specs.declared.errors.ReservedNameKind.{ReservedNameKind}
use Rattle.tame_names.specs.declared.errors.ReservedNameKind.TheVariants.{Keyword, Artifact, Windows, Standard}
use Rattle.tame_names.proofs.Ascii.{char_name, no_bad, none_found, not_first}

-- ---- characters at their positions

-- if none is bad, each is one of a name
each_char : (n : ℕ) (cs : List ℕ) → find (λ (p : ℕ × ℕ). not (is_char_at p)) (enumerate_from n cs) ≡ None → All (λ c. IsTrue (is_name_char c)) cs
each_char n [] h k d low = absurd (omega (arith, low))
each_char n (c ∷ cs) h zero d low = char_name (n == 0) c (none_found (is_char_at (n, c)) _ _ h).0
each_char n (c ∷ cs) h (suc k) d low = each_char (n + 1) cs (none_found (is_char_at (n, c)) _ _ h).1 k d (omega (arith, low))

-- and the first is one that may be at the front
front_char : (cs : List ℕ) → find (λ (p : ℕ × ℕ). not (is_char_at p)) (enumerate_from 0 cs) ≡ None → IfSome (slice_get cs 0) (λ c. IsTrue (is_first_char c))
front_char [] h = tt
front_char (c ∷ cs) h = (none_found (is_char_at (0, c)) _ _ h).0

none_behind : (n : ℕ) (cs : List ℕ) → 0 < n → All (λ c. IsTrue (is_name_char c)) cs → find (λ (p : ℕ × ℕ). not (is_char_at p)) (enumerate_from n cs) ≡ None
none_behind n [] low each = refl
none_behind n (c ∷ cs) low each =
    let later : (n == 0) ≡ false = grind (arith, nat_tests) in
    let here : is_name_char c ≡ true = each 0 c (omega arith) in
    let rest = none_behind (n + 1) cs (omega arith) (λ k d below. each (suc k) d (omega (arith, below))) in
    rw later (rw here rest)

-- characters of a name after one that may be at the front
none_bad : (cs : List ℕ) → IfSome (slice_get cs 0) (λ c. IsTrue (is_first_char c)) → All (λ c. IsTrue (is_name_char c)) cs → find (λ (p : ℕ × ℕ). not (is_char_at p)) (enumerate_from 0 cs) ≡ None
none_bad [] front each = refl
none_bad (c ∷ cs) front each =
    let here : is_first_char c ≡ true = front in
    rw here (none_behind 1 cs (omega arith) (λ k d below. each (suc k) d (omega (arith, below))))

-- ---- some characters, some bytes

some_chars : (text cs : List ℕ) → encodes cs ≡ text → (length text == 0) ≡ false → 1 ≤ length cs
some_chars text [] e h =
    let none : length text ≡ 0 = sym (ap length e) in
    absurd (grind (arith, nat_tests))
some_chars text (c ∷ cs) e h = omega arith

some_bytes : (text : List ℕ) → 1 ≤ length (chars text) → (length text == 0) ≡ false
some_bytes [] h =
    let none : length (chars []) ≡ 0 = ap length chars-nil in
    absurd (omega (arith, h, none))
some_bytes (b ∷ bs) h = grind (arith, nat_tests)

-- ---- reserved names

found : (text : List ℕ) (names : List (List ℕ)) → stands_in text names ≡ true → Contains names text
found text [] h = cc
found text (name ∷ names) h =
    elim (bytes_eq name text) as (λ b. bytes_eq name text ≡ b → (b || stands_in text names) ≡ true → Contains (name ∷ names) text) [
      | true ↦ λ e g. (0, omega arith, (bytes_eq-Decides name text).0 e)
      | false ↦ λ e g. let later = found text names g in (suc later.0, omega (arith, later.1), later.2)
    ] refl h

or_true : (b : Bool) → (b || true) ≡ true
or_true true = refl
or_true false = refl

stood : (text : List ℕ) (names : List (List ℕ)) (k : ℕ) → k < length names → slice_index_or names k text ≡ text → stands_in text names ≡ true
stood text [] k low is = absurd (omega (arith, low))
stood text (name ∷ names) zero low is = rw ((bytes_eq-Decides name text).1 is) refl
stood text (name ∷ names) (suc k) low is = rw (stood text names k (omega (arith, low)) is) (or_true (bytes_eq name text))

in_tables : (text : List ℕ) (a b c d : List (List ℕ)) → stands_in text (a ++ b ++ c ++ d) ≡ (((stands_in text a || stands_in text b) || stands_in text c) || stands_in text d)
in_tables text a b c d =
    let test : List ℕ → Bool = λ name. bytes_eq name text in
    let three : stands_in text (a ++ b ++ c) ≡ ((stands_in text a || stands_in text b) || stands_in text c) =
    list_any-append test (a ++ b) c ∙ ap (λ r. r || stands_in text c) (list_any-append test a b) in
    list_any-append test (a ++ b ++ c) d ∙ ap (λ r. r || stands_in text d) three

abbrev kind : Bool → Bool → Bool → Bool → Option ReservedNameKind
kind a b c d = cond a (Some Keyword) (cond b (Some Artifact) (cond c (Some Windows) (cond d (Some Standard) None)))

no_kind : (a b c d : Bool) → kind a b c d ≡ None → (((a || b) || c) || d) ≡ false
no_kind true b c d h = cc
no_kind false true c d h = cc
no_kind false false true d h = cc
no_kind false false false true h = cc
no_kind false false false false h = refl

of_no_kind : (a b c d : Bool) → (((a || b) || c) || d) ≡ false → kind a b c d ≡ None
of_no_kind true b c d h = cc
of_no_kind false true c d h = cc
of_no_kind false false true d h = cc
of_no_kind false false false true h = cc
of_no_kind false false false false h = refl

not_both : (b : Bool) → b ≡ true → b ≡ false → ⊥
not_both true is other = cc
not_both false is other = cc

is_free : (text : List ℕ) → reserved_kind text ≡ None → Contains reserved_names text → ⊥
is_free text h there =
    let test : stands_in text reserved_names ≡ true = stood text reserved_names there.0 there.1 there.2 in
    let none : stands_in text reserved_names ≡ false = in_tables text keywords artifacts windows libraries ∙ no_kind (stands_in text keywords) (stands_in text artifacts) (stands_in text windows) (stands_in text libraries) h in
    not_both (stands_in text reserved_names) test none

false_unless : (b : Bool) → (b ≡ true → ⊥) → b ≡ false
false_unless true h = absurd (h refl)
false_unless false h = refl

kind_of_free : (text : List ℕ) → (Contains reserved_names text → ⊥) → reserved_kind text ≡ None
kind_of_free text h =
    let none : stands_in text reserved_names ≡ false = false_unless (stands_in text reserved_names) (λ e. h (found text reserved_names e)) in
    of_no_kind (stands_in text keywords) (stands_in text artifacts) (stands_in text windows) (stands_in text libraries) (sym (in_tables text keywords artifacts windows libraries) ∙ none)

-- ---- both ways

unmapped : (text : List ℕ) (o : Option ReservedNameKind) → option_map (λ k. IsReserved text k) o ≡ None → o ≡ None
unmapped text None h = refl
unmapped text (Some k) h = cc

-- not longer than the limit, and not reserved
behind_chars : (limit : Option ℕ) (text : List ℕ) → by_characters limit text None ≡ None → (is_longer limit (length (chars text)) ≡ false) × (reserved_kind text ≡ None)
behind_chars limit text h =
    let both = not_first (is_longer limit (length (chars text))) (HasLength (length (chars text))) (option_map (λ k. IsReserved text k) (reserved_kind text)) h in
    (both.0, unmapped text (reserved_kind text) both.1)

-- what isn't refused meets the rules, and is not longer than the limit
meets : (limit : Option ℕ) (text : List ℕ) → IsUtf8 text → strict_refusal limit text ≡ None → IsCargoName text × (is_longer limit (length (chars text)) ≡ false)
meets limit text utf8 h =
    let some = not_first (length text == 0) (HasLength 0) (by_characters limit text (first_bad text)) h in
    let good : first_bad text ≡ None = no_bad limit text (first_bad text) some.1 in
    let rest = behind_chars limit text (sym (ap (by_characters limit text) good) ∙ some.1) in (
      record {
        some = some_chars text (chars text) (encodes-chars text utf8) some.0;
        first = front_char (chars text) good;
        each = each_char 0 (chars text) good;
        free = is_free text rest.1;
      },
      rest.0,
    )

-- what meets the rules isn't refused
unrefused : (limit : Option ℕ) (text : List ℕ) → IsCargoName text → is_longer limit (length (chars text)) ≡ false → strict_refusal limit text ≡ None
unrefused limit text n short =
    let good : first_bad text ≡ None = none_bad (chars text) n.first n.each in
    let free : reserved_kind text ≡ None = kind_of_free text n.free in
    let behind : by_characters limit text None ≡ None = rw short (rw free refl) in
    rw (some_bytes text n.some) (ap (by_characters limit text) good ∙ behind)

pub by_cargo : (text : List ℕ) → IsUtf8 text → (strict_refusal None text ≡ None) ↔ IsCargoName text
by_cargo text utf8 = (λ h. (meets None text utf8 h).0, λ n. unrefused None text n refl)

within : (n : ℕ) → is_longer (Some 64) n ≡ false → n ≤ 64
within n h = grind (arith, nat_tests)

short : (n : ℕ) → n ≤ 64 → is_longer (Some 64) n ≡ false
short n h = grind (arith, nat_tests)

pub by_crates_io : (text : List ℕ) → IsUtf8 text → (strict_refusal (Some 64) text ≡ None) ↔ IsCratesIoName text
by_crates_io text utf8 = (
  λ h. let both = meets (Some 64) text utf8 h in record { name = both.0; most = within (length (chars text)) both.1 },
  λ n. unrefused (Some 64) text n.name (short (length (chars text)) n.most),
)
