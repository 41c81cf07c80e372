-- Generated texts have only printable bytes.
use Rattle.std.proofs.Common.{◌≡◌, ℕ, ◌<◌, ◌≤◌, ◌^◌, Bool, true, false, not, ◌&&◌, ◌==◌, List, [], ◌∷◌, ◌++◌, codes, refl, arith, nat_le}
use Rattle.std.specs.List.{list_all}
use Rattle.std.specs.Fmt.{decimal}
use Rattle.std.specs.Str.Parse.{AllDigits}
use Rattle.std.proofs.lemmas.Bool.{and_parts}
use Rattle.std.proofs.lemmas.Bool.Decides.{nat_tests}
use Rattle.std.proofs.lemmas.Fmt.{decimal_is_IsNumeral}
use Rattle.std.proofs.lemmas.List.Folds.{list_all-append}
use Rattle.std.proofs.lemmas.Str.Parse.{digit_from_value}
use Rattle.audit_generator.specs.Packages.{name_at, version_text}
use Rattle.audit_generator.specs.Hosted.{checksum_text, etag_at, flag_text, is_yanked_in, object_text}

abbrev pub is_printable : ℕ → Bool
is_printable c = nat_le 32 c && nat_le c 126

pub both : (p : ℕ → Bool) (xs ys : List ℕ) → list_all p xs ≡ true → list_all p ys ≡ true → list_all p (xs ++ ys) ≡ true
both p xs ys a b = rw (list_all-append p xs ys, a, b) refl

-- a test that each digit passes is passed by each number
digits_pass : (p : ℕ → Bool) → ((c : ℕ) → 48 ≤ c → c ≤ 57 → p c ≡ true) → (ds : List ℕ) → AllDigits 10 ds → list_all p ds ≡ true
digits_pass p each [] h = refl
digits_pass p each (d ∷ ds) h =
    let at = digit_from_value d h.0 in
    rw (each d at.0 at.1, digits_pass p each ds h.1) refl

pub decimal_passes : (p : ℕ → Bool) → ((c : ℕ) → 48 ≤ c → c ≤ 57 → p c ≡ true) → (n : ℕ) → n < 2 ^ 64 → list_all p (decimal n) ≡ true
decimal_passes p each n h = digits_pass p each (decimal n) (decimal_is_IsNumeral n h).0.1

digit_printable : (c : ℕ) → 48 ≤ c → c ≤ 57 → is_printable c ≡ true
digit_printable c low high = grind (arith, nat_tests)

pub decimal_printable : (n : ℕ) → n < 2 ^ 64 → list_all is_printable (decimal n) ≡ true
decimal_printable n h = decimal_passes is_printable digit_printable n h

name_printable : (k : ℕ) → k < 2 ^ 64 → list_all is_printable (name_at k) ≡ true
name_printable k h = decimal_printable k h

version_printable : (minor : ℕ) → minor < 2 ^ 64 → list_all is_printable (version_text minor) ≡ true
version_printable minor h = both is_printable (codes "1." ++ decimal minor) (codes ".0") (decimal_printable minor h) refl

flag_printable : (b : Bool) → list_all is_printable (flag_text b) ≡ true
flag_printable true = refl
flag_printable false = refl

checksum_printable : list_all is_printable checksum_text ≡ true
checksum_printable = refl

nine : (p : ℕ → Bool) (a b c d e f g h i : List ℕ) → list_all p a ≡ true → list_all p b ≡ true → list_all p c ≡ true → list_all p d ≡ true → list_all p e ≡ true → list_all p f ≡ true → list_all p g ≡ true → list_all p h ≡ true → list_all p i ≡ true
    → list_all p (a ++ b ++ c ++ d ++ e ++ f ++ g ++ h ++ i) ≡ true
nine p a b c d e f g h i ha hb hc hd he hf hg hh hi =
    both p (a ++ b ++ c ++ d ++ e ++ f ++ g ++ h) i (both p (a ++ b ++ c ++ d ++ e ++ f ++ g) h (both p (a ++ b ++ c ++ d ++ e ++ f) g (both p (a ++ b ++ c ++ d ++ e) f (both p (a ++ b ++ c ++ d) e (both p (a ++ b ++ c) d (both p (a ++ b) c (both p a b ha hb) hc) hd) he) hf) hg) hh) hi

pub object_printable : (k minor : ℕ) → k < 2 ^ 64 → minor < 2 ^ 64 → list_all is_printable (object_text k minor) ≡ true
object_printable k minor hk hm =
    nine is_printable (codes "{\"name\":\"") (name_at k) (codes "\",\"vers\":\"") (version_text minor) (codes "\",\"deps\":[],\"cksum\":\"") checksum_text (codes "\",\"features\":{},\"yanked\":") (flag_text (is_yanked_in k minor)) (codes "}")
    refl (name_printable k hk) refl (version_printable minor hm) refl checksum_printable refl (flag_printable (is_yanked_in k minor)) refl

pub etag_printable : (k : ℕ) → k < 2 ^ 64 → list_all is_printable (etag_at k) ≡ true
etag_printable k h = decimal_printable k h

-- ---- what printable bytes are not

pub weaker : (p q : ℕ → Bool) → ((c : ℕ) → p c ≡ true → q c ≡ true) → (xs : List ℕ) → list_all p xs ≡ true → list_all q xs ≡ true
weaker p q more [] h = refl
weaker p q more (x ∷ xs) h =
    let (here, rest) = and_parts (p x) (list_all p xs) h in
    rw (more x here, weaker p q more xs rest) refl

no_newline : (c : ℕ) → is_printable c ≡ true → not (c == 10) ≡ true
no_newline c h = grind (arith, nat_tests)

no_zero : (c : ℕ) → is_printable c ≡ true → not (c == 0) ≡ true
no_zero c h = grind (arith, nat_tests)

pub newline_free : (xs : List ℕ) → list_all is_printable xs ≡ true → list_all (λ c. not (c == 10)) xs ≡ true
newline_free xs h = weaker is_printable (λ c. not (c == 10)) no_newline xs h

pub zero_free : (xs : List ℕ) → list_all is_printable xs ≡ true → list_all (λ c. not (c == 0)) xs ≡ true
zero_free xs h = weaker is_printable (λ c. not (c == 0)) no_zero xs h
