-- A newline after a JSON text changes nothing for a reader.
use Rattle.std.proofs.Common.{◌≡◌, ℕ, suc, ◌+◌, ◌-◌, ◌≤◌, List, [], ◌∷◌, ◌++◌, length, take, drop, Bool, true, false, cond, not, ◌&&◌, ◌||◌, ◌==◌, nat_eq, Option, Some, None, option_map, option_and_then, arith, refl, sym, ap, ap₂, ◌∙◌}
use Rattle.std.specs.List.{list_all, prefix_len, starts_with}
use Rattle.std.specs.Char.{encode_utf8, is_ascii_digit, is_digit}
use Rattle.std.proofs.Math.Bool.{and_assoc}
use Rattle.std.proofs.lemmas.Bool.{false≢true}
use Rattle.std.proofs.lemmas.List.{drop-append-le, length-append, take-append-le}
use Rattle.json.specs.Ascii as ascii
use Rattle.json.specs.Json.{document, if_last, max_depth, value}
use Rattle.json.specs.Lex.{Class, Mode, backslash, between, class, fresh, in_escape, in_string, in_word, lex, lex_byte, operator, operator_lexeme, other, punctuate, quote, space, string_token, token}
use Rattle.json.specs.Text.{Within, after_backslash, after_high, after_u, code_unit, content, is_high_surrogate, is_low_surrogate, plain, prepend, short_escape}
use Rattle.json.specs.Token.{Token, bad, boolean, null, number}
use Rattle.json.specs.Word.{after_digits, after_exponent, after_fraction, after_minus, after_number, after_sign, after_whole, ends_word, literal, number_before, word}

abbrev newline : List ℕ
newline = 10 ∷ []

-- ---- strings

and-false : (b : Bool) → (b && false) ≡ false
and-false true = refl
and-false false = refl

same_cond : {A : Type 0} (b : Bool) (x : A) → cond b x x ≡ x
same_cond true x = refl
same_cond false x = refl

-- a newline is no digit
unit_end : (a b c : ℕ) → code_unit a b c 10 ≡ None
unfolding code_unit
unit_end a b c = rw (and-false (is_digit a 16 && is_digit b 16 && is_digit c 16)) refl

each_same : {A B : Type 0} (f g : A → Option B) → ((a : A) → f a ≡ g a) → (o : Option A)
    → option_and_then f o ≡ option_and_then g o
each_same f g h None = refl
each_same f g h (Some a) = h a

-- what follows the four digits of a code unit
abbrev after_unit : List ℕ → ℕ → Option (List ℕ)
after_unit xs u =
    cond (is_high_surrogate u) (content (after_high u) xs)
    (cond (is_low_surrogate u) None (prepend (encode_utf8 u) (content plain xs)))

content_more : (m : Within) (xs : List ℕ) → content m (xs ++ newline) ≡ content m xs
unfolding content short_escape
content_more plain [] = refl
content_more plain (x ∷ xs) = rw (content_more after_backslash xs, content_more plain xs) refl
content_more after_backslash [] = refl
content_more after_backslash (x ∷ xs) = rw (content_more after_u xs, content_more plain xs) refl
content_more after_u [] = refl
content_more after_u (a ∷ []) = refl
content_more after_u (a ∷ b ∷ []) = refl
content_more after_u (a ∷ b ∷ c ∷ []) = rw (unit_end a b c) refl
content_more after_u (a ∷ b ∷ c ∷ d ∷ xs) =
    each_same (after_unit (xs ++ newline)) (after_unit xs)
    (λ u. rw (content_more (after_high u) xs, content_more plain xs) refl) (code_unit a b c d)
content_more (after_high h) [] = refl
content_more (after_high h) (s ∷ []) = refl
content_more (after_high h) (s ∷ u ∷ []) = refl
content_more (after_high h) (s ∷ u ∷ a ∷ []) = refl
content_more (after_high h) (s ∷ u ∷ a ∷ b ∷ []) = refl
content_more (after_high h) (s ∷ u ∷ a ∷ b ∷ c ∷ []) =
    rw (unit_end a b c) (same_cond ((s == ascii.backslash) && (u == ascii.lower_u)) None)
content_more (after_high h) (s ∷ u ∷ a ∷ b ∷ c ∷ d ∷ xs) = rw (content_more plain xs) refl

-- ---- names

ends_more : (t : List ℕ) → ends_word (t ++ newline) ≡ ends_word t
ends_more [] = refl
ends_more (x ∷ xs) = refl

not_left : (a b : Bool) → (not a && b) ≡ true → a ≡ false
not_left true b h = absurd (false≢true h)
not_left false b h = refl

not_right : (a b : Bool) → (not a && b) ≡ true → b ≡ true
not_right true b h = absurd (false≢true h)
not_right false b h = h

-- a name has no newline
abbrev is_one_line : List ℕ → Bool
is_one_line name = list_all (λ c. not (nat_eq c 10)) name

name_more : (name t : List ℕ) → is_one_line name ≡ true
    → (starts_with nat_eq (t ++ newline) name && ends_word (drop (length name) (t ++ newline)))
    ≡ (starts_with nat_eq t name && ends_word (drop (length name) t))
name_more [] t h = ends_more t
name_more (n ∷ ns) [] h = rw (not_left (nat_eq n 10) (is_one_line ns) h) refl
name_more (n ∷ ns) (x ∷ xs) h =
    let rest = name_more ns xs (not_right (nat_eq n 10) (is_one_line ns) h) in
    and_assoc (nat_eq n x) (starts_with nat_eq (xs ++ newline) ns) (ends_word (drop (length ns) (xs ++ newline)))
    ∙ ap (λ b. nat_eq n x && b) rest
    ∙ sym (and_assoc (nat_eq n x) (starts_with nat_eq xs ns) (ends_word (drop (length ns) xs)))

literal_more : (name : List ℕ) (k : Token) (t : List ℕ) → is_one_line name ≡ true
    → literal name k (t ++ newline) ≡ literal name k t
literal_more name k t h = ap (λ b. cond b k bad) (name_more name t h)

-- ---- numbers

-- what follows a part of a number is followed by the newline
abbrev more : Option (List ℕ) → Option (List ℕ)
more o = option_map (λ r. r ++ newline) o

cond_append : (b : Bool) (u v : List ℕ) → cond b (u ++ newline) (v ++ newline) ≡ cond b u v ++ newline
cond_append true u v = refl
cond_append false u v = refl

cond_more : (b : Bool) (o p : Option (List ℕ)) → cond b (more o) (more p) ≡ more (cond b o p)
cond_more true o p = refl
cond_more false o p = refl

then_more : (f : List ℕ → Option (List ℕ)) → ((t : List ℕ) → f (t ++ newline) ≡ more (f t))
    → (o : Option (List ℕ)) → option_and_then f (more o) ≡ more (option_and_then f o)
then_more f h None = refl
then_more f h (Some t) = h t

prefix_more : (t : List ℕ) → prefix_len is_ascii_digit (t ++ newline) ≡ prefix_len is_ascii_digit t
prefix_more [] = refl
prefix_more (x ∷ xs) = ap (λ n. cond (is_ascii_digit x) (1 + n) 0) (prefix_more xs)

cond_within : (b : Bool) (n k : ℕ) → n ≤ k → cond b (1 + n) 0 ≤ suc k
cond_within true n k h = omega (arith, h)
cond_within false n k h = omega arith

prefix_within : (t : List ℕ) → prefix_len is_ascii_digit t ≤ length t
prefix_within [] = omega arith
prefix_within (x ∷ xs) = cond_within (is_ascii_digit x) _ _ (prefix_within xs)

digits_more : (t : List ℕ) → after_digits (t ++ newline) ≡ more (after_digits t)
digits_more t =
    let n = prefix_len is_ascii_digit t in
    ap (λ k. cond (k == 0) None (Some (drop k (t ++ newline)))) (prefix_more t)
    ∙ ap (λ r. cond (n == 0) None (Some r)) (drop-append-le n t newline (prefix_within t))
    ∙ cond_more (n == 0) None (Some (drop n t))

minus_more : (t : List ℕ) → after_minus (t ++ newline) ≡ after_minus t ++ newline
minus_more [] = refl
minus_more (x ∷ xs) = cond_append (x == ascii.minus) xs (x ∷ xs)

sign_more : (t : List ℕ) → after_sign (t ++ newline) ≡ after_sign t ++ newline
sign_more [] = refl
sign_more (x ∷ xs) = cond_append ((x == ascii.minus) || (x == ascii.plus)) xs (x ∷ xs)

whole_more : (t : List ℕ) → after_whole (t ++ newline) ≡ more (after_whole t)
whole_more [] = refl
whole_more (x ∷ xs) =
    ap (λ o. cond (x == ascii.zero) (Some (xs ++ newline)) o) (digits_more (x ∷ xs))
    ∙ cond_more (x == ascii.zero) (Some xs) (after_digits (x ∷ xs))

fraction_more : (t : List ℕ) → after_fraction (t ++ newline) ≡ more (after_fraction t)
fraction_more [] = refl
fraction_more (x ∷ xs) =
    ap (λ o. cond (x == ascii.dot) o (Some ((x ∷ xs) ++ newline))) (digits_more xs)
    ∙ cond_more (x == ascii.dot) (after_digits xs) (Some (x ∷ xs))

exponent_more : (t : List ℕ) → after_exponent (t ++ newline) ≡ more (after_exponent t)
exponent_more [] = refl
exponent_more (x ∷ xs) =
    let is = (x == ascii.lower_e) || (x == ascii.upper_e) in
    ap (λ o. cond is o (Some ((x ∷ xs) ++ newline))) (ap after_digits (sign_more xs) ∙ digits_more (after_sign xs))
    ∙ cond_more is (after_digits (after_sign xs)) (Some (x ∷ xs))

number_more : (t : List ℕ) → after_number (t ++ newline) ≡ more (after_number t)
unfolding after_number
number_more t =
    ap (λ u. option_and_then after_exponent (option_and_then after_fraction (after_whole u))) (minus_more t)
    ∙ ap (λ o. option_and_then after_exponent (option_and_then after_fraction o)) (whole_more (after_minus t))
    ∙ ap (λ o. option_and_then after_exponent o) (then_more after_fraction fraction_more (after_whole (after_minus t)))
    ∙ then_more after_exponent exponent_more (option_and_then after_fraction (after_whole (after_minus t)))

less : (m n k : ℕ) → k ≡ m + 1 → k - (n + 1) ≡ m - n
less m n k e = omega (arith, e)

within : (m n : ℕ) → m - n ≤ m
within m n = omega arith

before_more : (t : List ℕ) (o : Option (List ℕ)) → number_before (t ++ newline) (more o) ≡ number_before t o
before_more t None = refl
before_more t (Some rest) =
    let n = length t - length rest in
    let long : length (t ++ newline) - length (rest ++ newline) ≡ n =
    ap (λ k. length (t ++ newline) - k) (length-append rest newline)
    ∙ less (length t) (length rest) (length (t ++ newline)) (length-append t newline) in
    ap₂ (λ b k. cond b (number (take k (t ++ newline))) bad) (ends_more rest) long
    ∙ ap (λ s. cond (ends_word rest) (number s) bad) (take-append-le n t newline (within (length t) (length rest)))

-- ---- words

cond_both : {A : Type 0} (b : Bool) (x y u v : A) → x ≡ u → y ≡ v → cond b x y ≡ cond b u v
cond_both true x y u v h k = h
cond_both false x y u v h k = k

word_more : (x : ℕ) (xs : List ℕ) → word (x ∷ (xs ++ newline)) ≡ word (x ∷ xs)
unfolding word
word_more x xs =
    let t = x ∷ xs in
    cond_both (x == ascii.lower_t) _ _ _ _ (literal_more ascii.true_text (boolean true) t refl)
    (cond_both (x == ascii.lower_f) _ _ _ _ (literal_more ascii.false_text (boolean false) t refl)
    (cond_both (x == ascii.lower_n) _ _ _ _ (literal_more ascii.null_text null t refl)
    (ap (number_before (t ++ newline)) (number_more t) ∙ before_more t (after_number t))))

-- ---- the whole text

byte_more : (m : Mode) (c : Class) (x : ℕ) (xs : List ℕ) → ((n : Mode) → lex n (xs ++ newline) ≡ lex n xs)
    → lex_byte m c x (xs ++ newline) (λ n. lex n (xs ++ newline)) ≡ lex_byte m c x xs (λ n. lex n xs)
byte_more between quote x xs h =
    ap₂ (λ o l. token (string_token o) ∷ l) (content_more plain xs) (h in_string)
byte_more between backslash x xs h = ap (λ l. token bad ∷ l) (h in_word)
byte_more between operator x xs h = ap (λ l. operator_lexeme x ∷ l) (h between)
byte_more between space x xs h = h between
byte_more between other x xs h = ap₂ (λ w l. token w ∷ l) (word_more x xs) (h in_word)
byte_more in_word quote x xs h = h in_word
byte_more in_word backslash x xs h = h in_word
byte_more in_word operator x xs h = ap (λ l. operator_lexeme x ∷ l) (h between)
byte_more in_word space x xs h = h between
byte_more in_word other x xs h = h in_word
byte_more in_string quote x xs h = h between
byte_more in_string backslash x xs h = h in_escape
byte_more in_string operator x xs h = h in_string
byte_more in_string space x xs h = h in_string
byte_more in_string other x xs h = h in_string
byte_more in_escape c x xs h = h in_string

lex_more : (m : Mode) (t : List ℕ) → lex m (t ++ newline) ≡ lex m t
unfolding lex
lex_more between [] = refl
lex_more in_word [] = refl
lex_more in_string [] = refl
lex_more in_escape [] = refl
lex_more m (x ∷ xs) = byte_more m (class x) x xs (λ n. lex_more n xs)

-- a text and a newline is read as that text is
pub document-newline : (text : List ℕ) → document (text ++ 10 ∷ []) ≡ document text
document-newline text =
    ap (λ ls. option_and_then (λ p. if_last p.0 p.1) (value max_depth (punctuate fresh ls))) (lex_more between text)
