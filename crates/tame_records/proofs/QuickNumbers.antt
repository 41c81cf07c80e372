-- The numbers 1 and 2 as lexemes.
use Rattle.std.proofs.Common.{◌≡◌, ℕ, ◌+◌, List, [], ◌∷◌, drop, get_or, Bool, true, false, ◌||◌, ◌==◌, Some, refl, sym, ap, ◌∙◌, subst, arith}
use Rattle.std.specs.Prelude.{◌-◌, length}
use Rattle.std.proofs.lemmas.Bool.{eqb-true}
use Rattle.json.specs.Token.{number}
use Rattle.json.specs.Word.{word}
use Rattle.json.specs.Lex.{Lexeme, token, lex, between, Place, fresh, after_value, after_comma, after_key, may_begin, punctuate}
use Rattle.json.specs.Word.{after_number}
use Rattle.serde_json.specs.Data.{number as numeral, unsigned}
use Rattle.serde_json.specs.Read.{number_of}
use Rattle.serde_json.proofs.OnLiterals.{serde_json_on_literals}
use Rattle.tame_records.specs.Quick.{ValueAt, ends, left}
use Rattle.tame_records.proofs.FlagTokens.{number_taken}
use Rattle.tame_records.proofs.QuickLex.{EndsWell, ends_well, next_byte}

-- ---- the numbers 1 and 2

number_placed : (p : Place) (s : List ℕ) (ls : List Lexeme) → may_begin p ≡ true → punctuate p (token (number s) ∷ ls) ≡ number s ∷ punctuate after_value ls
unfolding punctuate
number_placed fresh s ls m = refl
number_placed after_value s ls m = absurd (cc)
number_placed after_comma s ls m = refl
number_placed after_key s ls m = absurd (cc)

word_49_comma : (xs : List ℕ) → word (49 ∷ 44 ∷ xs) ≡ number (49 ∷ [])
unfolding word after_number
word_49_comma xs = let one : length (49 ∷ 44 ∷ xs) - length (44 ∷ xs) ≡ 1 = omega arith in rw one refl

word_49_brace : (xs : List ℕ) → word (49 ∷ 125 ∷ xs) ≡ number (49 ∷ [])
unfolding word after_number
word_49_brace xs = let one : length (49 ∷ 125 ∷ xs) - length (125 ∷ xs) ≡ 1 = omega arith in rw one refl

word_49_bracket : (xs : List ℕ) → word (49 ∷ 93 ∷ xs) ≡ number (49 ∷ [])
unfolding word after_number
word_49_bracket xs = let one : length (49 ∷ 93 ∷ xs) - length (93 ∷ xs) ≡ 1 = omega arith in rw one refl

word_49 : (r : List ℕ) → ends r ≡ true → word (49 ∷ r) ≡ number (49 ∷ [])
word_49 [] h = absurd (cc)
word_49 (x ∷ xs) h = go (x == 44) (x == 125) (x == 93) refl refl refl h
  where
    go : (a b c : Bool) → (x == 44) ≡ a → (x == 125) ≡ b → (x == 93) ≡ c → (a || b || c) ≡ true → word (49 ∷ x ∷ xs) ≡ number (49 ∷ [])
    go true b c ea eb ec t = subst (λ (y : ℕ). word (49 ∷ y ∷ xs) ≡ number (49 ∷ [])) (sym (eqb-true x 44 ea)) (word_49_comma xs)
    go false true c ea eb ec t = subst (λ (y : ℕ). word (49 ∷ y ∷ xs) ≡ number (49 ∷ [])) (sym (eqb-true x 125 eb)) (word_49_brace xs)
    go false false true ea eb ec t = subst (λ (y : ℕ). word (49 ∷ y ∷ xs) ≡ number (49 ∷ [])) (sym (eqb-true x 93 ec)) (word_49_bracket xs)
    go false false false ea eb ec t = absurd (cc)

digit_lexed_49 : (r : List ℕ) → ends r ≡ true → EndsWell r → lex between (49 ∷ r) ≡ token (number (49 ∷ [])) ∷ lex between r
unfolding lex
digit_lexed_49 r h w = rw (word_49 r h, w.whole) refl

number_49 : number_of (49 ∷ []) ≡ Some (unsigned 1)
unfolding serde_json_on_literals
number_49 = refl

pub small_at_49 : (bytes : List ℕ) (at : ℕ) → get_or bytes at 0 ≡ 49 → ValueAt 0 bytes at (numeral (unsigned 1)) (at + 1)
small_at_49 bytes at is = λ p m closes.
    number_taken (left bytes p at) (left bytes after_value (at + 1)) (49 ∷ []) (unsigned 1)
    (ap (λ (xs : List ℕ). punctuate p (lex between xs)) (next_byte bytes at 49 is (omega arith)) ∙ ap (punctuate p) (digit_lexed_49 (drop (at + 1) bytes) closes (ends_well (drop (at + 1) bytes) closes)) ∙ number_placed p (49 ∷ []) (lex between (drop (at + 1) bytes)) m)
    number_49 refl

word_50_comma : (xs : List ℕ) → word (50 ∷ 44 ∷ xs) ≡ number (50 ∷ [])
unfolding word after_number
word_50_comma xs = let one : length (50 ∷ 44 ∷ xs) - length (44 ∷ xs) ≡ 1 = omega arith in rw one refl

word_50_brace : (xs : List ℕ) → word (50 ∷ 125 ∷ xs) ≡ number (50 ∷ [])
unfolding word after_number
word_50_brace xs = let one : length (50 ∷ 125 ∷ xs) - length (125 ∷ xs) ≡ 1 = omega arith in rw one refl

word_50_bracket : (xs : List ℕ) → word (50 ∷ 93 ∷ xs) ≡ number (50 ∷ [])
unfolding word after_number
word_50_bracket xs = let one : length (50 ∷ 93 ∷ xs) - length (93 ∷ xs) ≡ 1 = omega arith in rw one refl

word_50 : (r : List ℕ) → ends r ≡ true → word (50 ∷ r) ≡ number (50 ∷ [])
word_50 [] h = absurd (cc)
word_50 (x ∷ xs) h = go (x == 44) (x == 125) (x == 93) refl refl refl h
  where
    go : (a b c : Bool) → (x == 44) ≡ a → (x == 125) ≡ b → (x == 93) ≡ c → (a || b || c) ≡ true → word (50 ∷ x ∷ xs) ≡ number (50 ∷ [])
    go true b c ea eb ec t = subst (λ (y : ℕ). word (50 ∷ y ∷ xs) ≡ number (50 ∷ [])) (sym (eqb-true x 44 ea)) (word_50_comma xs)
    go false true c ea eb ec t = subst (λ (y : ℕ). word (50 ∷ y ∷ xs) ≡ number (50 ∷ [])) (sym (eqb-true x 125 eb)) (word_50_brace xs)
    go false false true ea eb ec t = subst (λ (y : ℕ). word (50 ∷ y ∷ xs) ≡ number (50 ∷ [])) (sym (eqb-true x 93 ec)) (word_50_bracket xs)
    go false false false ea eb ec t = absurd (cc)

digit_lexed_50 : (r : List ℕ) → ends r ≡ true → EndsWell r → lex between (50 ∷ r) ≡ token (number (50 ∷ [])) ∷ lex between r
unfolding lex
digit_lexed_50 r h w = rw (word_50 r h, w.whole) refl

number_50 : number_of (50 ∷ []) ≡ Some (unsigned 2)
unfolding serde_json_on_literals
number_50 = refl

pub small_at_50 : (bytes : List ℕ) (at : ℕ) → get_or bytes at 0 ≡ 50 → ValueAt 0 bytes at (numeral (unsigned 2)) (at + 1)
small_at_50 bytes at is = λ p m closes.
    number_taken (left bytes p at) (left bytes after_value (at + 1)) (50 ∷ []) (unsigned 2)
    (ap (λ (xs : List ℕ). punctuate p (lex between xs)) (next_byte bytes at 50 is (omega arith)) ∙ ap (punctuate p) (digit_lexed_50 (drop (at + 1) bytes) closes (ends_well (drop (at + 1) bytes) closes)) ∙ number_placed p (50 ∷ []) (lex between (drop (at + 1) bytes)) m)
    number_50 refl
