-- Lexemes, a byte or a run of bytes at a time.
use Rattle.std.proofs.Common.{◌≡◌, ℕ, zero, suc, ◌+◌, ◌<◌, List, [], ◌∷◌, ◌++◌, drop, take, get_or, Bool, true, false, not, cond, ◌||◌, ◌==◌, nat_lt, Option, Some, None, refl, sym, ap, ◌∙◌, subst, arith, append-nil}
use Rattle.std.specs.Prelude.{IfSome, ◌-◌, ◌≤◌, length}
use Rattle.std.specs.List.{prefix_len}
use Rattle.std.proofs.lemmas.List.{drop-drop, drop_all}
use Rattle.std.proofs.lemmas.Bool.{eqb-true, or_parts}
use Rattle.json.specs.Token.{Token, begin_object, end_object, begin_array, end_array, key, string, boolean, null}
use Rattle.json.specs.Run.{is_plain, is_stop}
use Rattle.json.specs.Text.{content, plain, short_escape}
use Rattle.json.specs.Word.{ends_word, is_operator, is_space, word}
use Rattle.json.specs.Lex.{Lexeme, token, colon, quote, backslash, operator, space, other, lex_byte, lex, Mode, between, in_word, in_string, Place, fresh, after_value, after_comma, after_key, begins_colon, may_begin, punctuate}
use Rattle.serde_json.specs.Data.{Data, Members, put, boolean as flag, null as nothing, string as text}
use Rattle.serde_json.specs.Written.{has_float}
use Rattle.tame_records.specs.Quick.{HasText, TakesAt, TextAt, ValueAt, ends, left}
use Rattle.tame_records.specs.VersionFlags.{AreMembers, IsValue}
use Rattle.tame_records.proofs.FlagTokens.{deeper, flag_taken, members_end, members_more, null_taken, text_taken}

-- ---- strings

text_ends : (ys : List ℕ) → HasText (34 ∷ ys) [] ys
unfolding content lex
text_ends ys = (refl, refl)

passes : (o s : Bool) (k : Mode → List Lexeme) (x : ℕ) (xs : List ℕ) → lex_byte in_string (cond o operator (cond s space other)) x xs k ≡ k in_string
passes true s k x xs = refl
passes false true k x xs = refl
passes false false k x xs = refl

by_tests : (q b : Bool) (x : ℕ) (xs : List ℕ) (k : Mode → List Lexeme) → q ≡ false → b ≡ false → lex_byte in_string (cond q quote (cond b backslash (cond (is_operator x) operator (cond (is_space x) space other)))) x xs k ≡ k in_string
by_tests true b x xs k eq eb = absurd (cc)
by_tests false true x xs k eq eb = absurd (cc)
by_tests false false x xs k eq eb = passes (is_operator x) (is_space x) k x xs

plain_lexed : (x : ℕ) (xs : List ℕ) → (x == 34) ≡ false → (x == 92) ≡ false → lex in_string (x ∷ xs) ≡ lex in_string xs
unfolding lex
plain_lexed x xs q b = by_tests (x == 34) (x == 92) x xs (λ m. lex m xs) q b

plain_read : (x : ℕ) (xs s : List ℕ) → (x == 34) ≡ false → (x == 92) ≡ false → nat_lt x 32 ≡ false → content plain xs ≡ Some s → content plain (x ∷ xs) ≡ Some (x ∷ s)
unfolding content
plain_read x xs s q b c e = rw (q, b, c, e) refl

one_plain : (x : ℕ) (xs s ys : List ℕ) → is_stop x ≡ false → HasText xs s ys → HasText (x ∷ xs) (x ∷ s) ys
one_plain x xs s ys free h =
    let first = or_parts ((x == 34) || (x == 92)) (nat_lt x 32) free in
    let both = or_parts (x == 34) (x == 92) first.0 in
    (plain_read x xs s both.0 both.1 first.1 h.0, plain_lexed x xs both.0 both.1 ∙ h.1)

-- a run of plain bytes before a string
pub run_of_text : (xs s ys : List ℕ) → HasText (drop (prefix_len is_plain xs) xs) s ys → HasText xs (take (prefix_len is_plain xs) xs ++ s) ys
run_of_text [] s ys h = h
run_of_text (x ∷ xs) s ys h = go (λ (inside : HasText (drop (prefix_len is_plain xs) xs) s ys). run_of_text xs s ys inside) (is_stop x) refl h
  where
    go : (HasText (drop (prefix_len is_plain xs) xs) s ys → HasText xs (take (prefix_len is_plain xs) xs ++ s) ys) → (b : Bool) → is_stop x ≡ b → HasText (drop (cond (not b) (1 + prefix_len is_plain xs) 0) (x ∷ xs)) s ys → HasText (x ∷ xs) (take (cond (not b) (1 + prefix_len is_plain xs) 0) (x ∷ xs) ++ s) ys
    go again true e g = g
    go again false e g =
        let n = prefix_len is_plain xs in
        let same : 1 + n ≡ suc n = omega arith in
        let inside : HasText (drop n xs) s ys = subst (λ (m : ℕ). HasText (drop m (x ∷ xs)) s ys) same g in
        subst (λ (m : ℕ). HasText (x ∷ xs) (take m (x ∷ xs) ++ s) ys) (sym same) (one_plain x xs (take n xs ++ s) ys e (again inside))

pub escaped_quote : (xs s ys : List ℕ) → HasText xs s ys → HasText (92 ∷ 34 ∷ xs) (34 ∷ s) ys
unfolding content lex short_escape
escaped_quote xs s ys h = (rw h.0 refl, h.1)

pub escaped_backslash : (xs s ys : List ℕ) → HasText xs s ys → HasText (92 ∷ 92 ∷ xs) (92 ∷ s) ys
unfolding content lex short_escape
escaped_backslash xs s ys h = (rw h.0 refl, h.1)

pub closed_text : (ys : List ℕ) → HasText (34 ∷ ys) [] ys
closed_text ys = text_ends ys

pub text_lexed : (xs s ys : List ℕ) → HasText xs s ys → lex between (34 ∷ xs) ≡ token (string s) ∷ lex between ys
unfolding lex
text_lexed xs s ys h = rw (h.0, h.1) refl

-- ---- a comma or a closing bracket

pub record EndsWell (r : List ℕ) : Type 0 where
  pub whole : lex in_word r ≡ lex between r
  ended : ends_word r ≡ true
  no_colon : begins_colon (lex between r) ≡ false

at_comma : (xs : List ℕ) → EndsWell (44 ∷ xs)
unfolding lex
at_comma xs = record { whole = refl; ended = refl; no_colon = refl }

at_brace : (xs : List ℕ) → EndsWell (125 ∷ xs)
unfolding lex
at_brace xs = record { whole = refl; ended = refl; no_colon = refl }

at_bracket : (xs : List ℕ) → EndsWell (93 ∷ xs)
unfolding lex
at_bracket xs = record { whole = refl; ended = refl; no_colon = refl }

pub ends_well : (r : List ℕ) → ends r ≡ true → EndsWell r
ends_well [] h = absurd (cc)
ends_well (x ∷ xs) h = go (x == 44) (x == 125) (x == 93) refl refl refl h
  where
    go : (a b c : Bool) → (x == 44) ≡ a → (x == 125) ≡ b → (x == 93) ≡ c → (a || b || c) ≡ true → EndsWell (x ∷ xs)
    go true b c ea eb ec t = subst (λ (y : ℕ). EndsWell (y ∷ xs)) (sym (eqb-true x 44 ea)) (at_comma xs)
    go false true c ea eb ec t = subst (λ (y : ℕ). EndsWell (y ∷ xs)) (sym (eqb-true x 125 eb)) (at_brace xs)
    go false false true ea eb ec t = subst (λ (y : ℕ). EndsWell (y ∷ xs)) (sym (eqb-true x 93 ec)) (at_bracket xs)
    go false false false ea eb ec t = absurd (cc)

-- ---- values

text_placed : (p : Place) (s : List ℕ) (ls : List Lexeme) → may_begin p ≡ true → begins_colon ls ≡ false → punctuate p (token (string s) ∷ ls) ≡ string s ∷ punctuate after_value ls
unfolding punctuate
text_placed fresh s ls m e = rw e refl
text_placed after_value s ls m e = absurd (cc)
text_placed after_comma s ls m e = rw e refl
text_placed after_key s ls m e = absurd (cc)

flag_placed : (p : Place) (b : Bool) (ls : List Lexeme) → may_begin p ≡ true → punctuate p (token (boolean b) ∷ ls) ≡ boolean b ∷ punctuate after_value ls
unfolding punctuate
flag_placed fresh b ls m = refl
flag_placed after_value b ls m = absurd (cc)
flag_placed after_comma b ls m = refl
flag_placed after_key b ls m = absurd (cc)

null_placed : (p : Place) (ls : List Lexeme) → may_begin p ≡ true → punctuate p (token null ∷ ls) ≡ null ∷ punctuate after_value ls
unfolding punctuate
null_placed fresh ls m = refl
null_placed after_value ls m = absurd (cc)
null_placed after_comma ls m = refl
null_placed after_key ls m = absurd (cc)

pub text_at : (bytes : List ℕ) (at e : ℕ) (s : List ℕ) → TextAt bytes at s e → ValueAt 0 bytes at (text s) e
text_at bytes at e s here = λ p m closes.
    text_taken (left bytes p at) (left bytes after_value e) s (ap (punctuate p) here ∙ text_placed p s (lex between (drop e bytes)) m (ends_well (drop e bytes) closes).no_colon)

true_word : (r : List ℕ) → ends_word r ≡ true → word (116 ∷ 114 ∷ 117 ∷ 101 ∷ r) ≡ boolean true
unfolding word
true_word r h = rw h refl

true_lexed : (r : List ℕ) → EndsWell r → lex between (116 ∷ 114 ∷ 117 ∷ 101 ∷ r) ≡ token (boolean true) ∷ lex between r
unfolding lex
true_lexed r w = rw (true_word r w.ended, w.whole) refl

false_word : (r : List ℕ) → ends_word r ≡ true → word (102 ∷ 97 ∷ 108 ∷ 115 ∷ 101 ∷ r) ≡ boolean false
unfolding word
false_word r h = rw h refl

false_lexed : (r : List ℕ) → EndsWell r → lex between (102 ∷ 97 ∷ 108 ∷ 115 ∷ 101 ∷ r) ≡ token (boolean false) ∷ lex between r
unfolding lex
false_lexed r w = rw (false_word r w.ended, w.whole) refl

null_word : (r : List ℕ) → ends_word r ≡ true → word (110 ∷ 117 ∷ 108 ∷ 108 ∷ r) ≡ null
unfolding word
null_word r h = rw h refl

null_lexed : (r : List ℕ) → EndsWell r → lex between (110 ∷ 117 ∷ 108 ∷ 108 ∷ r) ≡ token null ∷ lex between r
unfolding lex
null_lexed r w = rw (null_word r w.ended, w.whole) refl

pub true_at : (bytes : List ℕ) (at e : ℕ) → drop at bytes ≡ 116 ∷ 114 ∷ 117 ∷ 101 ∷ drop e bytes → ValueAt 0 bytes at (flag true) e
true_at bytes at e here = λ p m closes.
    flag_taken (left bytes p at) (left bytes after_value e) true
    (ap (λ (xs : List ℕ). punctuate p (lex between xs)) here ∙ ap (punctuate p) (true_lexed (drop e bytes) (ends_well (drop e bytes) closes)) ∙ flag_placed p true (lex between (drop e bytes)) m)

pub false_at : (bytes : List ℕ) (at e : ℕ) → drop at bytes ≡ 102 ∷ 97 ∷ 108 ∷ 115 ∷ 101 ∷ drop e bytes → ValueAt 0 bytes at (flag false) e
false_at bytes at e here = λ p m closes.
    flag_taken (left bytes p at) (left bytes after_value e) false
    (ap (λ (xs : List ℕ). punctuate p (lex between xs)) here ∙ ap (punctuate p) (false_lexed (drop e bytes) (ends_well (drop e bytes) closes)) ∙ flag_placed p false (lex between (drop e bytes)) m)

pub null_at : (bytes : List ℕ) (at e : ℕ) → drop at bytes ≡ 110 ∷ 117 ∷ 108 ∷ 108 ∷ drop e bytes → ValueAt 0 bytes at nothing e
null_at bytes at e here = λ p m closes.
    null_taken (left bytes p at) (left bytes after_value e)
    (ap (λ (xs : List ℕ). punctuate p (lex between xs)) here ∙ ap (punctuate p) (null_lexed (drop e bytes) (ends_well (drop e bytes) closes)) ∙ null_placed p (lex between (drop e bytes)) m)

-- ---- brackets, keys and commas

pub opened_array : (p : Place) (xs : List ℕ) → may_begin p ≡ true → punctuate p (lex between (91 ∷ xs)) ≡ begin_array ∷ punctuate fresh (lex between xs)
unfolding lex punctuate
opened_array fresh xs m = refl
opened_array after_value xs m = absurd (cc)
opened_array after_comma xs m = refl
opened_array after_key xs m = absurd (cc)

pub opened_object : (p : Place) (xs : List ℕ) → may_begin p ≡ true → punctuate p (lex between (123 ∷ xs)) ≡ begin_object ∷ punctuate fresh (lex between xs)
unfolding lex punctuate
opened_object fresh xs m = refl
opened_object after_value xs m = absurd (cc)
opened_object after_comma xs m = refl
opened_object after_key xs m = absurd (cc)

pub closed_array : (xs : List ℕ) → punctuate after_value (lex between (93 ∷ xs)) ≡ end_array ∷ punctuate after_value (lex between xs)
unfolding lex punctuate
closed_array xs = refl

pub closed_object : (xs : List ℕ) → punctuate after_value (lex between (125 ∷ xs)) ≡ end_object ∷ punctuate after_value (lex between xs)
unfolding lex punctuate
closed_object xs = refl

pub empty_array : (xs : List ℕ) → punctuate fresh (lex between (93 ∷ xs)) ≡ end_array ∷ punctuate after_value (lex between xs)
unfolding lex punctuate
empty_array xs = refl

pub empty_object : (xs : List ℕ) → punctuate fresh (lex between (125 ∷ xs)) ≡ end_object ∷ punctuate after_value (lex between xs)
unfolding lex punctuate
empty_object xs = refl

pub passed_comma : (xs : List ℕ) → punctuate after_value (lex between (44 ∷ xs)) ≡ punctuate after_comma (lex between xs)
unfolding lex punctuate
passed_comma xs = refl

colon_lexed : (xs : List ℕ) → lex between (58 ∷ xs) ≡ colon ∷ lex between xs
unfolding lex
colon_lexed xs = refl

key_placed : (p : Place) (k : List ℕ) (ls : List Lexeme) → may_begin p ≡ true → punctuate p (token (string k) ∷ colon ∷ ls) ≡ key k ∷ punctuate fresh ls
unfolding punctuate
key_placed fresh k ls m = refl
key_placed after_value k ls m = absurd (cc)
key_placed after_comma k ls m = refl
key_placed after_key k ls m = absurd (cc)

pub key_at : (bytes : List ℕ) (p : Place) (at e : ℕ) (k xs : List ℕ) → may_begin p ≡ true → TextAt bytes at k e → drop e bytes ≡ 58 ∷ xs → left bytes p at ≡ key k ∷ punctuate fresh (lex between xs)
key_at bytes p at e k xs m here is =
    ap (punctuate p) (here ∙ ap (λ (ys : List ℕ). token (string k) ∷ lex between ys) is ∙ ap (λ (ls : List Lexeme). token (string k) ∷ ls) (colon_lexed xs)) ∙ key_placed p k (lex between xs) m

-- ---- the byte at a place

pub next_byte : (bytes : List ℕ) (at x : ℕ) → get_or bytes at 0 ≡ x → 0 < x → drop at bytes ≡ x ∷ drop (at + 1) bytes
next_byte [] at x e h = absurd (omega arith)
next_byte (b ∷ bs) zero x e h = ap (λ (y : ℕ). y ∷ bs) e
next_byte (b ∷ bs) (suc n) x e h =
    let same : n + 1 + 1 ≡ suc n + 1 = omega arith in
    let later : suc (n + 1) ≡ suc n + 1 = omega arith in
    next_byte bs n x e h ∙ ap (λ (m : ℕ). x ∷ drop m (b ∷ bs)) later

pub two_bytes : (bytes : List ℕ) (at x y : ℕ) → get_or bytes at 0 ≡ x → get_or bytes (at + 1) 0 ≡ y → 0 < x → 0 < y → drop at bytes ≡ x ∷ y ∷ drop (at + 2) bytes
two_bytes bytes at x y ex ey hx hy =
    let same : at + 1 + 1 ≡ at + 2 = omega arith in
    next_byte bytes at x ex hx ∙ ap (λ (xs : List ℕ). x ∷ xs) (next_byte bytes (at + 1) y ey hy ∙ ap (λ (m : ℕ). y ∷ drop m bytes) same)

pub plain_run : (bytes : List ℕ) (from i : ℕ) (s ys : List ℕ) → i ≡ from + prefix_len is_plain (drop from bytes) → HasText (drop i bytes) s ys → (t : List ℕ) × HasText (drop from bytes) t ys
plain_run bytes from i s ys e h =
    let n = prefix_len is_plain (drop from bytes) in
    let there : drop i bytes ≡ drop n (drop from bytes) = ap (λ (m : ℕ). drop m bytes) e ∙ sym (drop-drop n from bytes) in
    (take n (drop from bytes) ++ s, run_of_text (drop from bytes) s ys (subst (λ (xs : List ℕ). HasText xs s ys) there h))

-- ---- the same by the byte at a place

module _ (bytes : List ℕ) (at : ℕ) where
  pub array_opens : (p : Place) → may_begin p ≡ true → get_or bytes at 0 ≡ 91 → left bytes p at ≡ begin_array ∷ left bytes fresh (at + 1)
  array_opens p m e = ap (λ (xs : List ℕ). punctuate p (lex between xs)) (next_byte bytes at 91 e (omega arith)) ∙ opened_array p (drop (at + 1) bytes) m

  pub array_empties : get_or bytes at 0 ≡ 93 → left bytes fresh at ≡ end_array ∷ left bytes after_value (at + 1)
  array_empties e = ap (λ (xs : List ℕ). punctuate fresh (lex between xs)) (next_byte bytes at 93 e (omega arith)) ∙ empty_array (drop (at + 1) bytes)

  pub array_closes : get_or bytes at 0 ≡ 93 → left bytes after_value at ≡ end_array ∷ left bytes after_value (at + 1)
  array_closes e = ap (λ (xs : List ℕ). punctuate after_value (lex between xs)) (next_byte bytes at 93 e (omega arith)) ∙ closed_array (drop (at + 1) bytes)

  pub comma_passes : get_or bytes at 0 ≡ 44 → left bytes after_value at ≡ left bytes after_comma (at + 1)
  comma_passes e = ap (λ (xs : List ℕ). punctuate after_value (lex between xs)) (next_byte bytes at 44 e (omega arith)) ∙ passed_comma (drop (at + 1) bytes)

  pub comma_ends : get_or bytes at 0 ≡ 44 → ends (drop at bytes) ≡ true
  comma_ends e = ap (λ (xs : List ℕ). ends xs) (next_byte bytes at 44 e (omega arith))

  pub bracket_ends : get_or bytes at 0 ≡ 93 → ends (drop at bytes) ≡ true
  bracket_ends e = ap (λ (xs : List ℕ). ends xs) (next_byte bytes at 93 e (omega arith))

  pub brace_ends : get_or bytes at 0 ≡ 125 → ends (drop at bytes) ≡ true
  brace_ends e = ap (λ (xs : List ℕ). ends xs) (next_byte bytes at 125 e (omega arith))

  pub object_opens : (p : Place) → may_begin p ≡ true → get_or bytes at 0 ≡ 123 → left bytes p at ≡ begin_object ∷ left bytes fresh (at + 1)
  object_opens p m e = ap (λ (xs : List ℕ). punctuate p (lex between xs)) (next_byte bytes at 123 e (omega arith)) ∙ opened_object p (drop (at + 1) bytes) m

  pub object_empties : get_or bytes at 0 ≡ 125 → left bytes fresh at ≡ end_object ∷ left bytes after_value (at + 1)
  object_empties e = ap (λ (xs : List ℕ). punctuate fresh (lex between xs)) (next_byte bytes at 125 e (omega arith)) ∙ empty_object (drop (at + 1) bytes)

  pub object_closes : get_or bytes at 0 ≡ 125 → left bytes after_value at ≡ end_object ∷ left bytes after_value (at + 1)
  object_closes e = ap (λ (xs : List ℕ). punctuate after_value (lex between xs)) (next_byte bytes at 125 e (omega arith)) ∙ closed_object (drop (at + 1) bytes)

  -- ---- by what a call gave

  pub if_text : (form : Data → Bool) → ((s : List ℕ) → form (text s) ≡ true) → (r : Option ℕ) → IfSome r (λ e. (s : List ℕ) × TextAt bytes at s e) → IfSome r (λ e. TakesAt 0 form bytes at e)
  if_text form fits None h = tt
  if_text form fits (Some e) h = (text h.0, text_at bytes at e h.0 h.1, fits h.0)

  pub if_null : (form : Data → Bool) → form nothing ≡ true → (r : Option ℕ) → IfSome r (λ e. ValueAt 0 bytes at nothing e) → IfSome r (λ e. TakesAt 0 form bytes at e)
  if_null form fits None h = tt
  if_null form fits (Some e) h = (nothing, h, fits)

  -- a string without escapes is what is between its quotes
  pub text_slice : (e : ℕ) → get_or bytes at 0 ≡ 34 → e ≡ at + 1 + prefix_len is_plain (drop (at + 1) bytes) → get_or bytes e 0 ≡ 34 → TextAt bytes at (take (e - (at + 1)) (drop (at + 1) bytes)) (e + 1)
  text_slice e first is last =
      let xs = drop (at + 1) bytes in
      let n = prefix_len is_plain xs in
      let ys = drop (e + 1) bytes in
      let there : drop n xs ≡ 34 ∷ ys = drop-drop n (at + 1) bytes ∙ ap (λ (m : ℕ). drop m bytes) (sym is) ∙ next_byte bytes e 34 last (omega arith) in
      let long : n ≡ e - (at + 1) = omega arith in
      let whole : take n xs ++ [] ≡ take (e - (at + 1)) xs = append-nil (take n xs) ∙ ap (λ (m : ℕ). take m xs) long in
      let h = run_of_text xs [] ys (subst (λ (zs : List ℕ). HasText zs [] ys) (sym there) (closed_text ys)) in
      ap (λ (zs : List ℕ). lex between zs) (next_byte bytes at 34 first (omega arith)) ∙ text_lexed xs (take n xs ++ []) ys h ∙ ap (λ (t : List ℕ). token (string t) ∷ lex between ys) whole

module _ (bytes : List ℕ) (n : ℕ) (place : Place) (from key end : ℕ) (k : List ℕ) (d : Data) (m : may_begin place ≡ true) (here : TextAt bytes from k key) (colon_is : get_or bytes key 0 ≡ 58) (v : ValueAt n bytes (key + 1) d end) where
  named : left bytes place from ≡ Token.key k ∷ left bytes fresh (key + 1)
  named = key_at bytes place from key k (drop (key + 1) bytes) m here (next_byte bytes key 58 colon_is (omega arith))

  pub with_member : get_or bytes end 0 ≡ 44 → (found ms : Members) (r : List Token) → AreMembers n (left bytes after_comma (end + 1)) (put k d found) ms r → AreMembers n (left bytes place from) found ms r
  with_member comma_is found ms r rest =
      members_more n (left bytes place from) (left bytes fresh (key + 1)) (left bytes after_comma (end + 1)) r k d found ms named
      (subst (λ (t : List Token). IsValue n (left bytes fresh (key + 1)) d t) (comma_passes bytes end comma_is) (v fresh refl (comma_ends bytes end comma_is))) rest

  pub last_member : get_or bytes end 0 ≡ 125 → (found : Members) → AreMembers n (left bytes place from) found (put k d found) (left bytes after_value (end + 1))
  last_member brace_is found =
      members_more n (left bytes place from) (left bytes fresh (key + 1)) (left bytes after_value end) (left bytes after_value (end + 1)) k d found (put k d found) named
      (v fresh refl (brace_ends bytes end brace_is)) (members_end n (left bytes after_value end) (left bytes after_value (end + 1)) (put k d found) (object_closes bytes end brace_is))

  pub whole_before_comma : get_or bytes end 0 ≡ 44 → has_float d ≡ false
  whole_before_comma comma_is = (v fresh refl (comma_ends bytes end comma_is)).whole

  pub whole_before_brace : get_or bytes end 0 ≡ 125 → has_float d ≡ false
  whole_before_brace brace_is = (v fresh refl (brace_ends bytes end brace_is)).whole

-- ---- the end

pub none_left : (bytes : List ℕ) (n : ℕ) → length bytes ≤ n → left bytes after_value n ≡ []
unfolding lex punctuate
none_left bytes n h = ap (λ (xs : List ℕ). punctuate after_value (lex between xs)) (drop_all n bytes h)

-- ---- deeper

pub deeper_at : (bytes : List ℕ) (at m n e : ℕ) (d : Data) → m ≤ n → ValueAt m bytes at d e → ValueAt n bytes at d e
deeper_at bytes at m n e d le v = λ p b closes. deeper m n (left bytes p at) (left bytes after_value e) d le (v p b closes)
