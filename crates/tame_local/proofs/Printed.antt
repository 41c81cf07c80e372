-- A written line has no newline: strings escape them, and nothing else has one.
use Rattle.std.proofs.Common.{◌≡◌, ℕ, ◌+◌, ◌<◌, ◌/◌, ◌%◌, ◌^◌, ◌==◌, List, [], ◌∷◌, ◌++◌, codes, decimal, Bool, true, false, cond, Option, Some, None, refl, arith, inl, inr, subst, lit<}
use Rattle.std.specs.Prelude.{◌&&◌, ◌||◌, nat_lt, IfSome}
use Rattle.std.specs.Char.{digit_char, digit_value}
use Rattle.std.specs.Str.Parse.{AllDigits}
use Rattle.std.proofs.lemmas.Bool.{cases_Bool}
use Rattle.std.proofs.lemmas.Bool.Decides.{nat_tests}
use Rattle.std.proofs.lemmas.Fmt.{decimal_is_IsNumeral}
use Rattle.json.specs.Json.{Json, null, boolean, number, string, array, object, Items, no_items, item, Members, no_members, member}
use Rattle.json.specs.Print.{begins, ends, escape, escape_byte, escape_letter, print_from, quoted, separator, token_text}
use Rattle.json.specs.Token.{Token}
use Rattle.json.specs.Token as token
use Rattle.json.specs.Tree.{json_tokens, items_tokens, members_tokens}
use Rattle.tame_records.specs.Members.{Lists}
use Rattle.tame_records.specs.Written.{dependencies_tree, dependency_tree, later_members, line, lists_if, lists_tree, number_if, text_if, text_or_null_tree, texts_tree, version_tree}
use Rattle.tame_records.specs.declared.dependencies.IndexDependency.{IndexDependency}
use Rattle.tame_records.specs.declared.versions.IndexVersion.{IndexVersion}
use Rattle.tame_local.proofs.RegistryPaths.{lacks_both}
use Rattle.tame_local.specs.CrateFiles.{Lacks}

-- ---- strings

far : (n d : ℕ) → 10 < n → (n + d == 10) ≡ false
far n d low = grind (arith, nat_tests)

digit_case : (t : Bool) (d : ℕ) → (cond t (48 + d) (87 + d) == 10) ≡ false
digit_case true d = far 48 d (lit< tt)
digit_case false d = far 87 d (lit< tt)

letter_case : (a b c d e f : Bool) (x : ℕ) → (x == 10) ≡ false → (cond a x (cond b 98 (cond c 102 (cond d 110 (cond e 114 (cond f 116 0))))) == 10) ≡ false
letter_case true b c d e f x h = h
letter_case false true c d e f x h = refl
letter_case false false true d e f x h = refl
letter_case false false false true e f x h = refl
letter_case false false false false true f x h = refl
letter_case false false false false false true x h = refl
letter_case false false false false false false x h = refl

byte_case : (p q : Bool) (x y m n : ℕ) → (x == 10) ≡ false → (y == 10) ≡ false → (m == 10) ≡ false → (n == 10) ≡ false
    → Lacks 10 (cond p (92 ∷ y ∷ []) (cond q (92 ∷ 117 ∷ 48 ∷ 48 ∷ m ∷ n ∷ []) (x ∷ [])))
byte_case true q x y m n hx hy hm hn = (refl, (hy, tt))
byte_case false true x y m n hx hy hm hn = (refl, (refl, (refl, (refl, (hm, (hn, tt))))))
byte_case false false x y m n hx hy hm hn = (hx, tt)

newline_escaped : Lacks 10 (escape_byte 10)
unfolding escape_byte
newline_escaped = (refl, (refl, tt))

other_escaped : (x : ℕ) → (x == 10) ≡ false → Lacks 10 (escape_byte x)
unfolding escape_byte
other_escaped x h =
    byte_case (nat_lt 0 (escape_letter x)) (nat_lt x 32) x (escape_letter x) (digit_char (x / 16)) (digit_char (x % 16)) h
    (letter_case ((x == 34) || (x == 92)) (x == 8) (x == 12) (x == 10) (x == 13) (x == 9) x h)
    (digit_case (nat_lt (x / 16) 10) (x / 16)) (digit_case (nat_lt (x % 16) 10) (x % 16))

byte_lacks : (x : ℕ) → Lacks 10 (escape_byte x)
byte_lacks x = elim (cases_Bool (x == 10)) [
  | inl here ↦
      let same : 10 ≡ x = grind (arith, nat_tests, here) in
      subst (λ y. Lacks 10 (escape_byte y)) same newline_escaped
  | inr other ↦ other_escaped x other
]

escape_lacks : (s : List ℕ) → Lacks 10 (escape s)
escape_lacks [] = tt
escape_lacks (x ∷ xs) = lacks_both 10 (escape_byte x) (escape xs) (byte_lacks x) (escape_lacks xs)

quoted_lacks : (s : List ℕ) → Lacks 10 (quoted s)
quoted_lacks s = (refl, lacks_both 10 (escape s) (34 ∷ []) (escape_lacks s) (refl, tt))

-- ---- tokens

abbrev TokenLacks : Token → Type 0
TokenLacks token.begin_object = Unit {0}
TokenLacks token.end_object = Unit {0}
TokenLacks token.begin_array = Unit {0}
TokenLacks token.end_array = Unit {0}
TokenLacks (token.key s) = Unit {0}
TokenLacks (token.string s) = Unit {0}
TokenLacks (token.number s) = Lacks 10 s
TokenLacks (token.boolean b) = Unit {0}
TokenLacks token.null = Unit {0}
TokenLacks token.bad = Unit {0}

abbrev TokensLack : List Token → Type 0
TokensLack [] = Unit {0}
TokensLack (t ∷ ts) = TokenLacks t × TokensLack ts

text_lacks : (t : Token) → TokenLacks t → Lacks 10 (token_text t)
text_lacks token.begin_object h = (refl, tt)
text_lacks token.end_object h = (refl, tt)
text_lacks token.begin_array h = (refl, tt)
text_lacks token.end_array h = (refl, tt)
text_lacks (token.key s) h = lacks_both 10 (quoted s) (58 ∷ []) (quoted_lacks s) (refl, tt)
text_lacks (token.string s) h = quoted_lacks s
text_lacks (token.number s) h = h
text_lacks (token.boolean true) h = (refl, (refl, (refl, (refl, tt))))
text_lacks (token.boolean false) h = (refl, (refl, (refl, (refl, (refl, tt)))))
text_lacks token.null h = (refl, (refl, (refl, (refl, tt))))
text_lacks token.bad h = tt

comma_lacks : (t : Bool) → Lacks 10 (cond t (44 ∷ []) [])
comma_lacks true = (refl, tt)
comma_lacks false = tt

print_lacks : (after : Bool) (ts : List Token) → TokensLack ts → Lacks 10 (print_from after ts)
unfolding print_from
print_lacks after [] h = tt
print_lacks after (t ∷ ts) h =
    lacks_both 10 (separator after t) (token_text t ++ print_from (ends t) ts) (comma_lacks (after && begins t))
    (lacks_both 10 (token_text t) (print_from (ends t) ts) (text_lacks t h.0) (print_lacks (ends t) ts h.1))

-- ---- trees

abbrev mutual
  NumbersLack : Json → Type 0
  NumbersLack null = Unit {0}
  NumbersLack (boolean b) = Unit {0}
  NumbersLack (number s) = Lacks 10 s
  NumbersLack (string s) = Unit {0}
  NumbersLack (array js) = ItemsLack js
  NumbersLack (object ms) = MembersLack ms

  ItemsLack : Items → Type 0
  ItemsLack no_items = Unit {0}
  ItemsLack (item j js) = NumbersLack j × ItemsLack js

  MembersLack : Members → Type 0
  MembersLack no_members = Unit {0}
  MembersLack (member k j ms) = NumbersLack j × MembersLack ms

tokens_both : (xs ys : List Token) → TokensLack xs → TokensLack ys → TokensLack (xs ++ ys)
tokens_both [] ys h g = g
tokens_both (x ∷ xs) ys h g = (h.0, tokens_both xs ys h.1 g)

mutual
  json_lacks : (j : Json) → NumbersLack j → TokensLack (json_tokens j)
  json_lacks null h = (tt, tt)
  json_lacks (boolean b) h = (tt, tt)
  json_lacks (number s) h = (h, tt)
  json_lacks (string s) h = (tt, tt)
  json_lacks (array js) h = (tt, items_lack js h)
  json_lacks (object ms) h = (tt, members_lack ms h)

  items_lack : (js : Items) → ItemsLack js → TokensLack (items_tokens js)
  items_lack no_items h = (tt, tt)
  items_lack (item j js) h = tokens_both (json_tokens j) (items_tokens js) (json_lacks j h.0) (items_lack js h.1)

  members_lack : (ms : Members) → MembersLack ms → TokensLack (members_tokens ms)
  members_lack no_members h = (tt, tt)
  members_lack (member k j ms) h = (tt, tokens_both (json_tokens j) (members_tokens ms) (json_lacks j h.0) (members_lack ms h.1))

-- ---- versions

texts_lack : (ts : List (List ℕ)) → ItemsLack (texts_tree ts)
texts_lack [] = tt
texts_lack (t ∷ ts) = (tt, texts_lack ts)

lists_lack : (ls : Lists) → MembersLack (lists_tree ls)
lists_lack [] = tt
lists_lack (l ∷ ls) = (texts_lack l.1, lists_lack ls)

text_if_lacks : (key : List ℕ) (text : Option (List ℕ)) (more : Members) → MembersLack more → MembersLack (text_if key text more)
text_if_lacks key None more h = h
text_if_lacks key (Some t) more h = (tt, h)

lists_if_lack : (key : List ℕ) (ls : Option Lists) (more : Members) → MembersLack more → MembersLack (lists_if key ls more)
lists_if_lack key None more h = h
lists_if_lack key (Some ls) more h = (lists_lack ls, h)

digits_lack : (ds : List ℕ) → AllDigits 10 ds → Lacks 10 ds
digits_lack [] h = tt
digits_lack (d ∷ ds) h = (digit_lacks d h.0, digits_lack ds h.1)
  where
    digit_lacks : (d : ℕ) → digit_value d < 10 → (d == 10) ≡ false
    digit_lacks d low = grind (arith, nat_tests)

number_if_lacks : (key : List ℕ) (n : Option ℕ) (more : Members) → IfSome n (λ n. n < 2 ^ 32) → MembersLack more → MembersLack (number_if key n more)
number_if_lacks key None more small h = h
number_if_lacks key (Some n) more small h = (digits_lack (decimal n) (decimal_is_IsNumeral n (omega (arith, small))).0.1, h)

target_lacks : (text : Option (List ℕ)) → NumbersLack (text_or_null_tree text)
target_lacks None = tt
target_lacks (Some t) = tt

dependency_lacks : (d : IndexDependency) → NumbersLack (dependency_tree d)
dependency_lacks d = (tt, (tt, (texts_lack d.features, (tt, (tt, (target_lacks d.target, (tt, text_if_lacks (codes "package") d.«package» no_members tt)))))))

dependencies_lack : (ds : List IndexDependency) → ItemsLack (dependencies_tree ds)
dependencies_lack [] = tt
dependencies_lack (d ∷ ds) = (dependency_lacks d, dependencies_lack ds)

later_lack : (v : IndexVersion) → IfSome v.v (λ n. n < 2 ^ 32) → MembersLack (later_members v)
later_lack v small =
    let number_last : Members = number_if (codes "v") v.v no_members in
    let times : Members = text_if (codes "pubtime") v.pubtime number_last in
    let rusts : Members = text_if (codes "rust_version") v.rust_version times in
    let links : Members = text_if (codes "links") v.links rusts in
    lists_if_lack (codes "features2") v.features2 (member (codes "yanked") (boolean v.yanked) links) (
      tt,
      text_if_lacks (codes "links") v.links rusts (text_if_lacks (codes "rust_version") v.rust_version times (text_if_lacks (codes "pubtime") v.pubtime number_last
          (number_if_lacks (codes "v") v.v no_members small tt))),
    )

version_lacks : (v : IndexVersion) → IfSome v.v (λ n. n < 2 ^ 32) → NumbersLack (version_tree v)
version_lacks v small = (tt, (tt, (dependencies_lack v.deps, (tt, (lists_lack v.features, later_lack v small)))))

-- the line of a version has no newline
pub line_lacks : (v : IndexVersion) → IfSome v.v (λ n. n < 2 ^ 32) → Lacks 10 (line v)
line_lacks v small = print_lacks false (json_tokens (version_tree v)) (json_lacks (version_tree v) (version_lacks v small))
