-- Pieces written one after the other.
use Rattle.std.proofs.Common.{◌≡◌, ◌+◌, ◌<◌, ℕ, List, [], ◌∷◌, ◌++◌, length, take, get_or, map, refl, sym, subst, ap, ◌∙◌, append-nil, append_assoc}
use Rattle.std.specs.List.{flat_map}
use Rattle.std.proofs.lemmas.Grind.{flat_map-append}
use Rattle.std.proofs.lemmas.List.{map-append, take_more}
use Rattle.json.specs.Json.{Json}
use Rattle.json.specs.Token.{Token, begin_array, end_array}
use Rattle.json.specs.Tree.{items_tokens, json_tokens}
use Rattle.report_parts.specs.Values.{array_of, items_of}
use Rattle.json.specs.Written.{Written}
use Rattle.report_parts.specs.WrittenTokens.{WritesTokens}

-- what was written last, and the piece before it
pub behind : {old mid new : Written} {piece rest : List Token}
    → WritesTokens mid new rest → WritesTokens old mid piece → WritesTokens old new (piece ++ rest)
behind {old = old} {piece = piece} {rest = rest} h k = record {
  tokens = h.tokens ∙ ap (λ t. t ++ rest) k.tokens ∙ append_assoc old.tokens piece rest;
  before = h.before ∙ k.before;
}

pub adds_none : (w : Written) → WritesTokens w w []
adds_none w = record { tokens = sym (append-nil w.tokens); before = refl }

-- the tokens of values, one after the other
abbrev pub values_tokens : List Json → List Token
values_tokens js = flat_map json_tokens js

-- an array's tokens are those of its items, then its end
pub items_tokens-items_of : (js : List Json) → items_tokens (items_of js) ≡ values_tokens js ++ end_array ∷ []
items_tokens-items_of [] = refl
items_tokens-items_of (j ∷ js) =
    ap (λ t. json_tokens j ++ t) (items_tokens-items_of js)
    ∙ sym (append_assoc (json_tokens j) (values_tokens js) (end_array ∷ []))

-- the values of one more item
pub values_more : {X : Type 0} (g : X → List Json) (xs : List X) (i : ℕ) (d : X) → i < length xs
    → values_tokens (flat_map g (take (i + 1) xs)) ≡ values_tokens (flat_map g (take i xs)) ++ values_tokens (g (get_or xs i d))
values_more g xs i d l =
    ap (λ ys. values_tokens (flat_map g ys)) (take_more xs i d l)
    ∙ ap values_tokens (flat_map-append g (take i xs) (get_or xs i d ∷ []))
    ∙ ap (λ js. values_tokens (flat_map g (take i xs) ++ js)) (append-nil (g (get_or xs i d)))
    ∙ flat_map-append json_tokens (flat_map g (take i xs)) (g (get_or xs i d))

-- the values of the first items, then those of one more
pub adds_next : {X : Type 0} (g : X → List Json) (xs : List X) (i : ℕ) (d : X) → i < length xs
    → (a b c : Written) → WritesTokens a b (values_tokens (flat_map g (take i xs))) → WritesTokens b c (values_tokens (g (get_or xs i d)))
    → WritesTokens a c (values_tokens (flat_map g (take (i + 1) xs)))
adds_next g xs i d l a b c h k =
    let P : List Token → Type 0 = λ ts. WritesTokens a c ts in
    subst P (sym (values_more g xs i d l)) (behind k h)

-- an array of these values
pub adds_array : (js : List Json) (a b : Written)
    → WritesTokens a b (begin_array ∷ (values_tokens js ++ end_array ∷ [])) → WritesTokens a b (json_tokens (array_of js))
adds_array js a b h =
    let P : List Token → Type 0 = λ ts. WritesTokens a b (begin_array ∷ ts) in
    subst P (sym (items_tokens-items_of js)) h

-- the values of the first items, then that of one more
pub adds_next_item : {X : Type 0} (f : X → Json) (xs : List X) (i : ℕ) (x : X) → i < length xs → x ≡ get_or xs i x
    → {a b c : Written} → WritesTokens a b (values_tokens (map f (take i xs))) → WritesTokens b c (json_tokens (f x))
    → WritesTokens a c (values_tokens (map f (take (i + 1) xs)))
adds_next_item f xs i x l e {a = a} {c = c} h k =
    let P : List Token → Type 0 = λ ts. WritesTokens a c ts in
    let more : values_tokens (map f (take (i + 1) xs)) ≡ values_tokens (map f (take i xs)) ++ json_tokens (f x) =
    ap (λ ys. values_tokens (map f ys)) (take_more xs i x l)
    ∙ ap (λ y. values_tokens (map f (take i xs ++ y ∷ []))) (sym e)
    ∙ ap values_tokens (map-append f (take i xs) (x ∷ []))
    ∙ flat_map-append json_tokens (map f (take i xs)) (f x ∷ [])
    ∙ ap (λ ts. values_tokens (map f (take i xs)) ++ ts) (append-nil (json_tokens (f x))) in
    subst P (sym more) (behind k h)
