-- Members written one after the other.
use Rattle.std.proofs.Common.{◌≡◌, ℕ, Bool, true, List, [], ◌∷◌, ◌++◌, refl, sym, subst, ap, ◌∙◌, append-nil, append_assoc}
use Rattle.json.specs.Json.{Json}
use Rattle.json.specs.Token.{Token, begin_object, end_object, key}
use Rattle.json.specs.Tree.{json_tokens, members_tokens}
use Rattle.json.specs.Written.{Written}
use Rattle.report_parts.specs.Values.{listed_tokens, member_if}
use Rattle.report_parts.specs.WrittenTokens.{WritesTokens}
use Rattle.report_parts.specs.Values.{members_of, object_of}
use Rattle.report_parts.proofs.Writing.{behind}

members-append : (xs ys : List (List ℕ × Json))
    → members_tokens (members_of (xs ++ ys)) ≡ listed_tokens xs ++ members_tokens (members_of ys)
members-append [] ys = refl
members-append (m ∷ xs) ys =
    ap (λ t. key m.0 ∷ (json_tokens m.1 ++ t)) (members-append xs ys)
    ∙ ap (λ t. key m.0 ∷ t) (sym (append_assoc (json_tokens m.1) (listed_tokens xs) (members_tokens (members_of ys))))

members-listed : (xs : List (List ℕ × Json)) → members_tokens (members_of xs) ≡ listed_tokens xs ++ end_object ∷ []
members-listed xs = ap (λ ms. members_tokens (members_of ms)) (sym (append-nil xs)) ∙ members-append xs []

-- an object of four lists of members
pub adds_four : (ks ls ms ns : List (List ℕ × Json)) (a b : Written)
    → WritesTokens a b (begin_object ∷ (listed_tokens ks ++ (listed_tokens ls ++ (listed_tokens ms ++ (listed_tokens ns ++ end_object ∷ [])))))
    → WritesTokens a b (json_tokens (object_of (ks ++ (ls ++ (ms ++ ns)))))
adds_four ks ls ms ns a b h =
    let P : List Token → Type 0 = λ ts. WritesTokens a b (begin_object ∷ ts) in
    subst P
    (sym (members-append ks (ls ++ (ms ++ ns))
    ∙ ap (λ t. listed_tokens ks ++ t) (members-append ls (ms ++ ns)
    ∙ ap (λ t. listed_tokens ls ++ t) (members-append ms ns
    ∙ ap (λ t. listed_tokens ms ++ t) (members-listed ns)))))
    h

-- one member alone
pub adds_member : (k : List ℕ) (j : Json) (a b : Written)
    → WritesTokens a b (key k ∷ json_tokens j) → WritesTokens a b (listed_tokens ((k, j) ∷ []))
adds_member k j a b h =
    let P : List Token → Type 0 = λ ts. WritesTokens a b (key k ∷ ts) in
    subst P (sym (append-nil (json_tokens j))) h

pub adds_member_if : (stands : Bool) (k : List ℕ) (j : Json) (a b : Written) → stands ≡ true
    → WritesTokens a b (key k ∷ json_tokens j) → WritesTokens a b (listed_tokens (member_if stands k j))
adds_member_if stands k j a b e h =
    let P : Bool → Type 0 = λ s. WritesTokens a b (listed_tokens (member_if s k j)) in
    subst P (sym e) (adds_member k j a b h)

-- the members of an object, before others
pub members_behind : (ms ns : List (List ℕ × Json)) {a b c : Written}
    → WritesTokens b c (members_tokens (members_of ns)) → WritesTokens a b (listed_tokens ms)
    → WritesTokens a c (members_tokens (members_of (ms ++ ns)))
members_behind ms ns {a = a} {c = c} h k =
    let P : List Token → Type 0 = λ ts. WritesTokens a c ts in
    subst P (sym (members-append ms ns)) (behind h k)

-- the last members of an object, and its end
pub members_last : (ms : List (List ℕ × Json)) {a b c : Written}
    → WritesTokens b c (end_object ∷ []) → WritesTokens a b (listed_tokens ms) → WritesTokens a c (members_tokens (members_of ms))
members_last ms {a = a} {c = c} h k =
    let P : List Token → Type 0 = λ ts. WritesTokens a c ts in
    subst P (sym (members-listed ms)) (behind h k)
