-- Tokens that are added one member after the other.
use Rattle.std.proofs.Common.{◌≡◌, ℕ, List, [], ◌∷◌, ◌++◌, ap, ◌∙◌, append_assoc}
use Rattle.json.specs.Token.{Token}
use Rattle.json.specs.Json.{Json, Members, member, object}
use Rattle.json.specs.Tree.{json_tokens, members_tokens}

pub opened : (before now : List Token) (ms : Members) → now ≡ before ++ Token.begin_object ∷ [] → now ++ members_tokens ms ≡ before ++ json_tokens (object ms)
opened before now ms h = ap (λ ts. ts ++ members_tokens ms) h ∙ append_assoc before (Token.begin_object ∷ []) (members_tokens ms)

pub keyed : (before named now : List Token) (key : List ℕ) (j : Json) (more : Members) → named ≡ before ++ Token.key key ∷ [] → now ≡ named ++ json_tokens j → now ++ members_tokens more ≡ before ++ members_tokens (member key j more)
keyed before named now key j more h k =
    ap (λ ts. ts ++ members_tokens more) k ∙ append_assoc named (json_tokens j) (members_tokens more)
    ∙ ap (λ ts. ts ++ (json_tokens j ++ members_tokens more)) h ∙ append_assoc before (Token.key key ∷ []) (json_tokens j ++ members_tokens more)
