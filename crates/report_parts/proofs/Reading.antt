-- What is written reads back.
use Rattle.std.proofs.Common.{◌≡◌, ◌≤◌, ℕ, List, [], ◌++◌, Some, option_and_then, sym, ap, ◌∙◌, append-nil}
use Rattle.json.specs.Token.{Token}
use Rattle.json.specs.Lex.{tokens}
use Rattle.json.specs.Json.{Json, value, if_last, max_depth, document}
use Rattle.json.specs.Print.{print}
use Rattle.json.specs.Tree.{depth, json_tokens}
use Rattle.json.proofs.Printed.Trees.{value-json_tokens}

-- the tokens that a reader finds in the text are the value that was written
pub reads_back : (j : Json) (before : List ℕ) (ts : List Token) (text : List ℕ)
    → before ≡ [] → ts ≡ json_tokens j → text ≡ before ++ print ts → tokens (print ts) ≡ ts
    → depth j ≤ max_depth → document text ≡ Some j
reads_back j before ts text none whole written read shallow =
    let found : tokens text ≡ json_tokens j =
    ap tokens (written ∙ ap (λ b. b ++ print ts) none) ∙ read ∙ whole in
    ap (option_and_then (λ p. if_last p.0 p.1))
    (ap (value max_depth) (found ∙ sym (append-nil (json_tokens j)))
    ∙ value-json_tokens j max_depth [] shallow)
