use Rattle.std.proofs.Common.{◌≡◌, true, sym, ◌∙◌, rules}
use Rattle.serde_json.specs.Data.{string}
use Rattle.tame_records.proofs.QuickLex.{text_at}
use Rattle.tame_records.proofs.quick_values.digest_end.Goals as goal

pub returns-clause-value : goal.returns-clause-value
returns-clause-value c =
    let text = c.in_ok-text.text.now in
    let said : c.is_digest_text.result ≡ true = search rules in
    (string text, text_at c.args.bytes.now c.args.at c.in_ok-text.end text c.in_ok-text.ensures.value, sym c.is_digest_text.ensures ∙ said)
