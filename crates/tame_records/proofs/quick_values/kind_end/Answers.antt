use Rattle.std.proofs.Common.{◌≡◌, true, refl, sym, ◌∙◌, rules}
use Rattle.serde_json.specs.Data.{string}
use Rattle.tame_records.specs.VersionFlags.{is_kind}
use Rattle.tame_records.proofs.QuickLex.{if_null, text_at}
use Rattle.tame_records.proofs.quick_values.kind_end.Goals as goal

pub returns-then-byte_at-ne34-clause-value : goal.returns-then-byte_at-ne34-clause-value
returns-then-byte_at-ne34-clause-value c = if_null c.args.bytes.now c.args.at is_kind refl c.null_end.result c.null_end.ensures.value

pub returns-clause-value : goal.returns-clause-value
returns-clause-value c =
    let text = c.in_ok-text.text.now in
    let said : c.is_kind_text.result ≡ true = search rules in
    (string text, text_at c.args.bytes.now c.args.at c.in_ok-text.end text c.in_ok-text.ensures.value, sym c.is_kind_text.ensures ∙ said)
