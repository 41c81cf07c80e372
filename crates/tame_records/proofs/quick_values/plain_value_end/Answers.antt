use Rattle.std.proofs.Common.{refl}
use Rattle.tame_records.specs.VersionFlags.{is_any}
use Rattle.tame_records.proofs.QuickLex.{if_null, if_text}
use Rattle.tame_records.proofs.quick_values.plain_value_end.Goals as goal

pub returns-then-first-eq34-clause-value : goal.returns-then-first-eq34-clause-value
returns-then-first-eq34-clause-value c = if_text c.args.bytes.now c.args.at is_any (λ s. refl) c.text_end.result c.text_end.ensures.value

pub returns-then-first-eq110-clause-value : goal.returns-then-first-eq110-clause-value
returns-then-first-eq110-clause-value c = if_null c.args.bytes.now c.args.at is_any refl c.null_end.result c.null_end.ensures.value
