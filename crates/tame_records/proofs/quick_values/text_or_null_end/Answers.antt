use Rattle.std.proofs.Common.{refl}
use Rattle.tame_records.specs.VersionFlags.{is_text_or_null}
use Rattle.tame_records.proofs.QuickLex.{if_null, if_text}
use Rattle.tame_records.proofs.quick_values.text_or_null_end.Goals as goal

pub returns-then-byte_at-eq34-clause-value : goal.returns-then-byte_at-eq34-clause-value
returns-then-byte_at-eq34-clause-value c = if_text c.args.bytes.now c.args.at is_text_or_null (λ s. refl) c.text_end.result c.text_end.ensures.value

pub returns-else-byte_at-eq34-clause-value : goal.returns-else-byte_at-eq34-clause-value
returns-else-byte_at-eq34-clause-value c = if_null c.args.bytes.now c.args.at is_text_or_null refl c.null_end.result c.null_end.ensures.value
