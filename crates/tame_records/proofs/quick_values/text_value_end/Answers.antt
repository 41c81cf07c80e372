use Rattle.std.proofs.Common.{refl}
use Rattle.tame_records.specs.VersionFlags.{is_text}
use Rattle.tame_records.proofs.QuickLex.{if_text}
use Rattle.tame_records.proofs.quick_values.text_value_end.Goals as goal

pub returns-clause-value : goal.returns-clause-value
returns-clause-value c = if_text c.args.bytes.now c.args.at is_text (λ s. refl) c.text_end.result c.text_end.ensures.value
