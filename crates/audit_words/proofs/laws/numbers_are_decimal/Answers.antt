use Rattle.audit_words.proofs.Decimal.{digit-behind, number-decimal}
use Rattle.audit_words.proofs.laws.numbers_are_decimal.Goals as goal

pub returns : goal.returns
returns c = record { read = number-decimal; digits = digit-behind }
