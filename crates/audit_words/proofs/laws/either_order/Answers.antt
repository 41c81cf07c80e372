use Rattle.audit_words.proofs.Order.{either_order}
use Rattle.audit_words.proofs.laws.either_order.Goals as goal

pub returns : goal.returns
returns c = either_order
