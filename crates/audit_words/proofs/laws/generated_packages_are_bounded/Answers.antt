use Rattle.audit_words.proofs.Makeable.{bounded}
use Rattle.audit_words.proofs.laws.generated_packages_are_bounded.Goals as goal

pub returns : goal.returns
returns c = bounded
