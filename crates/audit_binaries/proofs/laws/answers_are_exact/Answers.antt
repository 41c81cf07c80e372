use Rattle.audit_binaries.proofs.Exact.{exact_binary}
use Rattle.audit_binaries.proofs.laws.answers_are_exact.Goals as goal

pub returns : goal.returns
returns c = exact_binary
