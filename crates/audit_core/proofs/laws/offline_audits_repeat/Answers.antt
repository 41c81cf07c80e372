use Rattle.audit_core.proofs.Repeating.{audits_repeat}
use Rattle.audit_core.proofs.laws.offline_audits_repeat.Goals as goal

pub returns : goal.returns
returns c = audits_repeat
