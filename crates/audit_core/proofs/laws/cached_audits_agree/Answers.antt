use Rattle.audit_core.proofs.Agreeing.{audits_agree}
use Rattle.audit_core.proofs.laws.cached_audits_agree.Goals as goal

pub returns : goal.returns
returns c = audits_agree
