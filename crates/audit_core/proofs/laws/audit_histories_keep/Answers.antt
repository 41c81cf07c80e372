use Rattle.audit_core.proofs.HistoryLemmas.{audits_keep}
use Rattle.audit_core.proofs.laws.audit_histories_keep.Goals as goal

pub returns : goal.returns
returns c = audits_keep
