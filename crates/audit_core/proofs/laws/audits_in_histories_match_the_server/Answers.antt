use Rattle.audit_core.proofs.HistoryLemmas.{audits_keep}
use Rattle.audit_core.proofs.laws.audits_in_histories_match_the_server.Goals as goal

pub returns : goal.returns
returns c m began auditor entry exit added text audited history online audit follow honest =
    audit.says.headline online tt tt m added follow honest (audits_keep m began entry.files history)
