use Rattle.audit_core.specs.Checks.{judged_of}
use Rattle.audit_core.proofs.Remembers.{remembered}
use Rattle.audit_core.proofs.laws.offline_audits_in_histories_remember.Goals as goal

pub returns : goal.returns
returns c m began auditor entry exit text audited history offline audit =
    remembered m began entry.files history audited.turns (judged_of auditor.checks audited.lockfile) audited.verdicts (audit.says.recalled offline).unasked (audit.says.recalled offline).judged
