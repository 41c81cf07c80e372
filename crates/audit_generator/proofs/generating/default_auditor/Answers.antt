use Rattle.std.proofs.Common.{arith, ap, ◌∙◌}
use Rattle.audit_core.proofs.Lists.{if_ok}
use Rattle.audit_settings.specs.Defaults.{default_settings}
use Rattle.audit_core.specs.Auditors.{text_auditor}
use Rattle.audit_generator.specs.Moments.{auditor_for}
use Rattle.audit_generator.proofs.Auditors.{auditor_read, if_err, never_refused, texts_read}
use Rattle.audit_generator.proofs.generating.default_auditor.Goals as goal

pub returns-clause-ok : goal.returns-clause-ok
returns-clause-ok c =
    if_ok c.read_auditor.result (λ auditor read. auditor_read c.args.n c.in_ok-texts.texts auditor (omega (arith, c.requires)) c.in_ok-texts.ensures read) c.read_auditor.ensures.ok

pub returns-clause-refused : goal.returns-clause-refused
returns-clause-refused c =
    if_err c.read_auditor.result
    (λ e read. never_refused (text_auditor default_settings c.in_ok-texts.texts) (auditor_for c.args.n) e (ap (text_auditor default_settings) c.in_ok-texts.ensures ∙ texts_read c.args.n (omega (arith, c.requires))) read)
    c.read_auditor.ensures.refused
