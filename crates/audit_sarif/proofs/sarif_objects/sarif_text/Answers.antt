use Rattle.std.proofs.Common.{arith}
use Rattle.std.proofs.lemmas.Grind.{common_steps}
use Rattle.report_parts.proofs.Reading.{reads_back}
use Rattle.audit_sarif.proofs.SarifDepths.{log_within}
use Rattle.audit_sarif.specs.SarifObjects.{sarif_object}
use Rattle.audit_sarif.proofs.sarif_objects.sarif_text.Goals as goal

pub returns-clause-reads_back : goal.returns-clause-reads_back
returns-clause-reads_back c =
    reads_back (sarif_object c.args.log.now)
    c.write_log.new.out.before c.write_log.new.out.tokens c.into_inner.result.items
    (grind (arith, common_steps)) (grind (arith, common_steps))
    c.into_inner.ensures.items c.into_inner.ensures.reads_back
    (log_within c.args.log.now)
