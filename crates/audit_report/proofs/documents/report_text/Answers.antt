use Rattle.std.proofs.Common.{arith}
use Rattle.std.proofs.lemmas.Grind.{common_steps}
use Rattle.audit_report.proofs.Depths.{report_within}
use Rattle.audit_report.specs.Documents.{report_object}
use Rattle.report_parts.proofs.Reading.{reads_back}
use Rattle.audit_report.proofs.documents.report_text.Goals as goal

pub returns-clause-reads_back : goal.returns-clause-reads_back
returns-clause-reads_back c =
    reads_back (report_object c.args.advisories.now c.args.packages.now c.args.report.now)
    c.write_report.new.out.before c.write_report.new.out.tokens c.into_inner.result.items
    (grind (arith, common_steps)) (grind (arith, common_steps))
    c.into_inner.ensures.items c.into_inner.ensures.reads_back
    (report_within c.args.advisories.now c.args.packages.now c.args.report.now)
