use Rattle.report_parts.proofs.Writing.{adds_next, adds_none}
use Rattle.audit_report.specs.Documents.{kind_warning_at}
use Rattle.audit_report.proofs.listed.write_warnings_of.Goals as goal

pub loop-warning-init : goal.loop-warning-init
loop-warning-init c = adds_none _

pub loop-warning-preserved : goal.loop-warning-preserved
loop-warning-preserved c =
    adds_next (kind_warning_at c.args.kind c.args.advisories.now c.args.packages.now) _ _ _
    c.loop-warning-test.true _ _ _ c.loop-warning.invariant c.in_ok-write_warning_at.ensures
