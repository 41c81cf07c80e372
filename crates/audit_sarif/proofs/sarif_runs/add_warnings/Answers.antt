use Rattle.audit_sarif.specs.Sarif.{warning_finding_at}
use Rattle.audit_sarif.proofs.Telling.{tells_next, tells_none}
use Rattle.audit_sarif.proofs.sarif_runs.add_warnings.Goals as goal

pub loop-warning-init : goal.loop-warning-init
loop-warning-init c = tells_none _

pub loop-warning-preserved : goal.loop-warning-preserved
loop-warning-preserved c =
    tells_next (warning_finding_at c.args.uri.now c.args.advisories.now c.args.packages.now) _ _ _
    c.loop-warning-test.true _ _ _ c.loop-warning.invariant c.in_ok-add_warning_at.ensures
