use Rattle.report_parts.proofs.Writing.{adds_next, adds_none}
use Rattle.audit_report.specs.Documents.{hit_at}
use Rattle.audit_report.proofs.listed.write_hits.Goals as goal

pub loop-hit-init : goal.loop-hit-init
loop-hit-init c = adds_none _

pub loop-hit-preserved : goal.loop-hit-preserved
loop-hit-preserved c =
    adds_next (hit_at c.args.advisories.now c.args.packages.now) _ _ _
    c.loop-hit-test.true _ _ _ c.loop-hit.invariant c.in_ok-write_hit_at.ensures
