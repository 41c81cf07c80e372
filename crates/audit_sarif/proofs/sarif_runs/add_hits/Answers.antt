use Rattle.audit_sarif.specs.Sarif.{hit_finding_at}
use Rattle.audit_sarif.proofs.Telling.{tells_next, tells_none}
use Rattle.audit_sarif.proofs.sarif_runs.add_hits.Goals as goal

pub loop-hit-init : goal.loop-hit-init
loop-hit-init c = tells_none _

pub loop-hit-preserved : goal.loop-hit-preserved
loop-hit-preserved c =
    tells_next (hit_finding_at c.args.uri.now c.args.advisories.now c.args.packages.now) _ _ _
    c.loop-hit-test.true _ _ _ c.loop-hit.invariant c.in_ok-add_hit_at.ensures
