use Rattle.audit_sarif.specs.SarifObjects.{result_object}
use Rattle.report_parts.proofs.Writing.{adds_next_item, adds_none}
use Rattle.audit_sarif.proofs.sarif_objects.write_results.Goals as goal

pub loop-told-init : goal.loop-told-init
loop-told-init c = adds_none _

pub loop-told-preserved : goal.loop-told-preserved
loop-told-preserved c =
    adds_next_item result_object c.args.results.now c.loop-told.told-index c.told-item.result
    c.loop-told-test.true c.told-item.is c.loop-told.invariant c.in_ok-write_result.ensures
