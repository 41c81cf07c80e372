use Rattle.std.specs.Prelude.{map}
use Rattle.audit_sarif.specs.SarifObjects.{result_object}
use Rattle.report_parts.proofs.Writing.{adds_array, behind}
use Rattle.audit_sarif.proofs.sarif_objects.write_result_list.Goals as goal

pub returns : goal.returns
returns c =
    adds_array (map result_object c.args.run.now.results) _ _
    (behind (behind c.in_ok-close_array.ensures
    (rw c.as_slice.ensures at c.in_ok-write_results.ensures))
    c.in_ok-open_array.ensures)
