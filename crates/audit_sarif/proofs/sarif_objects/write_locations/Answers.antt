use Rattle.report_parts.proofs.Writing.{behind}
use Rattle.audit_sarif.proofs.sarif_objects.write_locations.Goals as goal

pub returns : goal.returns
returns c =
    behind (behind c.in_ok-close_array.ensures
    c.in_ok-write_location.ensures)
    c.in_ok-open_array.ensures
