use Rattle.report_parts.proofs.Writing.{behind}
use Rattle.audit_sarif.proofs.sarif_objects.write_result.Goals as goal

pub returns : goal.returns
returns c =
    behind (behind (behind (behind (behind (behind (behind (behind (behind c.in_ok-close_object.ensures
    c.in_ok-write_only-2.ensures)
    c.in_ok-write_name-3.ensures)
    c.in_ok-write_locations.ensures)
    c.in_ok-write_name-2.ensures)
    c.in_ok-write_level.ensures)
    c.in_ok-write_only.ensures)
    c.in_ok-write_name.ensures)
    c.in_ok-write_text.ensures)
    c.in_ok-open_object.ensures
