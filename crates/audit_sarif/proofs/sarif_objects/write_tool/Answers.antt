use Rattle.report_parts.proofs.Writing.{behind}
use Rattle.audit_sarif.proofs.sarif_objects.write_tool.Goals as goal

pub returns : goal.returns
returns c =
    behind (behind (behind c.in_ok-close_object.ensures
    c.in_ok-write_driver.ensures)
    c.in_ok-write_name.ensures)
    c.in_ok-open_object.ensures
