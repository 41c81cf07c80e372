use Rattle.report_parts.proofs.Writing.{behind}
use Rattle.audit_report.proofs.documents.write_counted.Goals as goal

pub returns : goal.returns
returns c =
    behind (behind c.in_ok-close_object.ensures
    c.in_ok-write_count.ensures)
    c.in_ok-open_object.ensures
