use Rattle.report_parts.proofs.Writing.{behind}
use Rattle.audit_report.proofs.documents.write_report.Goals as goal

pub returns : goal.returns
returns c =
    behind (behind (behind (behind (behind (behind (behind (behind (behind (behind (behind c.in_ok-close_object.ensures
    c.in_ok-write_warnings_of.ensures)
    c.in_ok-write_name-5.ensures)
    c.in_ok-write_hits_of.ensures)
    c.in_ok-write_name-4.ensures)
    c.in_ok-write_settings.ensures)
    c.in_ok-write_name-3.ensures)
    c.in_ok-write_counted-2.ensures)
    c.in_ok-write_name-2.ensures)
    c.in_ok-write_counted.ensures)
    c.in_ok-write_name.ensures)
    c.in_ok-open_object.ensures
