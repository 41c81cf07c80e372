use Rattle.report_parts.proofs.Writing.{behind}
use Rattle.audit_report.proofs.settings.write_settings.Goals as goal

pub returns : goal.returns
returns c =
    behind (behind (behind (behind (behind (behind c.in_ok-close_object.ensures
    c.in_ok-write_informational.ensures)
    c.in_ok-write_texts-3.ensures)
    c.in_ok-write_severity.ensures)
    c.in_ok-write_texts-2.ensures)
    c.in_ok-write_texts.ensures)
    c.in_ok-open_object.ensures
