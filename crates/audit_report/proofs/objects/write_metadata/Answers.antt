use Rattle.report_parts.proofs.Writing.{behind}
use Rattle.audit_report.proofs.objects.write_metadata.Goals as goal

pub returns : goal.returns
returns c =
    behind (behind (behind (behind (behind (behind (behind (behind (behind (behind (behind (behind c.in_ok-close_object.ensures
    c.in_ok-write_score.ensures)
    c.in_ok-write_optional-4.ensures)
    c.in_ok-write_optional-3.ensures)
    c.in_ok-write_optional-2.ensures)
    c.in_ok-write_informational.ensures)
    c.in_ok-write_optional.ensures)
    c.in_ok-write_text-5.ensures)
    c.in_ok-write_text-4.ensures)
    c.in_ok-write_text-3.ensures)
    c.in_ok-write_text-2.ensures)
    c.in_ok-write_text.ensures)
    c.in_ok-open_object.ensures
