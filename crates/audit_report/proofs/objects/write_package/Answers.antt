use Rattle.report_parts.proofs.Writing.{behind}
use Rattle.audit_report.proofs.objects.write_package.Goals as goal

pub returns : goal.returns
returns c =
    behind (behind (behind (behind (behind c.in_ok-close_object.ensures
    c.in_ok-write_optional-2.ensures)
    c.in_ok-write_optional.ensures)
    c.in_ok-write_text-2.ensures)
    c.in_ok-write_text.ensures)
    c.in_ok-open_object.ensures
