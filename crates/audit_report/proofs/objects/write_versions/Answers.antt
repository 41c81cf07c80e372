use Rattle.report_parts.proofs.Writing.{behind}
use Rattle.audit_report.proofs.objects.write_versions.Goals as goal

pub returns : goal.returns
returns c =
    behind (behind (behind c.in_ok-close_object.ensures
    c.in_ok-write_unaffected.ensures)
    c.in_ok-write_patched.ensures)
    c.in_ok-open_object.ensures
