use Rattle.report_parts.proofs.Writing.{behind}
use Rattle.audit_report.proofs.objects.write_hit.Goals as goal

pub returns : goal.returns
returns c =
    behind (behind (behind (behind (behind (behind (behind c.in_ok-close_object.ensures
    c.in_ok-write_package.ensures)
    c.in_ok-write_name-3.ensures)
    c.in_ok-write_versions.ensures)
    c.in_ok-write_name-2.ensures)
    c.in_ok-write_metadata.ensures)
    c.in_ok-write_name.ensures)
    c.in_ok-open_object.ensures
