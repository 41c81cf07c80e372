use Rattle.report_parts.proofs.Writing.{behind}
use Rattle.audit_report.proofs.listed.write_found.Goals as goal

pub returns : goal.returns
returns c =
    behind (behind (behind (behind (behind c.in_ok-close_object.ensures
    c.in_ok-write_hit_list.ensures)
    c.in_ok-write_name.ensures)
    c.in_ok-write_found_count.ensures)
    c.in_ok-write_found_flag.ensures)
    c.in_ok-open_object.ensures
