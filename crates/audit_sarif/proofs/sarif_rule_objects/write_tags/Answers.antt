use Rattle.report_parts.proofs.Writing.{behind}
use Rattle.audit_sarif.proofs.sarif_rule_objects.write_tags.Goals as goal

pub returns : goal.returns
returns c =
    behind (behind (behind c.in_ok-close_array.ensures
    c.in_ok-write_tag.ensures)
    c.in_ok-write_item.ensures)
    c.in_ok-open_array.ensures
