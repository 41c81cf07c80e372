use Rattle.report_parts.proofs.Writing.{behind}
use Rattle.audit_sarif.proofs.sarif_rule_objects.write_configuration.Goals as goal

pub returns : goal.returns
returns c =
    behind (behind c.in_ok-close_object.ensures
    c.in_ok-write_level.ensures)
    c.in_ok-open_object.ensures
