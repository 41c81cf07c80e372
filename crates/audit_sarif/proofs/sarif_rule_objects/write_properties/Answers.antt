use Rattle.std.specs.Prelude.{codes, option_map}
use Rattle.json.specs.Json.{string}
use Rattle.audit_sarif.specs.SarifObjects.{member_of, problem_severity}
use Rattle.report_parts.proofs.Joining.{members_behind, members_last}
use Rattle.report_parts.proofs.Writing.{behind}
use Rattle.audit_sarif.proofs.sarif_rule_objects.write_properties.Goals as goal

pub returns : goal.returns
returns c =
    behind (behind (behind (behind (members_behind
    (member_of (codes "problem.severity") (option_map string (problem_severity c.args.rule.now.level)))
    (member_of (codes "security-severity") (option_map string c.args.rule.now.security_severity))
    (members_last
    (member_of (codes "security-severity") (option_map string c.args.rule.now.security_severity))
    c.in_ok-close_object.ensures
    c.in_ok-write_stated.ensures)
    c.in_ok-write_problem_severity.ensures)
    c.in_ok-write_precision.ensures)
    c.in_ok-write_tags.ensures)
    c.in_ok-write_name.ensures)
    c.in_ok-open_object.ensures
