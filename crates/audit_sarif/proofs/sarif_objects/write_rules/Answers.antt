use Rattle.audit_sarif.specs.SarifObjects.{rule_object}
use Rattle.report_parts.proofs.Writing.{adds_next_item, adds_none}
use Rattle.audit_sarif.proofs.sarif_objects.write_rules.Goals as goal

pub loop-rule-init : goal.loop-rule-init
loop-rule-init c = adds_none _

pub loop-rule-preserved : goal.loop-rule-preserved
loop-rule-preserved c =
    adds_next_item rule_object c.args.rules.now c.loop-rule.rule-index c.rule-item.result
    c.loop-rule-test.true c.rule-item.is c.loop-rule.invariant c.in_ok-write_rule.ensures
