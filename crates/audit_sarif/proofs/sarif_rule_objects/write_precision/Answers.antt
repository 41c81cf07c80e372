use Rattle.audit_sarif.proofs.sarif_rule_objects.write_precision.Goals as goal

pub returns : goal.returns
returns c = rw c.precision_word.ensures at c.write_str.ensures
