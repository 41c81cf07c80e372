use Rattle.audit_sarif.proofs.sarif_rule_objects.write_problem_severity.Goals as goal

pub returns : goal.returns
returns c = rw c.problem_severity.ensures at c.write_word_if.ensures
