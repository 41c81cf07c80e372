use Rattle.audit_sarif.proofs.Telling.{rules_of_results}
use Rattle.audit_sarif.proofs.laws.printed_rules_are_those_of_results.Goals as goal

pub returns : goal.returns
returns c = rules_of_results
