use Rattle.baseline_gate.proofs.Counted.{all_told, counted}
use Rattle.baseline_gate.proofs.laws.each_entry_is_one_finding.Goals as goal

pub returns-clause-each : goal.returns-clause-each
returns-clause-each c = all_told

pub returns-clause-counted : goal.returns-clause-counted
returns-clause-counted c = counted
