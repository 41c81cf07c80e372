use Rattle.baseline_gate.proofs.Gated.{failed, fails, own, passed, passes, silent, unprinted}
use Rattle.baseline_gate.proofs.laws.gates_fail_on_new_findings_alone.Goals as goal

pub returns-clause-fails : goal.returns-clause-fails
returns-clause-fails c baseline findings = (failed baseline findings, fails baseline findings)

pub returns-clause-passes : goal.returns-clause-passes
returns-clause-passes c baseline findings = (passed baseline findings, passes baseline findings)

pub returns-clause-prints : goal.returns-clause-prints
returns-clause-prints c found = (silent found, unprinted found)

pub returns-clause-own : goal.returns-clause-own
returns-clause-own c = own
