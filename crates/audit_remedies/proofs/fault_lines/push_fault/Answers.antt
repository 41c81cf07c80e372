use Rattle.audit_remedies.proofs.fault_lines.push_fault.Goals as goal

pub returns-in-Generate : goal.returns-in-Generate
returns-in-Generate c = rw c.in-Generate.is c.push_ended.ensures
