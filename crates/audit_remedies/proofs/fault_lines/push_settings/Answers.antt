use Rattle.audit_remedies.proofs.fault_lines.push_settings.Goals as goal

pub returns-in-Unknown : goal.returns-in-Unknown
returns-in-Unknown c = rw c.in-Unknown.is (rw c.as_str.ensures at c.push_two.ensures)

pub returns-in-Missing : goal.returns-in-Missing
returns-in-Missing c = rw c.in-Missing.is c.push_two-in-Missing.ensures

pub returns-in-Value : goal.returns-in-Value
returns-in-Value c = rw c.in-Value.is c.push_two-in-Value.ensures
