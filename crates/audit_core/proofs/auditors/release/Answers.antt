use Rattle.audit_core.proofs.auditors.release.Goals as goal

-- part by part
pub returns : goal.returns
returns c = λ i. record { major = (c.new.ensures i).0; minor = (c.new.ensures i).1; patch = (c.new.ensures i).2; pre = (c.new.ensures i).3 }
