use Rattle.audit_remedies.proofs.makings.plan_of.Goals as goal

pub returns-clause-reads : goal.returns-clause-reads
returns-clause-reads g c = rw c.in_ok-index.ensures.root at c.plan.ensures.reads
