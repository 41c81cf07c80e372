use Rattle.tame_entry.proofs.revisions.StoredRevision.parts.Goals as goal

pub returns-in-Commit-clause-formed : goal.returns-in-Commit-clause-formed
returns-in-Commit-clause-formed c = rw c.in-Commit.is c.as_str.ensures.digits
