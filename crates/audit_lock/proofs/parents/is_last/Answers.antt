use Rattle.std.proofs.Common.{sym}
use Rattle.audit_lock.proofs.Putting.{last_is}
use Rattle.audit_lock.proofs.parents.is_last.Goals as goal

pub returns-in-Some : goal.returns-in-Some
returns-in-Some c = sym (last_is c.args.place c.args.parents.now c.in-Some.last.now (sym c.in-Some.ensures.value))
