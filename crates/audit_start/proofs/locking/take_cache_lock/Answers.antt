use Rattle.std.proofs.Common.{◌≡◌}
use Rattle.audit_start.proofs.locking.take_cache_lock.Goals as goal

pub returns-in-Shared-clause-steps : goal.returns-in-Shared-clause-steps
returns-in-Shared-clause-steps g c told = rw c.in-Shared.is (rw c.as_str-path.ensures at (c.take_plain.ensures.steps told))

pub returns-in-Exclusive-clause-steps : goal.returns-in-Exclusive-clause-steps
returns-in-Exclusive-clause-steps g c told = rw c.in-Exclusive.is (rw c.as_str-path.ensures at (c.take_plain-in-Exclusive.ensures.steps told))
