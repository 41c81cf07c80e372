use Rattle.std.proofs.Common.{◌≡◌, Err, rules}
use Rattle.tame_names.specs.declared.errors.LockError.TheVariants as error
use Rattle.audit_start.proofs.Taking.{try_waited}
use Rattle.audit_start.proofs.locking.take.Goals as goal

pub returns-in-Err-Contested-clause-steps : goal.returns-in-Err-Contested-clause-steps
returns-in-Err-Contested-clause-steps g c told =
    let is : c.in_ok-held.field-0 ≡ Err error.Contested = search rules in
    try_waited c.in_turn.result _ _ _ _ _ _ (rw c.as_bytes.ensures.value at c.put_line.ensures.line) (rw is at (c.in_ok-held.ensures.steps told)) (c.in_turn.ensures.steps told)
