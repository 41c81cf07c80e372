use Rattle.std.proofs.Common.{Ok, ap, false}
use Rattle.tame_location.specs.Locks.{IsOpening, lock_moment}
use Rattle.tame_location.proofs.Locking.{refused-as, taken-as}
use Rattle.tame_location.proofs.lock_options.LockOptions.held_at_once.Goals as goal

pub returns-in-Ok-take-clause-steps : goal.returns-in-Ok-take-clause-steps
returns-in-Ok-take-clause-steps g c = λ told. (
  lock_moment (g.F.Files.locks c.open.new.files) (g.F.Files.host c.open.new.files) (g.F.Files.faults c.open.new.files) (g.F.Files.failed c.open.new.files),
  Ok c.in-Ok.state,
  c.in-Ok.ensures.steps told,
  (Ok tt, taken-as _ _ _ _ false _ _ (Ok tt) c.as_str.ensures.value c.is_exclusive-exclusive.ensures (c.in-Ok-take.ensures.steps told), ap Ok c.holding.ensures.state),
)

pub returns-in-Err-take-clause-steps : goal.returns-in-Err-take-clause-steps
returns-in-Err-take-clause-steps g c = λ told.
    refused-as _ _ _ c.in-Ok.state (IsOpening c.args.self.now.exclusive c.args.self.now.fallback _) _ _ _ c.in-Err-take.refusal c.as_str.ensures.value c.is_exclusive-exclusive.ensures (c.in-Ok.ensures.steps told) (c.in-Err-take.ensures.steps told)
