use Rattle.std.proofs.Common.{None, Some, Ok, Err, refl, ap, ◌∙◌, arith}
use Rattle.tame_names.specs.Locks.{fault_of}
use Rattle.tame_names.specs.declared.errors.LockError.TheVariants as error
use Rattle.tame_names.specs.declared.host.LockTakeFault.TheVariants as take_fault
use Rattle.tame_location.specs.Locks.{lock_moment}
use Rattle.tame_location.proofs.Locking.{left_on, try-on}
use Rattle.tame_location.proofs.locks.take_tries.Goals as goal

pub returns-in-Ok-clause-steps : goal.returns-in-Ok-clause-steps
returns-in-Ok-clause-steps g c = λ told.
    let now = lock_moment (g.F.Files.locks c.taking.new.files) (g.F.Files.host c.taking.new.files) (g.F.Files.faults c.taking.new.files) (g.F.Files.failed c.taking.new.files) in
    c.loop-number.invariant.left told now (Ok tt)
    (try-on c.args.times c.loop-number._number c.args.path.now c.args.exclusive _ now now (fault_of c.in_ok-taking.field-0) None (Ok tt)
    c.loop-number-test.true (ap fault_of c.in-Ok.is) (c.in_ok-taking.ensures.takes told) (refl, refl))

pub returns-in-Err-NotSupported-clause-steps : goal.returns-in-Err-NotSupported-clause-steps
returns-in-Err-NotSupported-clause-steps g c = λ told.
    let now = lock_moment (g.F.Files.locks c.taking.new.files) (g.F.Files.host c.taking.new.files) (g.F.Files.faults c.taking.new.files) (g.F.Files.failed c.taking.new.files) in
    c.loop-number.invariant.left told now (Err error.NotSupported)
    (try-on c.args.times c.loop-number._number c.args.path.now c.args.exclusive _ now now (fault_of c.in_ok-taking.field-0) (Some take_fault.NotSupported) (Err error.NotSupported)
    c.loop-number-test.true (ap fault_of c.in-Err-NotSupported.is ∙ ap Some c.in-Err-NotSupported.field-0-is) (c.in_ok-taking.ensures.takes told) (refl, refl))

pub returns-in-Err-Failed-clause-steps : goal.returns-in-Err-Failed-clause-steps
returns-in-Err-Failed-clause-steps g c = λ told.
    let now = lock_moment (g.F.Files.locks c.taking.new.files) (g.F.Files.host c.taking.new.files) (g.F.Files.faults c.taking.new.files) (g.F.Files.failed c.taking.new.files) in
    c.loop-number.invariant.left told now (Err error.Lock)
    (try-on c.args.times c.loop-number._number c.args.path.now c.args.exclusive _ now now (fault_of c.in_ok-taking.field-0) (Some take_fault.Failed) (Err error.Lock)
    c.loop-number-test.true (ap fault_of c.in-Err-Failed.is ∙ ap Some c.in-Err-Failed.field-0-is) (c.in_ok-taking.ensures.takes told) (refl, refl))

pub loop-number-preserved : goal.loop-number-preserved
loop-number-preserved g c = record {
  later = omega (arith, c.taking.ensures.cause.later, c.loop-number.invariant.later);
  stays = λ told. left_on _ _ _ _ c.in_ok-taking.field-0 _ c.in-Err-Contested.is (c.in_ok-taking.ensures.taken told) (c.loop-number.invariant.stays told);
  same = λ told. c.taking.ensures.same told ∙ c.loop-number.invariant.same told;
  left = λ told now r h.
      c.loop-number.invariant.left told now r
      (try-on c.args.times c.loop-number._number c.args.path.now c.args.exclusive _ _ now (fault_of c.in_ok-taking.field-0) (Some take_fault.Contested) r
      c.loop-number-test.true (ap fault_of c.in-Err-Contested.is ∙ ap Some c.in-Err-Contested.field-0-is) (c.in_ok-taking.ensures.takes told) h);
}
