use Rattle.std.proofs.Common.{◌≡◌, ◌∷◌, ◌++◌, [], length, suc, ap, add-one, arith}
use Rattle.std.proofs.lemmas.List.{length-append}
use Rattle.audit_fix.proofs.Starting.{rose_more, step_more}
use Rattle.audit_fix.proofs.steps.start_steps.Goals as goal

pub returns-in_err-add-clause-part : goal.returns-in_err-add-clause-part
returns-in_err-add-clause-part g c = λ told. (
  suc c.loop-step.step-index,
  c.loop-step.statuses ++ c.in_ok-status.status ∷ [],
  step_more c.args.plan.now.steps c.loop-step.step-index c.step-item.result c.loop-step.statuses c.in_ok-status.status _ _ _ (omega (arith, ap length c.as_slice-step-items.ensures)) (rw c.as_slice-step-items.ensures at c.step-item.is)
      (c.loop-step.invariant.started told) (c.in_ok-status.ensures.started told),
)

pub loop-step-preserved : goal.loop-step-preserved
loop-step-preserved g c = rw (c.in_ok-add.ensures.ok, add-one) record {
  one_each = let next = length-append c.loop-step.statuses (c.in_ok-status.status ∷ []) in omega (arith, next, c.loop-step.invariant.one_each);
  started = λ told.
      step_more c.args.plan.now.steps c.loop-step.step-index c.step-item.result c.loop-step.statuses c.in_ok-status.status _ _ _ (omega (arith, ap length c.as_slice-step-items.ensures)) (rw c.as_slice-step-items.ensures at c.step-item.is)
      (c.loop-step.invariant.started told) (c.in_ok-status.ensures.started told);
  later = omega (arith, c.in_ok-status.ensures.later, c.loop-step.invariant.later);
  rose = rose_more c.loop-step.statuses c.in_ok-status.status _ _ _ c.loop-step.invariant.rose c.in_ok-status.ensures.rose c.in_ok-status.ensures.later;
}
