use Rattle.audit_core.proofs.PlanLemmas.{IsFront}
use Rattle.audit_core.proofs.judging.judge.Given as goal

abbrev pub invariant-loop-i : goal.invariant-loop-i
invariant-loop-i l = IsFront l.answered_turns l.packages l.i l.verdicts
