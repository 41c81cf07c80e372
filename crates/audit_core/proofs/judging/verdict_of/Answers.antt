use Rattle.std.proofs.Common.{◌≡◌, Some, map, sym, ◌∙◌, subst}
use Rattle.audit_core.specs.AnsweredTurns.{answered_turn_of}
use Rattle.audit_core.specs.Plans.{IsPlanned}
use Rattle.audit_core.specs.declared.asking.AnsweredTurn.{AnsweredTurn}
use Rattle.audit_core.specs.declared.planning.Planned.{Planned}
use Rattle.audit_core.proofs.PlanLemmas.{answered_turn_at, answered_below}
use Rattle.audit_core.proofs.judging.verdict_of.Goals as goal

pub answered_turn_at-requires : goal.answered_turn_at-requires
answered_turn_at-requires c =
    let P : Planned → Type 0 = λ t. IsPlanned (map (λ (h : AnsweredTurn). h.turn.path) c.args.answered_turns.now) c.args.locked.now t in
    let planned = subst P c.in-Turn.is c.requires in
    answered_below c.args.answered_turns.now planned.1 c.in-Turn.place planned.3

pub returns-in-Turn-clause-verdict : goal.returns-in-Turn-clause-verdict
returns-in-Turn-clause-verdict c =
    let P : Planned → Type 0 = λ t. IsPlanned (map (λ (h : AnsweredTurn). h.turn.path) c.args.answered_turns.now) c.args.locked.now t in
    let planned = subst P c.in-Turn.is c.requires in
    let there : answered_turn_of planned.1 c.args.answered_turns.now ≡ Some c.answered_turn_at.result.now = sym (answered_turn_at c.args.answered_turns.now planned.1 c.in-Turn.place planned.3) ∙ c.answered_turn_at.ensures in
    rw (planned.2, there) (rw c.as_str.ensures at c.verdict_by.ensures)
