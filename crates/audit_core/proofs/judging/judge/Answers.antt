use Rattle.std.proofs.Common.{List, ◌+◌, ◌≤◌, length, refl, subst, sym, arith}
use Rattle.audit_core.proofs.PlanLemmas.{IsFront, front_more, front_same, front_whole, planned_at, planned_length}
use Rattle.audit_core.proofs.judging.judge.Goals as goal
use Rattle.audit_core.proofs.judging.judge.Goals.{in-Some+in_ok-add, in_default}
use Rattle.audit_core.specs.declared.verdicts.Judged.{Judged}

pub package_at-requires : goal.package_at-requires
package_at-requires c =
    let same = planned_length _ c.args.packages.now c.args.planned.now c.requires in
    let low = c.loop-i-test.true in
    omega (arith, same, low)

pub verdict_of-requires : goal.verdict_of-requires
verdict_of-requires c = planned_at _ c.args.packages.now c.args.planned.now c.loop-i.i c.package_at.result.now c.loop-i-test.true c.package_at.ensures c.requires

pub loop-i-preserved : goal.loop-i-preserved
loop-i-preserved c =
    let P : List Judged → Type 0 = λ js. IsFront c.args.answered_turns.now c.args.packages.now (c.loop-i.i + 1) js in
    elim c.match-verdict_of.branch [
      | in-Some+in_ok-add w ↦ subst P (sym w.verdicts-is) (subst P (sym w.in_ok-add.ensures.ok) (front_more c.args.answered_turns.now c.args.packages.now c.loop-i.i c.package_at.result.now w.in-Some.verdict c.loop-i.verdicts c.package_at.ensures w.in-Some.ensures.default w.in-Some.ensures.verdict c.loop-i.invariant))
      | in_default w ↦ subst P (sym w.verdicts-is) (front_same c.args.answered_turns.now c.args.packages.now c.loop-i.i c.package_at.result.now c.loop-i.verdicts c.package_at.ensures (w.in_default.ensures.elsewhere refl) c.loop-i.invariant)
    ]

pub returns : goal.returns
returns c =
    let same = planned_length _ c.args.packages.now c.args.planned.now c.requires in
    let past = c.loop-i-test.false in
    let end : length c.args.packages.now ≤ c.loop-i.i = omega (arith, same, past) in
    front_whole c.args.answered_turns.now c.args.packages.now c.loop-i.i c.loop-i.verdicts end c.loop-i.invariant
