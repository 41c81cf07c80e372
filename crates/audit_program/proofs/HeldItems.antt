-- The plan that a run made.
use Rattle.std.proofs.Common.{◌≡◌, pos, List, Some, None, Result, Ok, Err, sym, subst, ◌∙◌}
use Rattle.tame_sparse.specs.declared.network.Exchange.{Exchange}
use Rattle.audit_asked.specs.declared.asking.Asked.{Asked}
use Rattle.audit_remedies.specs.declared.faults.RunFault.{RunFault}
use Rattle.audit_core.specs.Auditors.{auditor_of}
use Rattle.audit_core.specs.Checks.{checks_of}
use Rattle.audit_core.specs.declared.checking.Checks.TheVariants.{Online}
use Rattle.audit_core.specs.declared.auditing.Audited.{Audited}
use Rattle.upgrade_plan.proofs.HeldPlanning.{planned_by_held}
use Rattle.upgrade_plan.specs.HeldPlans.{ArePlannedByHeld}
use Rattle.upgrade_plan.specs.Plans.{IsPlanBy}
use Rattle.upgrade_plan.specs.declared.plans.PlanItem.{PlanItem}
use Rattle.audit_program.specs.HonestRuns.{IsHonestRun}
use Rattle.audit_remedies.specs.Makings.{IsMade, IsReadOnly, Making, plan_in}
use Rattle.audit_remedies.specs.Endings.{Ending}
use Rattle.audit_program.specs.TaskRuns.{IsGivenRun, IsTaskRun}
use Rattle.audit_program.specs.Tasks.{task_asked}
use Rattle.audit_program.specs.Worlds.{Telling, World, moment_of}
use Rattle.audit_remedies.specs.declared.makings.Made.{Made}
use Rattle.audit_remedies.specs.declared.makings.Made.TheVariants as made
use Rattle.audit_remedies.specs.declared.remedies.Remedy.{Remedy}
use Rattle.audit_remedies.specs.declared.remedies.Remedy.TheVariants.{Report, Fix, Plan, Baseline, WriteBaseline, Vendor}
use Rattle.audit_program.specs.declared.tasks.Task.{Task}

some_none : {X : Type 0} (items : List PlanItem) → Some items ≡ None → X
some_none items is = cc

same_items : (items others : List PlanItem) → Some items ≡ Some others → items ≡ others
same_items items others is = cc

-- if there is a plan it was made, and the cache only read since
abbrev IsOfPlan : Making → List PlanItem → Type 0
IsOfPlan m items =
    IsPlanBy m.disk_tells m.advisories m.audited m.left.files m.left.disk_faults m.ended.disk_faults items
    × IsReadOnly m

plan_made : (remedy : Remedy) (m : Making) (it : Result Made RunFault) (items : List PlanItem) → IsMade remedy m it → Some items ≡ plan_in it → IsOfPlan m items
plan_made remedy m (Err f) items h is = some_none items is
plan_made remedy m (Ok made.Report) items h is = some_none items is
plan_made remedy m (Ok (made.Fix dry_run)) items h is = some_none items is
plan_made remedy m (Ok (made.Unlisted found)) items h is = some_none items is
plan_made remedy m (Ok made.Written) items h is = some_none items is
plan_made remedy m (Ok (made.Vendored v)) items h is = some_none items is
plan_made Report m (Ok (made.Planned others)) items h is = let no_plan = h.0 in cc (no_plan)
plan_made (Fix dry_run) m (Ok (made.Planned others)) items h is = let no_plan = h.0 in cc (no_plan)
plan_made Plan m (Ok (made.Planned others)) items h is =
    let P : List PlanItem → Type 0 = λ xs. IsOfPlan m xs in subst P (sym (same_items items others is)) (h.0.0, h.1)
plan_made (Baseline path) m (Ok (made.Planned others)) items h is = absurd h.0
plan_made (WriteBaseline path) m (Ok (made.Planned others)) items h is = absurd h.0
plan_made (Vendor more) m (Ok (made.Planned others)) items h is = absurd h.0

held_items : (tells : Telling) (task : Task) (given : Asked) (before now : World) (end : Ending) (items : List PlanItem) (audited : Audited) (added : List Exchange)
    → IsGivenRun tells task given before now end audited → end.plan ≡ Some items → checks_of given.config ≡ Online → IsHonestRun tells before now added
    → ArePlannedByHeld given.advisories audited added items
held_items tells task given before now end items audited added run is online honest =
    let planned = plan_made task.remedy _ run.it items run.is_made (sym is ∙ run.is_end.plan) in
    planned_by_held tells.wire tells.disk (auditor_of given.config given.advisories) (moment_of before) run.left added given.text audited given.advisories now.disk_faults items
    (record {
      wire_tells = honest.serving.wire_tells;
      disk_tells = honest.serving.disk_tells;
      audit = run.audit;
      online = online;
      follow = sym planned.1.exchanges ∙ honest.follow;
      server = honest.serving.server;
      honest = honest.serving.honest;
      kept = honest.serving.kept;
    })
    planned.0

same_asked : {E : Type 0} (r : Result Asked E) (a b : Asked) → r ≡ Ok a → r ≡ Ok b → a ≡ b
same_asked r a b first second = cc (first, second)

-- by what was asked for before the run
pub asked_items : (tells : Telling) (task : Task) (given : Asked) (before now : World) (end : Ending) (items : List PlanItem) (audited : Audited) (added : List Exchange)
    → IsTaskRun tells task before now end audited → tells.files → task_asked task before.host (pos 0) ≡ Ok given → end.plan ≡ Some items → checks_of given.config ≡ Online
    → IsHonestRun tells before now added → ArePlannedByHeld given.advisories audited added items
asked_items tells task given before now end items audited added whole told gives is online honest =
    let P : Asked → Type 0 = λ a. checks_of a.config ≡ Online → ArePlannedByHeld a.advisories audited added items in
    let asked : World = record before { host = whole.there; starts = whole.generated } in
    let held : P whole.given = λ is_online. held_items tells task whole.given asked now end items audited added whole.run is is_online (record { follow = honest.follow; serving = honest.serving }) in
    subst P (same_asked _ whole.given given (whole.gives told) gives) held online
