-- The verdicts of a run over an honest server.
use Rattle.std.proofs.Common.{◌≡◌, List, Ok, Err, Result, sym, ap, subst, ◌∙◌}
use Rattle.tame_sparse.specs.declared.network.Exchange.{Exchange}
use Rattle.audit_core.specs.Audits.{Moment}
use Rattle.audit_core.specs.Checks.{judged_of}
use Rattle.audit_core.specs.Verdicts.{AreVerdicts, IsVerdictByHeldAt}
use Rattle.audit_core.specs.declared.auditing.Audited.{Audited}
use Rattle.audit_core.specs.declared.checking.Checks.{Checks}
use Rattle.audit_core.specs.declared.checking.Checks.TheVariants.{Online}
use Rattle.audit_program.specs.HonestRuns.{AsksOnline, IsHonestRun}
use Rattle.audit_program.specs.Jobs.{Asking, OfTask}
use Rattle.audit_remedies.specs.Makings.{IsMade, Making}
use Rattle.audit_remedies.specs.Endings.{Ending}
use Rattle.audit_program.specs.TaskRuns.{IsTaskRun}
use Rattle.audit_program.specs.Worlds.{Telling, World}
use Rattle.audit_remedies.specs.declared.faults.RunFault.{RunFault}
use Rattle.audit_remedies.specs.declared.makings.Made.{Made}
use Rattle.audit_program.specs.declared.tasks.Job.TheVariants as job
use Rattle.audit_remedies.specs.declared.remedies.Remedy.{Remedy}
use Rattle.audit_remedies.specs.declared.remedies.Remedy.TheVariants.{Report, Fix, Plan, Baseline, WriteBaseline, Vendor}

-- nothing is asked for what is made of an audit
made_unasked : (remedy : Remedy) (m : Making) (it : Result Made RunFault) → IsMade remedy m it → m.ended.exchanges ≡ m.left.exchanges
made_unasked Report m it h = ap (λ (k : Moment). k.exchanges) h.1
made_unasked (Fix dry_run) m it h = ap (λ (k : Moment). k.exchanges) h.1
made_unasked Plan m it h = h.1.exchanges
made_unasked (Baseline path) m it h = ap (λ (k : Moment). k.exchanges) h.1
made_unasked (WriteBaseline path) m it h = ap (λ (k : Moment). k.exchanges) h.1
made_unasked (Vendor more) m it h = h.1.exchanges

pub held_verdicts : (tells : Telling) (asking : Asking) (before now : World) (end : Ending) (audited : Audited) (added : List Exchange)
    → OfTask (λ task. IsTaskRun tells task before now end audited) asking → tells.files → AsksOnline asking before.host → IsHonestRun tells before now added
    → AreVerdicts (IsVerdictByHeldAt added audited.turns) (judged_of Online audited.lockfile) audited.verdicts
held_verdicts tells (Ok (job.Lockfile task)) before now end audited added whole told online honest =
    let made = whole.run in
    let is_online = online whole.given (whole.gives told) in
    let unasked = made_unasked task.remedy _ made.it made.is_made in
    let says = made.audit.says.headline is_online honest.serving.wire_tells honest.serving.disk_tells honest.serving.server added (sym unasked ∙ honest.follow) honest.serving.honest honest.serving.kept in
    let P : Checks → Type 0 = λ checks. AreVerdicts (IsVerdictByHeldAt added audited.turns) (judged_of checks audited.lockfile) audited.verdicts in subst P is_online says
held_verdicts tells (Ok (job.Binaries command more)) before now end audited added whole told online honest = absurd whole
held_verdicts tells (Ok (job.Generate n)) before now end audited added whole told online honest = absurd whole
held_verdicts tells (Ok job.Help) before now end audited added whole told online honest = absurd whole
held_verdicts tells (Ok job.Version) before now end audited added whole told online honest = absurd whole
held_verdicts tells (Err reason) before now end audited added whole told online honest = absurd whole
