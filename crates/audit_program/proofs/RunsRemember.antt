-- What offline audits of runs say in a history of runs.
use Rattle.std.proofs.Common.{◌≡◌, ℕ, List, [], ◌∷◌, ◌++◌, Ok, Err, refl, sym, ap, ◌∙◌, subst}
use Rattle.std.proofs.lemmas.List.{append-nil}
use Rattle.tame_entry.specs.ServerMaps.{ServerMap}
use Rattle.tame_sparse.specs.Honest.{AreHonest}
use Rattle.tame_sparse.specs.declared.network.Exchange.{Exchange}
use Rattle.audit_binaries.specs.Binaries.{AreBinaries, Outside, Scan, Tells}
use Rattle.audit_binaries.specs.declared.answers.BinariesAudit.{BinariesAudit}
use Rattle.audit_binaries.specs.declared.answers.BinaryAnswer.{BinaryAnswer}
use Rattle.audit_binaries.specs.declared.answers.BinaryAnswer.TheVariants as answer
use Rattle.audit_core.specs.Audits.{Moment}
use Rattle.audit_core.specs.Checks.{checks_of, judged_of}
use Rattle.audit_core.specs.Histories.{AuditHistory}
use Rattle.audit_core.specs.Histories as audit
use Rattle.audit_core.specs.Remembered.{IsRememberedAt, exchanges_in}
use Rattle.audit_core.specs.Sent.{HoldsSent}
use Rattle.audit_core.specs.Verdicts.{AreVerdicts}
use Rattle.audit_core.specs.declared.auditing.Audited.{Audited}
use Rattle.audit_core.specs.declared.checking.Checks.{Checks}
use Rattle.audit_core.specs.declared.checking.Checks.TheVariants.{Offline}
use Rattle.audit_core.proofs.Exchanged.{keeps_nothing, keeps_unchanged}
use Rattle.audit_core.proofs.Remembers.{all_honest, all_remembered, history_sent}
use Rattle.audit_core.proofs.SentLemmas.{holds_after}
use Rattle.audit_program.specs.BinaryRuns.{AreBinariesRun, scan_of, tells_of}
use Rattle.audit_program.specs.Jobs.{Asking, OfBinaries, OfTask}
use Rattle.audit_program.specs.RunHistories.{AllRemember, AsksBinariesOffline, AsksOffline, RunHistory, exchanges_in_runs}
use Rattle.audit_program.specs.RunHistories as run
use Rattle.audit_program.specs.TaskRuns.{IsTaskRun}
use Rattle.audit_program.specs.Worlds.{Telling, World, outside_of}
use Rattle.audit_program.specs.declared.tasks.Job.TheVariants as job
use Rattle.audit_remedies.specs.Endings.{Ending}

-- ---- as a history of audits

abbrev as_audits : (F P R W D : Type 0) (tells : Telling) (m : ServerMap) (began now : World) → tells.wire → tells.disk → RunHistory F P R W D tells m began now → AuditHistory m began.cache now.cache
as_audits F P R W D tells m began now wire disk (run.begins world unbelieved) = audit.begins world.cache unbelieved
as_audits F P R W D tells m began now wire disk (run.runs start mid next asking objects objects_next outcome added earlier made follow honest) =
    audit.audits start.cache mid.cache next.cache mid.exchanges next.exchanges added (as_audits F P R W D tells m start mid wire disk earlier) follow honest (made.kept wire disk)
as_audits F P R W D tells m began now wire disk (run.audits start mid next added earlier keeps follow honest) =
    audit.audits start.cache mid.cache next.cache mid.exchanges next.exchanges added (as_audits F P R W D tells m start mid wire disk earlier) follow honest keeps
as_audits F P R W D tells m began now wire disk (run.others start mid next earlier same) =
    audit.audits mid.cache next.cache next.cache [] [] [] (audit.audits start.cache mid.cache next.cache [] [] [] (as_audits F P R W D tells m start mid wire disk earlier) refl tt (keeps_unchanged [] [] mid.cache next.cache same)) refl tt
    (keeps_nothing [] [] next.cache)
as_audits F P R W D tells m began now wire disk (run.crashes start mid next earlier crash) =
    audit.crashes start.cache mid.cache next.cache (as_audits F P R W D tells m start mid wire disk earlier) crash

same_exchanges : (F P R W D : Type 0) (tells : Telling) (m : ServerMap) (began now : World) (wire : tells.wire) (disk : tells.disk) (history : RunHistory F P R W D tells m began now)
    → exchanges_in m began.cache now.cache (as_audits F P R W D tells m began now wire disk history) ≡ exchanges_in_runs F P R W D tells m began now history
same_exchanges F P R W D tells m began now wire disk (run.begins world unbelieved) = refl
same_exchanges F P R W D tells m began now wire disk (run.runs start mid next asking objects objects_next outcome added earlier made follow honest) =
    ap (λ (es : List Exchange). es ++ added) (same_exchanges F P R W D tells m start mid wire disk earlier)
same_exchanges F P R W D tells m began now wire disk (run.audits start mid next added earlier keeps follow honest) =
    ap (λ (es : List Exchange). es ++ added) (same_exchanges F P R W D tells m start mid wire disk earlier)
same_exchanges F P R W D tells m began now wire disk (run.others start mid next earlier same) =
    append-nil _ ∙ append-nil _ ∙ same_exchanges F P R W D tells m start mid wire disk earlier
same_exchanges F P R W D tells m began now wire disk (run.crashes start mid next earlier crash) = same_exchanges F P R W D tells m start mid wire disk earlier

pub runs_honest : (F P R W D : Type 0) (tells : Telling) (m : ServerMap) (began now : World) → tells.wire → tells.disk → (history : RunHistory F P R W D tells m began now) → AreHonest m (exchanges_in_runs F P R W D tells m began now history)
runs_honest F P R W D tells m began now wire disk history =
    let whole = as_audits F P R W D tells m began now wire disk history in
    subst (λ (es : List Exchange). AreHonest m es) (same_exchanges F P R W D tells m began now wire disk history) (all_honest m began.cache now.cache whole)

pub runs_sent : (F P R W D : Type 0) (tells : Telling) (m : ServerMap) (began now : World) → tells.wire → tells.disk → (history : RunHistory F P R W D tells m began now) → HoldsSent (exchanges_in_runs F P R W D tells m began now history) now.cache
runs_sent F P R W D tells m began now wire disk history =
    let whole = as_audits F P R W D tells m began now wire disk history in
    subst (λ (es : List Exchange). HoldsSent es now.cache) (same_exchanges F P R W D tells m began now wire disk history) (history_sent m began.cache now.cache whole)

-- ---- the audit of a lockfile

pub task_remembers : (tells : Telling) (asking : Asking) (before now : World) (end : Ending) (audited : Audited) (m : ServerMap) (es : List Exchange)
    → OfTask (λ task. IsTaskRun tells task before now end audited) asking → tells.files → tells.disk → AsksOffline asking before.host → AreHonest m es → HoldsSent es before.cache
    → AreVerdicts (IsRememberedAt es audited.turns) (judged_of Offline audited.lockfile) audited.verdicts
task_remembers tells (Ok (job.Lockfile task)) before now end audited m es whole told disk offline honest holds =
    let is_offline = offline whole.given (whole.gives told) in
    let cache = whole.run.audit.says.recalled is_offline in
    let says = all_remembered tells.disk disk m es before.cache audited.turns (judged_of (checks_of whole.given.config) audited.lockfile) audited.verdicts honest holds cache.unasked cache.judged in
    let P : Checks → Type 0 = λ checks. AreVerdicts (IsRememberedAt es audited.turns) (judged_of checks audited.lockfile) audited.verdicts in subst P is_offline says
task_remembers tells (Ok (job.Binaries command more)) before now end audited m es whole told disk offline honest holds = absurd whole
task_remembers tells (Ok (job.Generate n)) before now end audited m es whole told disk offline honest holds = absurd whole
task_remembers tells (Ok job.Help) before now end audited m es whole told disk offline honest holds = absurd whole
task_remembers tells (Ok job.Version) before now end audited m es whole told disk offline honest holds = absurd whole
task_remembers tells (Err reason) before now end audited m es whole told disk offline honest holds = absurd whole

-- ---- those of binaries

all_remember : (tells : Tells) (scan : Scan) (began ended : Outside) (paths : List (List ℕ)) (answers : List BinaryAnswer) (m : ServerMap) (es : List Exchange) → scan.auditor.checks ≡ Offline → tells.wire → tells.disk → AreHonest m es
    → HoldsSent es began.moment.files → AreBinaries tells scan began ended paths answers → AllRemember scan.auditor.checks es answers
all_remember tells scan began ended [] [] m es off wire disk honest holds h = tt
all_remember tells scan began ended [] (a ∷ answers) m es off wire disk honest holds h = absurd h
all_remember tells scan began ended (p ∷ paths) [] m es off wire disk honest holds h = absurd h
all_remember tells scan began ended (p ∷ paths) (answer.Audited found audited ∷ answers) m es off wire disk honest holds h =
    let a = h.1.answered in
    let cache = a.audit.says.recalled off in
    let none : h.0.moment.exchanges ≡ began.moment.exchanges ++ [] = a.unasked (λ on. cc (off, on)) ∙ sym (append-nil began.moment.exchanges) in
    let after : HoldsSent (es ++ []) h.0.moment.files = holds_after (es ++ []) began.moment.files h.0.moment.files ((a.kept wire disk).sent es [] none holds) in
    let same : HoldsSent es h.0.moment.files = subst (λ (xs : List Exchange). HoldsSent xs h.0.moment.files) (append-nil es) after in (
      all_remembered tells.disk disk m es began.moment.files audited.turns (judged_of scan.auditor.checks audited.lockfile) audited.verdicts honest holds cache.unasked cache.judged,
      all_remember tells scan h.0 ended paths answers m es off wire disk honest same h.2,
    )
all_remember tells scan began ended (p ∷ paths) (answer.Refused f ∷ answers) m es off wire disk honest holds h =
    all_remember tells scan h.0 ended paths answers m es off wire disk honest (subst (λ (x : Moment). HoldsSent es x.files) (sym h.1.answered.1.moment) holds) h.2

pub binaries_remember : (tells : Telling) (asking : Asking) (before now : World) (end : Ending) (b : BinariesAudit) (m : ServerMap) (es : List Exchange)
    → OfBinaries (λ command more. AreBinariesRun tells command more before now end b) asking → tells.files → tells.wire → tells.disk → AsksBinariesOffline asking before.host → AreHonest m es → HoldsSent es before.cache
    → AllRemember Offline es b.answers
binaries_remember tells (Ok (job.Binaries command more)) before now end b m es whole told wire disk offline honest holds =
    let is_offline = offline whole.given (whole.asked.gives told) in
    let cache : whole.entry.cache ≡ before.cache = ap (λ (w : World). w.cache) whole.asked.same in
    let there : HoldsSent es whole.entry.cache = subst (HoldsSent es) (sym cache) holds in
    let all = all_remember (tells_of tells) (scan_of whole.given more whole.entry) (outside_of whole.entry) (outside_of now) more.binary_paths b.answers m es is_offline wire disk honest there whole.run.answered in
    subst (λ (checks : Checks). AllRemember checks es b.answers) is_offline all
binaries_remember tells (Ok (job.Lockfile task)) before now end b m es whole told wire disk offline honest holds = absurd whole
binaries_remember tells (Ok (job.Generate n)) before now end b m es whole told wire disk offline honest holds = absurd whole
binaries_remember tells (Ok job.Help) before now end b m es whole told wire disk offline honest holds = absurd whole
binaries_remember tells (Ok job.Version) before now end b m es whole told wire disk offline honest holds = absurd whole
binaries_remember tells (Err reason) before now end b m es whole told wire disk offline honest holds = absurd whole
