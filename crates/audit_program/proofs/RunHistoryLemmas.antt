-- Histories of runs keep the cache, and what their audits say.
use Rattle.std.proofs.Common.{◌≡◌, List, [], ◌++◌, Ok, Err, sym, ap, ◌∙◌, subst}
use Rattle.tame_entry.specs.ServerMaps.{ServerMap}
use Rattle.tame_cache.specs.Kept.{History, IsKept, begins, calls, crashes}
use Rattle.tame_cache.proofs.KeptLemmas.{history_kept, keeps_none, keeps_same}
use Rattle.tame_sparse.specs.Exchanges.{crates_io_index}
use Rattle.tame_sparse.specs.Honest.{AreHonest}
use Rattle.tame_sparse.specs.declared.network.Exchange.{Exchange}
use Rattle.audit_binaries.specs.Summaries.{AreHeld}
use Rattle.audit_binaries.specs.declared.answers.BinariesAudit.{BinariesAudit}
use Rattle.audit_core.specs.declared.checking.Checks.{Checks}
use Rattle.audit_core.specs.declared.checking.Checks.TheVariants.{Online}
use Rattle.audit_program.specs.BinaryRuns.{AreBinariesRun}
use Rattle.audit_program.specs.HonestRuns.{IsHonestRun}
use Rattle.audit_program.specs.Jobs.{Asking, OfBinaries}
use Rattle.audit_program.specs.RunHistories.{AsksBinariesOnline, RunHistory}
use Rattle.audit_program.specs.RunHistories as run
use Rattle.audit_program.specs.Worlds.{Telling, World}
use Rattle.audit_program.specs.declared.tasks.Job.TheVariants as job
use Rattle.audit_remedies.specs.Endings.{Ending}

as_history : {F P R W D : Type 0} (tells : Telling) (m : ServerMap) (began now : World) → tells.wire → tells.disk → RunHistory F P R W D tells m began now → History m crates_io_index [] began.cache now.cache
as_history tells m began now wire disk (run.begins world unbelieved) = begins world.cache unbelieved
as_history tells m began now wire disk (run.runs start mid next asking objects objects_next outcome added earlier made follow honest) =
    calls start.cache mid.cache next.cache (as_history tells m start mid wire disk earlier) (λ kept. (made.kept wire disk).kept m added follow honest kept)
as_history tells m began now wire disk (run.audits start mid next added earlier keeps follow honest) =
    calls start.cache mid.cache next.cache (as_history tells m start mid wire disk earlier) (λ kept. keeps.kept m added follow honest kept)
as_history tells m began now wire disk (run.others start mid next earlier same) =
    calls mid.cache next.cache next.cache (calls start.cache mid.cache next.cache (as_history tells m start mid wire disk earlier) (λ kept. keeps_same m crates_io_index [] mid.cache next.cache same kept))
    (λ kept. keeps_none m crates_io_index [] next.cache kept)
as_history tells m began now wire disk (run.crashes start mid next earlier crash) =
    crashes start.cache mid.cache next.cache (as_history tells m start mid wire disk earlier) crash

pub runs_keep : {F P R W D : Type 0} (tells : Telling) (m : ServerMap) (began now : World) → tells.wire → tells.disk → RunHistory F P R W D tells m began now → IsKept m crates_io_index [] now.cache
runs_keep tells m began now wire disk history = history_kept m crates_io_index [] began.cache now.cache (as_history tells m began now wire disk history)

-- a run in such a history is one over an honest server
pub honest_run : {F P R W D : Type 0} (tells : Telling) (m : ServerMap) (began before now : World) (added : List Exchange) → tells.wire → tells.disk → RunHistory F P R W D tells m began before
    → now.exchanges ≡ before.exchanges ++ added → AreHonest m added → IsHonestRun tells before now added
honest_run tells m began before now added wire disk history follow honest = record {
  follow = follow;
  serving = record {
    wire_tells = wire;
    disk_tells = disk;
    server = m;
    honest = honest;
    kept = runs_keep tells m began before wire disk history;
  };
}

-- ---- binaries

pub held_binaries : (tells : Telling) (asking : Asking) (before now : World) (end : Ending) (b : BinariesAudit) (added : List Exchange)
    → OfBinaries (λ command more. AreBinariesRun tells command more before now end b) asking → tells.files → AsksBinariesOnline asking before.host → IsHonestRun tells before now added → AreHeld Online added b.answers
held_binaries tells (Ok (job.Binaries command more)) before now end b added whole told online honest =
    let is_online = online whole.given (whole.asked.gives told) in
    let exchanges : whole.entry.exchanges ≡ before.exchanges = ap (λ (w : World). w.exchanges) whole.asked.same in
    let cache : whole.entry.cache ≡ before.cache = ap (λ (w : World). w.cache) whole.asked.same in
    let follow = honest.follow ∙ ap (λ (xs : List Exchange). xs ++ added) (sym exchanges) in
    let kept = subst (IsKept honest.serving.server crates_io_index []) (sym cache) honest.serving.kept in
    let held = whole.run.together.headline is_online honest.serving.wire_tells honest.serving.disk_tells honest.serving.server added follow honest.serving.honest kept in
    subst (λ (checks : Checks). AreHeld checks added b.answers) is_online held
held_binaries tells (Ok (job.Lockfile task)) before now end b added whole told online honest = absurd whole
held_binaries tells (Ok (job.Generate n)) before now end b added whole told online honest = absurd whole
held_binaries tells (Ok job.Help) before now end b added whole told online honest = absurd whole
held_binaries tells (Ok job.Version) before now end b added whole told online honest = absurd whole
held_binaries tells (Err reason) before now end b added whole told online honest = absurd whole
