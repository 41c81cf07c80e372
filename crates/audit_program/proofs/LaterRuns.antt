-- A later run by the cache alone says what an online run saw.
use Rattle.std.proofs.Common.{◌≡◌, ℕ, List, ◌++◌, Ok, Err, refl, sym, ◌∙◌}
use Rattle.tame_names.specs.Counts.{CountStayed}
use Rattle.tame_cache.specs.Kept.{Disk}
use Rattle.tame_sparse.specs.declared.network.Exchange.{Exchange}
use Rattle.audit_core.specs.Auditors.{auditor_of}
use Rattle.audit_core.specs.Checks.{asked_of}
use Rattle.audit_core.specs.Repeats.{AreKeptAnswers}
use Rattle.audit_core.specs.Turns.{index_file}
use Rattle.audit_core.specs.declared.auditing.Audited.{Audited}
use Rattle.audit_core.specs.declared.checking.Checks.TheVariants.{Online}
use Rattle.audit_remedies.specs.Endings.{Ending}
use Rattle.audit_remedies.specs.Makings.{making}
use Rattle.audit_program.specs.HonestRuns.{AsksOnline}
use Rattle.audit_program.specs.Jobs.{Asking, OfTask}
use Rattle.audit_program.specs.LaterRuns.{AreAlone, IsBetween}
use Rattle.audit_program.specs.LaterRuns as later
use Rattle.audit_program.specs.RunHistories.{AsksOffline}
use Rattle.audit_program.specs.TaskRuns.{IsTaskRun}
use Rattle.audit_program.specs.Worlds.{Telling, World, moment_of}
use Rattle.audit_program.specs.declared.tasks.Job.TheVariants as job
use Rattle.audit_program.specs.declared.tasks.Task.{Task}
use Rattle.audit_program.proofs.DoneAlike.{first_stayed, made_since}
use Rattle.audit_program.proofs.LaterAudits.{later_verdicts}
use Rattle.audit_program.proofs.Made.{chain_grows}

-- from a cache that was only read since
from_same : (paths : List (List ℕ)) (start left began now : Disk) → ((q : List ℕ) → left q ≡ start q) → IsBetween paths start began now → IsBetween paths left began now
from_same paths start left began now same later.begins = later.calls left start start (later.calls left left start later.begins (λ p among. sym (same (index_file p)))) (λ p among. refl)
from_same paths start left began now same (later.calls first mid next earlier leaves) = later.calls first mid next (from_same paths start left first mid same earlier) leaves
from_same paths start left began now same (later.crashes first mid next earlier leaves crash) = later.crashes first mid next (from_same paths start left first mid same earlier) leaves crash

tasks_later : (tells : Telling) (task task_too : Task) (before now before_too now_too : World) (end end_too : Ending) (audited again : Audited) (added : List Exchange) (began : Disk) → tells.files → tells.wire → tells.disk
    → IsTaskRun tells task before now end audited → IsTaskRun tells task_too before_too now_too end_too again → AsksOnline (Ok (job.Lockfile task)) before.host → AsksOffline (Ok (job.Lockfile task_too)) before_too.host
    → now.exchanges ≡ before.exchanges ++ added → AreKeptAnswers added → CountStayed before.disk_faults now.disk_faults → CountStayed before_too.disk_faults now_too.disk_faults
    → AreAlone (asked_of Online audited.lockfile) before.cache → IsBetween (asked_of Online audited.lockfile) now.cache began before_too.cache → again.lockfile ≡ audited.lockfile → again.verdicts ≡ audited.verdicts
tasks_later tells task task_too before now before_too now_too end end_too audited again added began f w d r r2 online offline follow kept stayed stayed_too alone between packages =
    let run = r.run in
    let run2 = r2.run in
    let m = making tells.files tells.disk r.given.advisories r.given.baseline audited run.left (moment_of now) r.there now.host in
    let m2 = making tells.files tells.disk r2.given.advisories r2.given.baseline again run2.left (moment_of now_too) r2.there now_too.host in
    let since = made_since task.remedy m run.it run.is_made in
    let since2 = made_since task_too.remedy m2 run2.it run2.is_made in
    let grown = chain_grows before.wire_faults before.disk_faults audited.turns run.left.wire_faults run.left.disk_faults run.audit.says.counted.counts in
    let grown2 = chain_grows before_too.wire_faults before_too.disk_faults again.turns run2.left.wire_faults run2.left.disk_faults run2.audit.says.counted.counts in
    let first = first_stayed before.disk_faults run.left.disk_faults now.disk_faults grown since.disk_faults stayed in
    let first2 = first_stayed before_too.disk_faults run2.left.disk_faults now_too.disk_faults grown2 since2.disk_faults stayed_too in
    let from = from_same (asked_of Online audited.lockfile) now.cache run.left.files began before_too.cache (λ q. sym (since.files d q)) between in
    later_verdicts (auditor_of r.given.config r.given.advisories) (auditor_of r2.given.config r2.given.advisories) tells.wire tells.disk tells.wire tells.disk (moment_of before) run.left (moment_of before_too) run2.left r.given.text r2.given.text audited again
    added began w d w d (online r.given (r.gives f)) (offline r2.given (r2.gives f)) run.audit run2.audit (sym since.exchanges ∙ follow) kept first first2 alone from packages

pub later_tasks : (tells : Telling) (asking asking_too : Asking) (before now before_too now_too : World) (end end_too : Ending) (audited again : Audited) (added : List Exchange) (began : Disk) → tells.files → tells.wire → tells.disk
    → OfTask (λ task. IsTaskRun tells task before now end audited) asking → OfTask (λ task. IsTaskRun tells task before_too now_too end_too again) asking_too → AsksOnline asking before.host → AsksOffline asking_too before_too.host
    → now.exchanges ≡ before.exchanges ++ added → AreKeptAnswers added → CountStayed before.disk_faults now.disk_faults → CountStayed before_too.disk_faults now_too.disk_faults
    → AreAlone (asked_of Online audited.lockfile) before.cache → IsBetween (asked_of Online audited.lockfile) now.cache began before_too.cache → again.lockfile ≡ audited.lockfile → again.verdicts ≡ audited.verdicts
later_tasks tells (Ok (job.Lockfile task)) (Ok (job.Lockfile task_too)) before now before_too now_too end end_too audited again added began f w d r r2 online offline follow kept stayed stayed_too alone between packages =
    tasks_later tells task task_too before now before_too now_too end end_too audited again added began f w d r r2 online offline follow kept stayed stayed_too alone between packages
later_tasks tells (Ok (job.Lockfile task)) (Ok (job.Binaries command more)) before now before_too now_too end end_too audited again added began f w d r r2 online offline follow kept stayed stayed_too alone between packages = absurd r2
later_tasks tells (Ok (job.Lockfile task)) (Ok (job.Generate n)) before now before_too now_too end end_too audited again added began f w d r r2 online offline follow kept stayed stayed_too alone between packages = absurd r2
later_tasks tells (Ok (job.Lockfile task)) (Ok job.Help) before now before_too now_too end end_too audited again added began f w d r r2 online offline follow kept stayed stayed_too alone between packages = absurd r2
later_tasks tells (Ok (job.Lockfile task)) (Ok job.Version) before now before_too now_too end end_too audited again added began f w d r r2 online offline follow kept stayed stayed_too alone between packages = absurd r2
later_tasks tells (Ok (job.Lockfile task)) (Err reason) before now before_too now_too end end_too audited again added began f w d r r2 online offline follow kept stayed stayed_too alone between packages = absurd r2
later_tasks tells (Ok (job.Binaries command more)) asking_too before now before_too now_too end end_too audited again added began f w d r r2 online offline follow kept stayed stayed_too alone between packages = absurd r
later_tasks tells (Ok (job.Generate n)) asking_too before now before_too now_too end end_too audited again added began f w d r r2 online offline follow kept stayed stayed_too alone between packages = absurd r
later_tasks tells (Ok job.Help) asking_too before now before_too now_too end end_too audited again added began f w d r r2 online offline follow kept stayed stayed_too alone between packages = absurd r
later_tasks tells (Ok job.Version) asking_too before now before_too now_too end end_too audited again added began f w d r r2 online offline follow kept stayed stayed_too alone between packages = absurd r
later_tasks tells (Err reason) asking_too before now before_too now_too end end_too audited again added began f w d r r2 online offline follow kept stayed stayed_too alone between packages = absurd r
