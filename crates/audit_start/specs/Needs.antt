-- What a run does with the cache, by its arguments, and the lock that it needs for that (this
-- project).
use Rattle.std.specs.Prelude.{Ok, Err, if◌then◌else◌}
use Rattle.tame_names.specs.declared.locks.LockState.{LockState}
use Rattle.tame_names.specs.declared.locks.LockState.TheVariants as state
use Rattle.audit_settings.specs.declared.commands.AuditCommand.{AuditCommand}
use Rattle.audit_remedies.specs.declared.remedies.Remedy.{Remedy}
use Rattle.audit_remedies.specs.declared.remedies.Remedy.TheVariants.{Report, Fix, Plan, Baseline, WriteBaseline, Vendor}
use Rattle.audit_program.specs.Jobs.{Asking}
use Rattle.audit_program.specs.declared.tasks.Job.TheVariants as job

-- of an audit: none if no versions are checked, a shared one if the index isn't asked, else an
-- exclusive one
abbrev pub audit_lock : AuditCommand → LockState
audit_lock options =
    if options.no_yanked then state.Unlocked
    else if options.no_fetch then state.Shared
    else state.Exclusive

-- the same if the cache is read after the audit too
abbrev pub at_least_shared : LockState → LockState
at_least_shared state.Unlocked = state.Shared
at_least_shared state.Shared = state.Shared
at_least_shared state.Exclusive = state.Exclusive

-- by what is done with the audit: a plan and a registry read the cache
abbrev pub task_lock : Remedy → AuditCommand → LockState
task_lock Report options = audit_lock options
task_lock (Fix dry_run) options = audit_lock options
task_lock Plan options = at_least_shared (audit_lock options)
task_lock (Baseline path) options = audit_lock options
task_lock (WriteBaseline path) options = audit_lock options
task_lock (Vendor more) options = at_least_shared (audit_lock options)

-- by what is asked for: help, the version, made packages and bad arguments need none
abbrev pub lock_of : Asking → LockState
lock_of (Ok (job.Lockfile task)) = task_lock task.remedy task.command
lock_of (Ok (job.Binaries options more)) = audit_lock options
lock_of (Ok job.Help) = state.Unlocked
lock_of (Ok job.Version) = state.Unlocked
lock_of (Ok (job.Generate n)) = state.Unlocked
lock_of (Err broken) = state.Unlocked
