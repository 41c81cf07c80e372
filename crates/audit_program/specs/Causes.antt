-- Why a run has a fault (this project).
use Rattle.std.specs.Prelude.{◌≡◌, ◌≢◌, ◌⊎◌, ◌<◌, ℕ, pos, List, IsTrue, Option, Some, Ok, Err, IfSome}
use Rattle.tame_names.specs.Counts.{CountRose, CountRoseBy}
use Rattle.tame_names.specs.Standing.{Host}
use Rattle.audit_lock.specs.Locked.{locked}
use Rattle.audit_lock.specs.declared.lockfiles.LockfileFault.{LockfileFault}
use Rattle.audit_lock.specs.declared.lockfiles.LockfileFault.TheVariants as lockfile_fault
use Rattle.audit_lock.specs.declared.resolving.Package.{Package}
use Rattle.audit_settings.specs.declared.commands.AuditCommand.{AuditCommand}
use Rattle.audit_words.specs.declared.commands.WordsFault.{WordsFault}
use Rattle.audit_words.specs.declared.commands.WordsFault.TheVariants as words_fault
use Rattle.audit_asked.specs.Asked.{status_told}
use Rattle.audit_asked.specs.ForBinaries.{asked_for_binaries}
use Rattle.audit_asked.specs.Refusals.{IsAskFault, IsReadFault, is_told, refused}
use Rattle.audit_asked.specs.declared.asking.Asked.{Asked}
use Rattle.audit_asked.specs.declared.faults.AskFault.{AskFault}
use Rattle.audit_remedies.specs.declared.faults.RunFault.{RunFault}
use Rattle.audit_remedies.specs.declared.faults.RunFault.TheVariants as fault
use Rattle.vendor_registry.specs.declared.faults.VendorFault.TheVariants as vendor_fault
use Rattle.audit_remedies.specs.Faults.{IsPrintFault, by_ask}
use Rattle.audit_program.specs.Jobs.{Asking, OfTask}
use Rattle.audit_remedies.specs.Makings.{IsMakingFault}
use Rattle.audit_remedies.specs.Remedies.{baseline_path}
use Rattle.audit_program.specs.Tasks.{task_asked}
use Rattle.audit_program.specs.Worlds.{World}
use Rattle.audit_program.specs.declared.tasks.Job.TheVariants as job
use Rattle.audit_program.specs.declared.tasks.Task.{Task}

-- ---- in an audit of a lockfile

-- what was asked has text that is no lockfile, for this reason
pub record HasNoLockfile (told : Type 0) (task : Task) (host : Host) (reason : LockfileFault)
    : Type 0 where
  pub given : Asked
  pub gives : told → task_asked task host (pos 0) ≡ Ok given
  pub lockfile : locked given.text ≡ Err reason
  pub no_memory : reason ≢ lockfile_fault.NoMemory

-- what is asked of the host isn't given, for this reason; if what the host has decides it, the
-- reason follows from that
pub record Refuses (told : Type 0) (task : Task) (host : Host) (reason : RunFault)
    : Type 0 where
  pub asked : AskFault
  pub is : reason ≡ by_ask asked
  pub gives : told → IsTrue (is_told asked)
      → task_asked task host (status_told {T = Unit {0}} (Err asked)) ≡ Err (refused asked)
  pub only : IsAskFault (baseline_path task.remedy) asked

-- by what the host has, by the lockfile's text, or by what is made of the audit; which count rose
-- is said by `HasCauses`
abbrev pub TaskCause : Type 0 → Task → Host → RunFault → Type 0
TaskCause told task host (fault.Lockfile reason) = HasNoLockfile told task host reason
TaskCause told task host (fault.Vendor reason) = IsMakingFault task.remedy (fault.Vendor reason)
TaskCause told task host (fault.Start failed) = 0 < failed
TaskCause told task host fault.Print = Unit {0}
TaskCause told task host fault.NoMemory = Unit {0}
TaskCause told task host reason = Refuses told task host reason

-- ---- in audits of binaries

pub record RefusesBinaries (told : Type 0) (command : AuditCommand) (host : Host)
    (reason : RunFault) : Type 0 where
  pub asked : AskFault
  pub is : reason ≡ by_ask asked
  pub gives : told → IsTrue (is_told asked)
      → asked_for_binaries command host ≡ Err (refused asked)
  pub only : IsReadFault asked

-- a refused binary is an answer, and no fault
abbrev pub BinariesCause : Type 0 → AuditCommand → Host → RunFault → Type 0
BinariesCause told command host fault.Print = Unit {0}
BinariesCause told command host fault.NoMemory = Unit {0}
BinariesCause told command host reason = RefusesBinaries told command host reason

-- ---- of any arguments

-- the rule that the arguments break
abbrev pub IsUsage : WordsFault → RunFault → Type 0
IsUsage (words_fault.Usage place) (fault.Usage told) = told ≡ place
IsUsage reason fault.NoMemory = Unit {0}
IsUsage reason _ = ⊥

-- by what is asked for; help, the version and made packages can only fail in printing
abbrev pub CauseOf : Type 0 → Asking → Host → RunFault → Type 0
CauseOf told (Ok (job.Lockfile task)) host reason = TaskCause told task host reason
CauseOf told (Ok (job.Binaries command more)) host reason = BinariesCause told command host reason
CauseOf told (Ok _) host reason = IsPrintFault reason
CauseOf told (Err broken) host reason = IsUsage broken reason

-- ---- the cause, and the counts that rose

-- the fault has this cause; and the counts rose that it reports
pub record HasCauses (Cause : RunFault → Type 0) (before now : World)
    (reason : Option RunFault) : Type 0 where
  pub cause : IfSome reason Cause
  pub print_rose : reason ≡ Some fault.Print
      → CountRose before.out_faults now.out_faults ⊎ CountRose before.err_faults now.err_faults
  pub file_rose : (path : List ℕ) → reason ≡ Some (fault.File path)
      → CountRose before.file_faults now.file_faults
  pub crate_rose : (path : List ℕ) → reason ≡ Some (fault.Vendor (vendor_fault.File path))
      → CountRose before.file_faults now.file_faults
  pub store_rose : (at : ℕ) → reason ≡ Some (fault.Vendor (vendor_fault.Store at))
      → CountRose before.disk_faults now.disk_faults
  pub start_rose : (failed : ℕ) → reason ≡ Some (fault.Start failed)
      → CountRoseBy failed before.start_faults now.start_faults

-- ---- what is accepted

-- an audit of a lockfile is asked for, and what the host has gives what it asks, whose text is a
-- lockfile with these packages
pub record Accepts (asking : Asking) (host : Host) (given : Asked) (packages : List Package)
    : Type 0 where
  pub gives : OfTask (λ task. task_asked task host (pos 0) ≡ Ok given) asking
  pub lockfile : locked given.text ≡ Ok packages

-- ---- kinds of faults

-- the faults of an audit of a lockfile's text
abbrev pub IsAuditFault : RunFault → Type 0
IsAuditFault (fault.Lockfile reason) = reason ≢ lockfile_fault.NoMemory
IsAuditFault fault.NoMemory = Unit {0}
IsAuditFault _ = ⊥

-- the fault that a run ends with once it has what it asked for
abbrev pub IsAskedFault : Task → Asked → RunFault → Type 0
IsAskedFault task given (fault.Lockfile reason) =
    (reason ≢ lockfile_fault.NoMemory) × (locked given.text ≡ Err reason)
IsAskedFault task given (fault.Start failed) = 0 < failed
IsAskedFault task given fault.Print = Unit {0}
IsAskedFault task given reason = IsMakingFault task.remedy reason
