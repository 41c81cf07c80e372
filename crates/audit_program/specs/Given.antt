-- A run that has what it asked for (this project).
use Rattle.std.specs.Prelude.{◌≡◌, ◌≢◌, ◌⊎◌, ℕ, List, [], Option, Some, None, Ok, Err, IsSome, IfSome, IfNone}
use Rattle.audit_lock.specs.Locked.{locked}
use Rattle.audit_lock.specs.declared.lockfiles.LockfileFault.{LockfileFault}
use Rattle.audit_lock.specs.declared.resolving.Package.{Package}
use Rattle.audit_settings.specs.declared.commands.AuditCommand.{AuditCommand}
use Rattle.audit_words.specs.declared.commands.BinCommand.{BinCommand}
use Rattle.audit_asked.specs.declared.asking.Asked.{Asked}
use Rattle.audit_asked.specs.declared.binaries.AskedForBinaries.{AskedForBinaries}
use Rattle.audit_binaries.specs.Binaries.{ArePartly}
use Rattle.audit_core.specs.Checks.{asked_of, checks_of}
use Rattle.audit_core.specs.Leaves.{AsksOnly, CallsBy}
use Rattle.audit_core.specs.Turns.{StaysKept}
use Rattle.audit_program.specs.BinaryRuns.{IsGivenBinariesRun, scan_of, tells_of}
use Rattle.audit_remedies.specs.Calls.{AddsMakingCalls}
use Rattle.audit_program.specs.Causes.{HasCauses, IsAskedFault}
use Rattle.audit_program.specs.Completes.{CountsGrow}
use Rattle.audit_remedies.specs.Faults.{IsPrintFault}
use Rattle.audit_program.specs.Outcomes.{EndsBy, HasAudits}
use Rattle.audit_remedies.specs.Outputs.{IsEnded}
use Rattle.audit_program.specs.TaskRuns.{IsGivenRun}
use Rattle.audit_remedies.specs.Endings.{ending}
use Rattle.audit_remedies.specs.Remedies.{ReadsCache, WritesFiles}
use Rattle.audit_program.specs.Tasks.{task_place}
use Rattle.audit_program.specs.Worlds.{Telling, Uncalled, World, holding_of, outside_of}
use Rattle.audit_program.specs.declared.outcomes.Outcome.{Outcome}
use Rattle.audit_remedies.specs.declared.faults.RunFault.{RunFault}
use Rattle.audit_remedies.specs.declared.faults.RunFault.TheVariants as fault
use Rattle.audit_program.specs.declared.tasks.Job.TheVariants as job
use Rattle.audit_program.specs.declared.tasks.Task.{Task}

-- without an audit all is as asking left it, but for the fault's line; and unless it is out of
-- memory, the wire and the cache too
pub record IsLeft (tells : Telling) (place : List ℕ) (same : Uncalled) (before now : World)
    (reason : Option RunFault) : Type 0 where
  pub files : tells.files → now.host ≡ before.host
  pub calls : tells.files → now.failed ≡ before.failed
  pub runner : same.runner
  pub out : now.out ≡ before.out
  pub err : tells.err → IsEnded place before.err [] reason now.err before.err_faults now.err_faults
  pub early : reason ≢ Some fault.NoMemory → same.wire × same.disk

-- the audit of a lockfile, and what is done with it
pub record IsTaskOf (tells : Telling) (task : Task) (given : Asked) (same : Uncalled)
    (before now : World) (outcome : Outcome) : Type 0 where
  pub audited : IfSome outcome.audited (IsGivenRun tells task given before now
      (ending outcome.fault outcome.status outcome.plan))
  pub has : HasAudits (Ok (job.Lockfile task)) outcome
  pub binaries : outcome.binaries ≡ None
  pub generated : outcome.generated ≡ None
  -- a start that failed, and a file that couldn't be written, leave the audit
  pub start_audit : (failed : ℕ) → outcome.fault ≡ Some (fault.Start failed)
      → IsSome outcome.audited
  pub file_audit : (path : List ℕ) → outcome.fault ≡ Some (fault.File path)
      → IsSome outcome.audited
  pub ends : EndsBy (Ok (job.Lockfile task)) outcome
  pub causes : HasCauses (IsAskedFault task given) before now outcome.fault
  pub later : CountsGrow before now
  pub failed : tells.files
      → AddsMakingCalls task.remedy before.failed now.failed outcome.fault
  pub unwritten : tells.files → (WritesFiles task.remedy → ⊥) → now.host ≡ before.host
  pub unaudited : IfNone outcome.audited
      (IsLeft tells (task_place task) same before now outcome.fault)
  -- if the text is no lockfile, nothing is asked of the wire and the cache
  pub refused : (f : LockfileFault) → locked given.text ≡ Err f → same.wire × same.disk
  pub kept : tells.wire → tells.disk
      → StaysKept before.exchanges now.exchanges before.cache now.cache
  pub asks : (packages : List Package) → locked given.text ≡ Ok packages
      → AsksOnly tells.wire tells.disk (asked_of (checks_of given.config) packages)
      (holding_of before) (holding_of now)
  pub calls : CallsBy (checks_of given.config) tells.disk same.wire
      ((ReadsCache task.remedy → ⊥) → same.disk) (holding_of before) (holding_of now)

-- audits of binaries
pub record AreBinariesOf (tells : Telling) (command : AuditCommand) (more : BinCommand)
    (given : AskedForBinaries) (same : Uncalled) (before now : World) (outcome : Outcome)
    : Type 0 where
  pub binaries : IfSome outcome.binaries (IsGivenBinariesRun tells command more given before now
      (ending outcome.fault outcome.status outcome.plan))
  pub audited : outcome.audited ≡ None
  pub generated : outcome.generated ≡ None
  pub plan : outcome.plan ≡ None
  pub ends : EndsBy (Ok (job.Binaries command more)) outcome
  pub has : (outcome.fault ≡ None) ⊎ (outcome.fault ≡ Some fault.Print) → IsSome outcome.binaries
  pub out : IfNone outcome.binaries (now.out ≡ before.out)
  pub err : tells.err → IfNone outcome.binaries (IsEnded [] before.err [] outcome.fault now.err
      before.err_faults now.err_faults)
  pub partly : IfNone outcome.binaries (ArePartly (tells_of tells) (scan_of given more before)
      (outside_of before) (outside_of now) more.binary_paths)
  pub causes : HasCauses IsPrintFault before now outcome.fault
  pub files : tells.files → now.host ≡ before.host
  pub kept : tells.wire → tells.disk
      → StaysKept before.exchanges now.exchanges before.cache now.cache
  pub calls : CallsBy (checks_of given.config) tells.disk same.wire same.disk
      (holding_of before) (holding_of now)
