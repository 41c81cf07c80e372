-- When a run has no fault but out of memory, or that a registry couldn't be created (this project).
use Rattle.std.specs.Prelude.{◌≡◌, ◌≤◌, ℤ, List, Option, Some, None, Ok}
use Rattle.tame_names.specs.Counts.{CountStayed}
use Rattle.tame_names.specs.Standing.{Host}
use Rattle.audit_lock.specs.Locked.{locked}
use Rattle.audit_lock.specs.declared.resolving.Package.{Package}
use Rattle.audit_asked.specs.ForBinaries.{asked_for_binaries}
use Rattle.audit_asked.specs.declared.asking.Asked.{Asked}
use Rattle.audit_asked.specs.declared.binaries.AskedForBinaries.{AskedForBinaries}
use Rattle.audit_program.specs.Jobs.{Asking}
use Rattle.audit_program.specs.Tasks.{task_asked}
use Rattle.audit_program.specs.Worlds.{World}
use Rattle.audit_remedies.specs.declared.faults.RunFault.{RunFault}
use Rattle.audit_remedies.specs.declared.faults.RunFault.TheVariants as fault
use Rattle.audit_program.specs.declared.tasks.Job.TheVariants as job
use Rattle.audit_program.specs.declared.tasks.Task.{Task}

-- what the host has gives all that the audit of a lockfile asks for, whatever a start that
-- generates one would end with; and the text is a lockfile
pub record IsTaskReady (task : Task) (host : Host) : Type 0 where
  pub given : Asked
  pub gives : (status : ℤ) → task_asked task host status ≡ Ok given
  pub packages : List Package
  pub lockfile : locked given.text ≡ Ok packages

-- what the host has gives all that is asked for; made packages need nothing of it
abbrev pub IsReady : Asking → Host → Type 0
IsReady (Ok (job.Lockfile task)) host = IsTaskReady task host
IsReady (Ok (job.Binaries command more)) host =
    (given : AskedForBinaries) × (asked_for_binaries command host ≡ Ok given)
IsReady (Ok (job.Generate n)) host = Unit {0}
IsReady _ host = ⊥

-- no call on the host's files, its starts of programs or the outputs failed
pub record AllStayed (before now : World) : Type 0 where
  pub files : CountStayed before.file_faults now.file_faults
  pub starts : CountStayed before.start_faults now.start_faults
  pub out : CountStayed before.out_faults now.out_faults
  pub err : CountStayed before.err_faults now.err_faults

-- none of their counts fell
pub record CountsGrow (before now : World) : Type 0 where
  pub files : before.file_faults ≤ now.file_faults
  pub starts : before.start_faults ≤ now.start_faults
  pub out : before.out_faults ≤ now.out_faults
  pub err : before.err_faults ≤ now.err_faults

-- a run ended without a fault, out of memory, or without the registry that it was to create
abbrev pub IsComplete : Option RunFault → Type 0
IsComplete None = Unit {0}
IsComplete (Some fault.NoMemory) = Unit {0}
IsComplete (Some (fault.Vendor reason)) = Unit {0}
IsComplete (Some _) = ⊥
