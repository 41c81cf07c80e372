-- Which calls on the host failed in a run, and what was started (this project).
use Rattle.std.specs.Prelude.{◌≡◌, ◌⊎◌, ◌++◌, ◌∷◌, [], ℕ, pos, List, Bool, true, false, Option, Some, None, Ok}
use Rattle.tame_names.specs.Standing.{Host}
use Rattle.tame_names.specs.declared.host.FailedCall.{FailedCall}
use Rattle.audit_settings.specs.declared.commands.AuditCommand.{AuditCommand}
use Rattle.audit_asked.specs.ForBinaries.{IsForBinariesCall}
use Rattle.audit_asked.specs.Starts.{AddsStart, StartsAtMost}
use Rattle.audit_binaries.specs.Summaries.{AddsReadings}
use Rattle.audit_remedies.specs.declared.faults.RunFault.{RunFault}
use Rattle.audit_remedies.specs.declared.faults.RunFault.TheVariants as fault
use Rattle.audit_asked.specs.declared.runners.Started.{Started}
use Rattle.audit_program.specs.Jobs.{Asking}
use Rattle.audit_program.specs.Tasks.{IsTaskCall}
use Rattle.audit_program.specs.declared.tasks.Job.TheVariants as job
use Rattle.audit_remedies.specs.declared.remedies.Remedy.TheVariants.{Vendor}
use Rattle.audit_program.specs.declared.tasks.Task.{Task}
use Rattle.audit_remedies.specs.Calls.{AddsOne, AddsMakingCalls}

-- ---- failed calls in asking

-- a fault of the files added one call to the failed ones, which may end a run with its path; if out
-- of memory, one may have been added; any other answer added none
abbrev pub AddsRunCall : (List ℕ → FailedCall → Type 0) → List FailedCall → List FailedCall
    → Option RunFault → Type 0
AddsRunCall may before now (Some (fault.File path)) =
    (call : FailedCall) × (now ≡ before ++ call ∷ []) × may path call
AddsRunCall may before now (Some fault.NoMemory) = (now ≡ before) ⊎ AddsOne may before now
AddsRunCall may before now _ = now ≡ before

-- ---- failed readings of binaries

-- a fault of the files comes in asking; if out of memory, a call may have failed in asking, or
-- readings of binaries; and readings if the run ended with its output, or with a part of it
abbrev pub AddsBinCalls : AuditCommand → List (List ℕ) → Host → List FailedCall
    → List FailedCall → Option RunFault → Type 0
AddsBinCalls command paths host before now (Some (fault.File path)) =
    AddsRunCall (IsForBinariesCall command host) before now (Some (fault.File path))
AddsBinCalls command paths host before now (Some fault.NoMemory) =
    AddsOne (IsForBinariesCall command host) before now ⊎ AddsReadings paths before now
AddsBinCalls command paths host before now (Some fault.Print) = AddsReadings paths before now
AddsBinCalls command paths host before now None = AddsReadings paths before now
AddsBinCalls command paths host before now (Some _) = now ≡ before

-- ---- by what is asked for

-- in asking, or in making; a registry is refused in making
abbrev pub AddsTaskCalls : Task → Host → List FailedCall → List FailedCall → Option RunFault
    → Type 0
AddsTaskCalls task host before now (Some (fault.Vendor reason)) =
    AddsMakingCalls task.remedy before now (Some (fault.Vendor reason))
AddsTaskCalls task host before now reason =
    AddsRunCall (IsTaskCall task host) before now reason
    ⊎ AddsMakingCalls task.remedy before now reason

-- no other call fails but in audits of binaries
abbrev pub AddsCalls : Asking → Host → List FailedCall → List FailedCall → Option RunFault
    → Type 0
AddsCalls (Ok (job.Lockfile task)) host before now reason =
    AddsTaskCalls task host before now reason
AddsCalls (Ok (job.Binaries command more)) host before now reason =
    AddsBinCalls command more.binary_paths host before now reason
AddsCalls _ host before now reason = now ≡ before

-- ---- starts

-- without an audit, if a lockfile is generated: the start that generates it, as it ended; if a call
-- on the files failed, or out of memory, it may have been made or not; out of memory it may have
-- ended in any way
abbrev pub StartsUnaudited : List Started → List Started → Option RunFault → Type 0
StartsUnaudited before now (Some (fault.Generate status)) = AddsStart (Some status) before now
StartsUnaudited before now (Some (fault.Start failed)) = AddsStart None before now
StartsUnaudited before now (Some (fault.File path)) =
    (now ≡ before) ⊎ AddsStart (Some (pos 0)) before now
StartsUnaudited before now (Some fault.NoMemory) = StartsAtMost before now
StartsUnaudited before now _ = AddsStart (Some (pos 0)) before now

abbrev pub StartsWhere : Bool → List Started → List Started → Option RunFault → Type 0
StartsWhere true before now reason = StartsUnaudited before now reason
StartsWhere false before now reason = now ≡ before
