-- A run of the program: what it answers and what it leaves, by what its arguments ask for (this
-- project).
use Rattle.std.specs.Prelude.{◌≡◌, ◌⊎◌, Some, Ok, IfSome, IfNone}
use Rattle.audit_core.specs.Turns.{StaysKept}
use Rattle.audit_generator.specs.Moments.{IsGenerated}
use Rattle.audit_generator.specs.declared.generating.Generated.{Generated}
use Rattle.audit_program.specs.BinaryRuns.{AreBinariesRun, ArePartlyRun}
use Rattle.audit_program.specs.Causes.{CauseOf, HasCauses}
use Rattle.audit_program.specs.Jobs.{Asking, IfBinaries, OfBinaries, OfTask}
use Rattle.audit_program.specs.Leaves.{Leaves}
use Rattle.audit_program.specs.Outcomes.{EndsBy, HasAudits}
use Rattle.audit_program.specs.TaskRuns.{IsTaskRun}
use Rattle.audit_remedies.specs.Endings.{ending}
use Rattle.audit_program.specs.Unaudited.{HasFailedCalls, IsWithoutAudit, IsWithoutLockfile}
use Rattle.audit_program.specs.Worlds.{Telling, Uncalled, World}
use Rattle.audit_program.specs.declared.outcomes.Outcome.{Outcome}
use Rattle.audit_remedies.specs.declared.faults.RunFault.TheVariants as fault
use Rattle.audit_program.specs.declared.tasks.Job.TheVariants as job

-- these are the two audits of so many made packages
abbrev pub IsGeneratedRun : Asking → Generated → Type 0
IsGeneratedRun (Ok (job.Generate n)) made = IsGenerated n made
IsGeneratedRun _ made = ⊥

-- the audits of a run
pub record AreAudits (tells : Telling) (asking : Asking) (same : Uncalled) (before now : World)
    (outcome : Outcome) : Type 0 where
  -- of a lockfile: of what the host has, by the settings and advisories there, on the lockfile's
  -- text; what it says (the headline, what was asked and named, the verdicts, what is kept, and its
  -- causes); what is made of it: a plan, what a baseline doesn't list, a baseline or a registry, or
  -- why it couldn't be made; what of its output was printed, which steps were started; the status
  pub audited : IfSome outcome.audited (λ a. OfTask (λ task. IsTaskRun tells task before now
      (ending outcome.fault outcome.status outcome.plan) a) asking)
  -- of binaries: of what is at the paths and is decoded, each with what it says, one after the
  -- other, and all together; what of their output was printed, and the status
  pub binaries : IfSome outcome.binaries (λ b. OfBinaries (λ command more.
      AreBinariesRun tells command more before now
      (ending outcome.fault outcome.status outcome.plan) b) asking)
  -- if out of memory and there are no answers: wire, cache and decoder are what they were, or
  -- the first binaries were audited so, and the next one at most was begun
  pub partly : IfBinaries (λ command more. outcome.fault ≡ Some fault.NoMemory
      → IfNone outcome.binaries ((same.wire × same.disk × same.decoder)
      ⊎ ArePartlyRun tells command more before now)) asking
  -- the two of made packages, over a server that is created too and one cache
  pub generated : IfSome outcome.generated (IsGeneratedRun asking)

-- a run, from what is outside before it to what is outside after it
pub record IsRun (tells : Telling) (asking : Asking) (same : Uncalled) (before now : World)
    (outcome : Outcome) : Type 0 where
  -- what each audit says, what is made and printed of it, which steps were started, and the status
  pub audits : AreAudits tells asking same before now outcome
  -- when there is an audit, when there is none, and when there is no plan
  pub has : HasAudits asking outcome
  -- the status of a fault, and that of help, the version and made packages; arguments that break a
  -- rule have a fault
  pub ends : EndsBy asking outcome
  -- why it has a fault, and which counts rose then
  pub causes : HasCauses (CauseOf tells.files asking before.host) before now outcome.fault
  -- if no lockfile was audited, as for help, made packages and every audit of binaries: at most
  -- one start, and what the host has stays, but for standard input if it is the lockfile
  pub without_lockfile : IfNone outcome.audited
      (IsWithoutLockfile tells asking before now outcome.fault)
  -- if neither a lockfile nor binaries were audited: what is printed, and what isn't called
  pub without_audit : IfNone outcome.audited (IfNone outcome.binaries
      (IsWithoutAudit tells asking same before now outcome.fault))
  -- which calls on the host failed; if an audit of a lockfile was asked for and none was made,
  -- it was one of asking
  pub failed : tells.files → HasFailedCalls tells.runner asking before now outcome
  -- however it ends, if all its exchanges were honest: a kept disk is kept, and was so at every
  -- moment of the run
  pub kept : tells.wire → tells.disk
      → StaysKept before.exchanges now.exchanges before.cache now.cache
  -- however it ends, what it leaves of what is outside, by the arguments and what the host had
  pub leaves : Leaves tells asking same before now
