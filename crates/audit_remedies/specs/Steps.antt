-- The steps of `fix` as a run started them (this project).
use Rattle.std.specs.Prelude.{◌≡◌, ◌<◌, ℕ, ℤ, List, length, Option, Some, None}
use Rattle.audit_remedies.specs.declared.faults.RunFault.{RunFault}
use Rattle.audit_remedies.specs.declared.faults.RunFault.TheVariants as fault
use Rattle.audit_asked.specs.declared.runners.Started.{Started}
use Rattle.audit_fix.specs.Steps.{StartsEach, StartsPart, failed_starts}
use Rattle.audit_fix.specs.declared.plans.FixStep.{FixStep}
use Rattle.audit_remedies.specs.Outputs.{IsWhole}

-- in a run without a fault none failed; the fault that some couldn't be started says how many
pub record FailedBy (statuses : List (Option ℤ)) (reason : Option RunFault) : Type 0 where
  pub none : reason ≡ None → failed_starts statuses ≡ 0
  pub some : (failed : ℕ) → reason ≡ Some (fault.Start failed)
      → (failed ≡ failed_starts statuses) × (0 < failed)

-- the starts grew by steps from the first on, in order, each once; these are their statuses if
-- there is one for each, and there is if all was done
pub record AreStarted (told : Type 0) (steps : List FixStep) (before now : List Started)
    (statuses : List (Option ℤ)) (reason : Option RunFault) : Type 0 where
  pub part : told → StartsPart steps before now
  pub each : told → length statuses ≡ length steps → StartsEach steps statuses before now
  pub one_each : IsWhole reason → length statuses ≡ length steps
  pub failed : FailedBy statuses reason
