-- What is done once there is an audit of a lockfile: its output, and the steps and lines of `fix`
-- (this project).
use Rattle.std.specs.Prelude.{◌<◌, ◌++◌, ℕ, ℤ, List, Bool, Option, Some, None, Result, Ok, Err}
use Rattle.audit_advisory.specs.declared.advisories.Advisory.{Advisory}
use Rattle.audit_remedies.specs.declared.faults.RunFault.{RunFault}
use Rattle.audit_remedies.specs.declared.faults.RunFault.TheVariants as fault
use Rattle.audit_asked.specs.declared.runners.Started.{Started}
use Rattle.audit_core.specs.declared.auditing.Audited.{Audited}
use Rattle.audit_remedies.specs.Outputs.{IsPutBy, lines_behind, remedy_lines}
use Rattle.audit_remedies.specs.Statuses.{steps_of}
use Rattle.audit_remedies.specs.Steps.{AreStarted}
use Rattle.audit_remedies.specs.declared.makings.Made.{Made}

abbrev pub end_of : {T : Type 0} → Result T RunFault → Option RunFault
end_of (Ok a) = None
end_of (Err reason) = Some reason

-- printing failed, steps couldn't be started, or out of memory
abbrev pub IsFinishFault : RunFault → Type 0
IsFinishFault fault.Print = Unit {0}
IsFinishFault (fault.Start failed) = 0 < failed
IsFinishFault fault.NoMemory = Unit {0}
IsFinishFault _ = ⊥

-- what was made of an audit, and whether the lines of verdicts are printed
pub record Finish : Type 0 where
  pub verdicts : Bool
  pub it : Made
  pub advisories : List Advisory
  pub audited : Audited

abbrev pub lines_in : Finish → List (Option ℤ) → List ℕ
lines_in f statuses = lines_behind (steps_of f.it f.advisories f.audited) statuses
    (remedy_lines f.verdicts f.it f.advisories f.audited statuses)

-- the steps were started; on standard error the lines of `fix`, by how they ended, follow the text
pub record IsFinished (runner_tells err_tells : Type 0) (f : Finish)
    (starts_before starts_now : List Started) (text before now : List ℕ)
    (reason : Option RunFault) : Type 0 where
  pub statuses : List (Option ℤ)
  pub started : AreStarted runner_tells (steps_of f.it f.advisories f.audited)
      starts_before starts_now statuses reason
  pub put : err_tells → IsPutBy before (text ++ lines_in f statuses) reason now
