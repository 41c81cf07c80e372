-- A run that made an audit of a lockfile (this project).
use Rattle.std.specs.Prelude.{◌≡◌, ◌⊎◌, ◌++◌, ℕ, ℤ, pos, List, [], Option, Result, Ok}
use Rattle.tame_names.specs.Standing.{Host, IsInput, StaysButInput}
use Rattle.audit_advisory.specs.declared.advisories.Advisory.{Advisory}
use Rattle.audit_settings.specs.declared.configs.AuditConfig.{AuditConfig}
use Rattle.audit_asked.specs.Starts.{RunStartsWhere, StartsAtMost}
use Rattle.audit_asked.specs.Texts.{IsUsedUp}
use Rattle.audit_asked.specs.declared.asking.Asked.{Asked}
use Rattle.audit_asked.specs.declared.runners.Started.{Started}
use Rattle.audit_core.specs.Auditors.{auditor_of}
use Rattle.audit_core.specs.Audits.{IsAuditOf, Moment}
use Rattle.audit_core.specs.Checks.{checks_of}
use Rattle.audit_core.specs.declared.auditing.Audited.{Audited}
use Rattle.audit_output.specs.Outputs.{Output, Shown, output_of}
use Rattle.audit_remedies.specs.Makings.{IsMade, making}
use Rattle.audit_remedies.specs.Outputs.{IsEnded, IsPutBy, IsPutFirst, output_by}
use Rattle.audit_remedies.specs.Steps.{AreStarted}
use Rattle.audit_program.specs.Tasks.{task_asked, task_generates, task_place}
use Rattle.audit_program.specs.Worlds.{Telling, World, moment_of}
use Rattle.audit_remedies.specs.declared.faults.RunFault.{RunFault}
use Rattle.audit_remedies.specs.declared.faults.RunFault.TheVariants as fault
use Rattle.audit_remedies.specs.declared.makings.Made.{Made}
use Rattle.audit_program.specs.declared.tasks.Task.{Task}
use Rattle.audit_remedies.specs.Endings.{Ending, IsEndBy, lines_by, steps_by}

-- how an audit is shown, by the settings, the database's path and the advisories that were asked
-- for
abbrev pub shown_by : AuditConfig → List ℕ → List Advisory → Shown
shown_by config database advisories = record {
  config = config.output;
  database = database;
  checks = checks_of config;
  advisories = advisories;
}

-- the text for `out`, and that for `err` without the lines of `fix`, by what was made of the audit
abbrev pub task_output : Task → Asked → Audited → Result Made RunFault → Output
task_output task given audited it =
    output_by (output_of task.command.verdicts
    (shown_by given.config given.database given.advisories) given.place audited) audited it

-- once it has what it asked for: the audit is that by an auditor of the settings and advisories
-- that were asked for, of the lockfile's text; then what must be made of it was made, as the audit
-- left the cache; its output was printed, and then the lines of `fix`, whose steps were started
pub record IsGivenRun (tells : Telling) (task : Task) (given : Asked) (before now : World)
    (end : Ending) (audited : Audited) : Type 0 where
  pub left : Moment
  pub audit : IsAuditOf (auditor_of given.config given.advisories) tells.wire tells.disk
      (moment_of before) left given.text audited
  -- what was made of it, or why it couldn't be
  pub it : Result Made RunFault
  pub is_made : IsMade task.remedy (making tells.files tells.disk given.advisories given.baseline
      audited left (moment_of now) before.host now.host) it
  pub statuses : List (Option ℤ)
  pub started : AreStarted tells.runner (steps_by given.advisories audited it)
      before.starts now.starts statuses end.fault
  pub out : tells.out → IsPutBy before.out (task_output task given audited it).out end.fault now.out
  pub err : tells.err → IsEnded (task_place task) before.err
      ((task_output task given audited it).err
      ++ lines_by task.command.verdicts given.advisories audited it statuses)
      end.fault now.err before.err_faults now.err_faults
  -- if a step was started, the whole text was printed, on standard output and on standard error
  pub shown : (now.starts ≡ before.starts)
      ⊎ (tells.out → now.out ≡ before.out ++ (task_output task given audited it).out)
  pub shown_err : (now.starts ≡ before.starts)
      ⊎ (tells.err → IsPutFirst before.err (task_output task given audited it).err now.err)
  pub is_end : IsEndBy given.advisories audited it end

-- the audit of a task: what the host has gives what was asked, of which nothing but standard input
-- is used up, and all of it if the lockfile is there; the steps come after the start that
-- generates a lockfile
pub record IsTaskRun (tells : Telling) (task : Task) (before now : World) (end : Ending)
    (audited : Audited) : Type 0 where
  pub given : Asked
  pub gives : tells.files → task_asked task before.host (pos 0) ≡ Ok given
  pub there : Host
  pub is_there : tells.files → StaysButInput (IsInput (task_place task)) before.host there
  pub used_up : tells.files → IsUsedUp (task_place task) there
  pub generated : List Started
  pub at_most : tells.runner → StartsAtMost before.starts generated
  -- it is there if a lockfile was to be generated, and ended with 0
  pub is_generated : tells.files → tells.runner → RunStartsWhere {T = Unit {0}}
      (task_generates task before.host) before.starts generated (Ok tt)
  pub run : IsGivenRun tells task given (record before { host = there; starts = generated }) now
      end audited
