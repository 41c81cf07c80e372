-- What a run does that audits no lockfile, or nothing of what the host has (this project).
use Rattle.std.specs.Prelude.{◌≡◌, ◌≢◌, ℕ, [], Option, Some, IfNone, ◌++◌, codes, List, Ok}
use Rattle.tame_names.specs.Standing.{IsInput, StaysButInput}
use Rattle.audit_asked.specs.Starts.{StartsAtMost}
use Rattle.audit_program.specs.Calls.{AddsCalls, AddsRunCall, StartsWhere}
use Rattle.audit_program.specs.Jobs.{Asking, IfTask}
use Rattle.audit_remedies.specs.Outputs.{IsEnded, IsPutBy}
use Rattle.audit_program.specs.Tasks.{IsOrderedTaskCall, IsTaskCall, asking_generates, asking_place}
use Rattle.audit_program.specs.Worlds.{Telling, Uncalled, World}
use Rattle.audit_program.specs.declared.outcomes.Outcome.{Outcome}
use Rattle.audit_remedies.specs.declared.faults.RunFault.{RunFault}
use Rattle.audit_remedies.specs.declared.faults.RunFault.TheVariants as fault
use Rattle.audit_program.specs.declared.tasks.Task.{Task}
use Rattle.audit_words.specs.declared.texts.TheConstants.{HELP_TEXT}
use Rattle.audit_generator.specs.Summaries.{summary_for}
use Rattle.audit_program.specs.declared.tasks.Job.TheVariants as job

-- the text for help or of the version, with a newline, and the lines for made packages; nothing
-- else is printed without an audit of what the host has
abbrev pub plain_text : Asking → List ℕ
plain_text (Ok job.Help) = HELP_TEXT.now ++ codes "\n"
plain_text (Ok job.Version) = codes "cargo-audit 0.22.2\n"
plain_text (Ok (job.Generate n)) = summary_for n
plain_text _ = []

-- without an audit of a lockfile: at most the start that generates one, as it ended, and one start
-- failed if that is the fault; and what the host has stays, but for standard input if it is
-- the lockfile
pub record IsWithoutLockfile (tells : Telling) (asking : Asking) (before now : World)
    (reason : Option RunFault) : Type 0 where
  pub started : tells.files → tells.runner
      → StartsWhere (asking_generates asking before.host) before.starts now.starts reason
  pub at_most : tells.runner → StartsAtMost before.starts now.starts
  pub one_start : (failed : ℕ) → reason ≡ Some (fault.Start failed) → failed ≡ 1
  pub files : tells.files → StaysButInput (IsInput (asking_place asking)) before.host now.host

-- neither a lockfile nor binaries were audited: the text that is asked for is printed, as are the
-- lines for made packages, and the fault's line; unless out of memory, wire and cache weren't
-- called, and nothing was decoded
pub record IsWithoutAudit (tells : Telling) (asking : Asking) (same : Uncalled) (before now : World)
    (reason : Option RunFault) : Type 0 where
  pub out : tells.out → IsPutBy before.out (plain_text asking) reason now.out
  pub err : tells.err → IsEnded (asking_place asking) before.err [] reason now.err
      before.err_faults now.err_faults
  pub early : reason ≢ Some fault.NoMemory → same.wire × same.disk × same.decoder

-- ---- calls on the host that failed

-- it was one of asking; the runner says what was started before it
pub record HasFailedAsking (told : Type 0) (task : Task) (before now : World)
    (reason : Option RunFault) : Type 0 where
  pub call : AddsRunCall (IsTaskCall task before.host) before.failed now.failed reason
  pub ordered : told → AddsRunCall (IsOrderedTaskCall task before.host before.starts now.starts)
      before.failed now.failed reason

-- which failed, by what is asked for; if that is the audit of a lockfile and none was made, it
-- was one of asking
pub record HasFailedCalls (told : Type 0) (asking : Asking) (before now : World)
    (outcome : Outcome) : Type 0 where
  pub calls : AddsCalls asking before.host before.failed now.failed outcome.fault
  pub unaudited : IfTask (λ task. IfNone outcome.audited
      (HasFailedAsking told task before now outcome.fault)) asking
