-- Two runs agree.
use Rattle.std.proofs.Common.{Ok, Err}
use Rattle.audit_program.specs.AgreeingRuns.{AgreeBehind, AllTell, AskAlike, BeginAlike, EndAlike, IsQuiet}
use Rattle.audit_program.specs.Jobs.{Asking}
use Rattle.audit_program.specs.Runs.{IsRun}
use Rattle.audit_program.specs.Worlds.{Telling, Uncalled, World}
use Rattle.audit_program.specs.declared.outcomes.Outcome.{Outcome}
use Rattle.audit_program.specs.declared.tasks.Job.TheVariants as job
use Rattle.audit_program.proofs.AgreedBinaries.{binaries_agree}
use Rattle.audit_program.proofs.AgreedTasks.{tasks_agree}
use Rattle.audit_program.proofs.AgreedTexts.{generate_agree, help_agree, usage_agree, version_agree}

pub all_agree : (tells tells_too : Telling) (same same_too : Uncalled) (asking : Asking) (before now before_too now_too : World) (outcome outcome_too : Outcome) → AllTell tells → AllTell tells_too
    → IsRun tells asking same before now outcome → IsRun tells_too asking same_too before_too now_too outcome_too
    → IsQuiet before now outcome.fault → IsQuiet before_too now_too outcome_too.fault → BeginAlike before before_too → EndAlike now.starts now_too.starts
    → AskAlike asking tells tells_too before now before_too now_too → AgreeBehind now now_too outcome outcome_too
all_agree tells tells_too same same_too (Ok job.Help) before now before_too now_too outcome outcome_too told told_too run run_too quiet quiet_too begin end ask =
    help_agree tells tells_too same same_too before now before_too now_too outcome outcome_too told told_too run run_too quiet quiet_too begin
all_agree tells tells_too same same_too (Ok job.Version) before now before_too now_too outcome outcome_too told told_too run run_too quiet quiet_too begin end ask =
    version_agree tells tells_too same same_too before now before_too now_too outcome outcome_too told told_too run run_too quiet quiet_too begin
all_agree tells tells_too same same_too (Ok (job.Generate n)) before now before_too now_too outcome outcome_too told told_too run run_too quiet quiet_too begin end ask =
    generate_agree tells tells_too n same same_too before now before_too now_too outcome outcome_too told told_too run run_too quiet quiet_too begin
all_agree tells tells_too same same_too (Ok (job.Binaries command more)) before now before_too now_too outcome outcome_too told told_too run run_too quiet quiet_too begin end ask =
    binaries_agree tells tells_too command more same same_too before now before_too now_too outcome outcome_too told told_too run run_too quiet quiet_too begin ask
all_agree tells tells_too same same_too (Ok (job.Lockfile task)) before now before_too now_too outcome outcome_too told told_too run run_too quiet quiet_too begin end ask =
    tasks_agree tells tells_too task same same_too before now before_too now_too outcome outcome_too told told_too run run_too quiet quiet_too begin end ask
all_agree tells tells_too same same_too (Err broken) before now before_too now_too outcome outcome_too told told_too run run_too quiet quiet_too begin end ask =
    usage_agree tells tells_too broken same same_too before now before_too now_too outcome outcome_too told told_too run run_too quiet quiet_too begin
