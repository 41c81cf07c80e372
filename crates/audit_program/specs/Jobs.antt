-- What the arguments ask for, by what a run needs for it (this project, after cargo-audit).
use Rattle.std.specs.Prelude.{ℕ, List, Result, Ok, Err}
use Rattle.std.specs.Option.{option_or}
use Rattle.audit_settings.specs.declared.commands.AuditCommand.{AuditCommand}
use Rattle.audit_words.specs.Reading.{command_of}
use Rattle.audit_words.specs.declared.commands.BinCommand.{BinCommand}
use Rattle.audit_words.specs.declared.commands.Command.{Command}
use Rattle.audit_words.specs.declared.commands.Command.TheVariants as command
use Rattle.audit_words.specs.declared.commands.FixCommand.{FixCommand}
use Rattle.audit_words.specs.declared.commands.WordsFault.{WordsFault}
use Rattle.audit_program.specs.declared.tasks.Job.{Job}
use Rattle.audit_program.specs.declared.tasks.Job.TheVariants as job
use Rattle.audit_remedies.specs.declared.remedies.Remedy.{Remedy}
use Rattle.audit_remedies.specs.declared.remedies.Remedy.TheVariants.{Report, Fix, Plan, Baseline, WriteBaseline, Vendor}
use Rattle.audit_program.specs.declared.tasks.Task.{Task}

-- the audit that `fix` makes: a lockfile that is named after it replaces that of `audit`
abbrev pub fix_task : AuditCommand → FixCommand → Task
fix_task audit more = record {
  command = record audit { file = option_or more.file audit.file };
  remedy = Fix more.dry_run;
}

abbrev pub lockfile_job : AuditCommand → Remedy → Job
lockfile_job audit remedy = job.Lockfile (record { command = audit; remedy = remedy })

-- text, made packages, or audits of binaries; any other command asks for the audit of a lockfile,
-- and for what is done with it
abbrev pub job_of : Command → Job
job_of command.Help = job.Help
job_of command.Version = job.Version
job_of (command.Generate n) = job.Generate n
job_of (command.Bin audit more) = job.Binaries audit more
job_of (command.Audit audit) = lockfile_job audit Report
job_of (command.Fix audit more) = job.Lockfile (fix_task audit more)
job_of (command.Plan audit) = lockfile_job audit Plan
job_of (command.Baseline audit path) = lockfile_job audit (Baseline path)
job_of (command.WriteBaseline audit path) = lockfile_job audit (WriteBaseline path)
job_of (command.Vendor audit more) = lockfile_job audit (Vendor more)

-- what is asked for, or the rule that the arguments break
abbrev pub Asking : Type 0
Asking = Result Job WordsFault

abbrev pub asking_by : Result Command WordsFault → Asking
asking_by (Ok it) = Ok (job_of it)
asking_by (Err reason) = Err reason

abbrev pub asking_of : List (List ℕ) → Asking
asking_of words = asking_by (command_of words)

-- ---- by what is asked for

-- it is the audit of a lockfile, of which this is so
abbrev pub OfTask : (Task → Type 0) → Asking → Type 0
OfTask P (Ok (job.Lockfile task)) = P task
OfTask P _ = ⊥

-- if it is the audit of a lockfile, this is so of it
abbrev pub IfTask : (Task → Type 0) → Asking → Type 0
IfTask P (Ok (job.Lockfile task)) = P task
IfTask P _ = Unit {0}

-- it is audits of binaries, of which this is so
abbrev pub OfBinaries : (AuditCommand → BinCommand → Type 0) → Asking → Type 0
OfBinaries P (Ok (job.Binaries command more)) = P command more
OfBinaries P _ = ⊥

abbrev pub AsksBinaries : Asking → Type 0
AsksBinaries asking = OfBinaries (λ command more. Unit {0}) asking

-- if it is audits of binaries, this is so of them
abbrev pub IfBinaries : (AuditCommand → BinCommand → Type 0) → Asking → Type 0
IfBinaries P (Ok (job.Binaries command more)) = P command more
IfBinaries P _ = Unit {0}

-- it needs nothing but the outputs
abbrev pub NeedsNoHost : Asking → Type 0
NeedsNoHost (Ok (job.Lockfile task)) = ⊥
NeedsNoHost (Ok (job.Binaries command more)) = ⊥
NeedsNoHost _ = Unit {0}
