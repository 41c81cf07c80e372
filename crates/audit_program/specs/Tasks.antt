-- What an audit of a lockfile asks for, and what is done with it (this project).
use Rattle.std.specs.Prelude.{◌≡◌, ℕ, ℤ, List, [], Bool, false, Result, Ok}
use Rattle.tame_names.specs.Standing.{Host}
use Rattle.tame_names.specs.declared.host.FailedCall.{FailedCall}
use Rattle.audit_settings.specs.declared.configs.AuditConfig.{AuditConfig}
use Rattle.audit_asked.specs.Asked.{IsAskedCall, IsOrderedCall, asked, generates}
use Rattle.audit_asked.specs.Places.{place_of}
use Rattle.audit_asked.specs.Refusals.{Refused}
use Rattle.audit_asked.specs.Settings.{settled}
use Rattle.audit_asked.specs.declared.asking.Asked.{Asked}
use Rattle.audit_asked.specs.declared.runners.Started.{Started}
use Rattle.audit_program.specs.Jobs.{Asking, OfTask}
use Rattle.audit_program.specs.declared.tasks.Job.TheVariants as job
use Rattle.audit_remedies.specs.declared.remedies.Remedy.{Remedy}
use Rattle.audit_program.specs.declared.tasks.Task.{Task}
use Rattle.audit_remedies.specs.Remedies.{baseline_path}

-- ---- what it asks for

-- what it asks of its host, or the first refusal; if a lockfile must be generated, by the
-- status that its start ends with
abbrev pub task_asked : Task → Host → ℤ → Result Asked Refused
task_asked task host status = asked task.command (baseline_path task.remedy) host status

-- a call that may fail in asking for it
abbrev pub IsTaskCall : Task → Host → List ℕ → FailedCall → Type 0
IsTaskCall task host told call =
    IsAskedCall task.command (baseline_path task.remedy) host told call

-- the same with what was started until then: nothing before the lockfile's path is known, and
-- after that the start that generates a lockfile, if one must be generated
abbrev pub IsOrderedTaskCall : Task → Host → List Started → List Started → List ℕ → FailedCall
    → Type 0
IsOrderedTaskCall task host before now told call =
    IsOrderedCall task.command (baseline_path task.remedy) host before now told call

-- a lockfile is generated
abbrev pub task_generates : Task → Host → Bool
task_generates task host = generates task.command host (settled task.command host)

-- the lockfile's path by the arguments
abbrev pub task_place : Task → List ℕ
task_place task = place_of task.command.file

-- the same of all that may be asked for
abbrev pub asking_generates : Asking → Host → Bool
asking_generates (Ok (job.Lockfile task)) host = task_generates task host
asking_generates _ host = false

abbrev pub asking_place : Asking → List ℕ
asking_place (Ok (job.Lockfile task)) = task_place task
asking_place _ = []

-- the settings under the options of `audit`, of lockfiles and of binaries
abbrev pub Settles : Asking → Host → AuditConfig → Type 0
Settles (Ok (job.Lockfile task)) host config = settled task.command host ≡ Ok config
Settles (Ok (job.Binaries command more)) host config = settled command host ≡ Ok config
Settles _ host config = ⊥

-- ---- what is done with the audit

-- an audit is asked for with which this is done
abbrev pub AsksWith : (Remedy → Type 0) → Asking → Type 0
AsksWith P asking = OfTask (λ task. P task.remedy) asking
