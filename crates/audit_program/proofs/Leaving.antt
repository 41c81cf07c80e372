-- What calls leave, one after the other, and what a run leaves that calls nothing.
use Rattle.std.proofs.Common.{Ok, Err, refl}
use Rattle.tame_names.specs.Standing.{Host, StaysButInput}
use Rattle.audit_settings.specs.declared.commands.AuditCommand.{AuditCommand}
use Rattle.audit_words.specs.declared.commands.BinCommand.{BinCommand}
use Rattle.audit_core.specs.declared.checking.Checks.{Checks}
use Rattle.audit_core.specs.Leaves.{CallsBy, Holding}
use Rattle.audit_core.proofs.Left.{asks_nothing, calls_nothing}
use Rattle.audit_program.specs.Jobs.{Asking, IfBinaries, IfTask}
use Rattle.audit_program.specs.Leaves.{Leaves}
use Rattle.audit_program.specs.Worlds.{Telling, Uncalled, World}
use Rattle.audit_program.specs.declared.tasks.Job.TheVariants as job
use Rattle.audit_program.specs.declared.tasks.Task.{Task}
use Rattle.std.specs.Prelude.{ℕ, List}

-- ---- by what is asked for

pub all_tasks : (P : Task → Type 0) (asking : Asking) → ((task : Task) → P task) → IfTask P asking
all_tasks P (Ok (job.Lockfile task)) f = f task
all_tasks P (Ok (job.Binaries command more)) f = tt
all_tasks P (Ok (job.Generate n)) f = tt
all_tasks P (Ok job.Help) f = tt
all_tasks P (Ok job.Version) f = tt
all_tasks P (Err reason) f = tt

pub all_binaries : (P : AuditCommand → BinCommand → Type 0) (asking : Asking) → ((command : AuditCommand) (more : BinCommand) → P command more) → IfBinaries P asking
all_binaries P (Ok (job.Binaries command more)) f = f command more
all_binaries P (Ok (job.Lockfile task)) f = tt
all_binaries P (Ok (job.Generate n)) f = tt
all_binaries P (Ok job.Help) f = tt
all_binaries P (Ok job.Version) f = tt
all_binaries P (Err reason) f = tt

-- ---- nothing was done

pub host_stays : (reads : Type 0) (host : Host) → StaysButInput reads host host
host_stays reads host = record { stands = refl; environment = refl; current = refl; input = λ other. refl }

-- from a moment, another one that differs in the outputs alone
abbrev pub printed : World → List ℕ → ℕ → List ℕ → ℕ → World
printed before out out_faults err err_faults =
    record before { out = out; out_faults = out_faults; err = err; err_faults = err_faults }

-- not even a call was made but on the outputs
pub record IsUncalled (same : Uncalled) : Type 0 where
  pub files : same.files
  pub decoder : same.decoder
  pub runner : same.runner
  pub wire : same.wire
  pub disk : same.disk

pub leaves_nothing : (tells : Telling) (asking : Asking) (same : Uncalled) (before : World) (out : List ℕ) (out_faults : ℕ) (err : List ℕ) (err_faults : ℕ) → IsUncalled same
    → Leaves tells asking same before (printed before out out_faults err err_faults)
leaves_nothing tells asking same before out out_faults err err_faults quiet = record {
  uncalled = λ nothing. (quiet.files, quiet.decoder, quiet.runner, quiet.wire, quiet.disk);
  undecoded = λ other. quiet.decoder;
  unstarted = λ is. quiet.runner;
  files_same = λ told unwritten. host_stays _ before.host;
  unaccepted = λ told none. all_tasks _ asking (λ task. (quiet.wire, quiet.disk));
  asks = λ told given packages accepts. asks_nothing _ _ _ _;
  calls = λ told config settles. calls_nothing _ _ _ _ _ quiet.wire (λ unread. quiet.disk);
}

-- less is said of the disk
pub calls_weaker : (checks : Checks) (disk_tells wire_same disk_same more : Type 0) (a b : Holding) → CallsBy checks disk_tells wire_same disk_same a b → (disk_same → more)
    → CallsBy checks disk_tells wire_same more a b
calls_weaker checks disk_tells wire_same disk_same more a b h f = record {
  unasked = h.unasked;
  unchanged = h.unchanged;
  unmade = h.unmade;
  off = λ is. f (h.off is);
}
