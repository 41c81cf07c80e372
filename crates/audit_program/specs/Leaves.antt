-- What a run leaves of what is outside, whatever its answer (this project).
use Rattle.std.specs.Prelude.{List}
use Rattle.tame_names.specs.Standing.{IsInput, StaysButInput}
use Rattle.audit_lock.specs.declared.resolving.Package.{Package}
use Rattle.audit_settings.specs.declared.configs.AuditConfig.{AuditConfig}
use Rattle.audit_asked.specs.declared.asking.Asked.{Asked}
use Rattle.audit_core.specs.Checks.{asked_of, checks_of}
use Rattle.audit_core.specs.Leaves.{AsksOnly, CallsBy}
use Rattle.audit_program.specs.Causes.{Accepts}
use Rattle.audit_program.specs.Jobs.{Asking, AsksBinaries, IfTask, NeedsNoHost}
use Rattle.audit_program.specs.Tasks.{AsksWith, Settles, asking_place}
use Rattle.audit_remedies.specs.Remedies.{ReadsCache, WritesFiles}
use Rattle.audit_program.specs.Worlds.{Telling, Uncalled, World, holding_of}

pub record Leaves (tells : Telling) (asking : Asking) (same : Uncalled) (before now : World)
    : Type 0 where
  -- help, the version, made packages and arguments that break a rule need nothing but the outputs
  pub uncalled : NeedsNoHost asking
      → same.files × same.decoder × same.runner × same.wire × same.disk
  -- nothing is decoded but for audits of binaries, which start nothing
  pub undecoded : (AsksBinaries asking → ⊥) → same.decoder
  pub unstarted : AsksBinaries asking → same.runner
  -- what the host has stays, but for standard input if it is the lockfile; if a baseline or a
  -- registry is to be written, `audits` says which files are, and `without_lockfile` that none is
  pub files_same : tells.files → (AsksWith WritesFiles asking → ⊥)
      → StaysButInput (IsInput (asking_place asking)) before.host now.host
  -- nothing is asked of the wire and the cache if what the host has gives no lockfile
  pub unaccepted : tells.files → ((given : Asked) (packages : List Package)
      → Accepts asking before.host given packages → ⊥)
      → IfTask (λ task. same.wire × same.disk) asking
  -- of a lockfile that it gives: what may change of exchanges, cache and folders is what belongs to
  -- the paths of its packages
  pub asks : tells.files → (given : Asked) (packages : List Package)
      → Accepts asking before.host given packages
      → AsksOnly tells.wire tells.disk (asked_of (checks_of given.config) packages)
      (holding_of before) (holding_of now)
  -- the wire is called, and files are changed, only online; if checks are off, the cache isn't
  -- called, except for a plan and a registry, which read it
  pub calls : tells.files → (config : AuditConfig) → Settles asking before.host config
      → CallsBy (checks_of config) tells.disk same.wire
      ((AsksWith ReadsCache asking → ⊥) → same.disk) (holding_of before) (holding_of now)
