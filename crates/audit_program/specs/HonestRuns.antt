-- A run over an honest server (this project).
use Rattle.std.specs.Prelude.{◌≡◌, ◌++◌, pos, List, Ok}
use Rattle.tame_names.specs.Standing.{Host}
use Rattle.tame_sparse.specs.declared.network.Exchange.{Exchange}
use Rattle.audit_asked.specs.declared.asking.Asked.{Asked}
use Rattle.audit_core.specs.Checks.{checks_of}
use Rattle.audit_core.specs.declared.checking.Checks.TheVariants.{Online}
use Rattle.upgrade_plan.specs.HeldPlans.{IsHonestServing}
use Rattle.audit_program.specs.Jobs.{Asking, OfTask}
use Rattle.audit_program.specs.Tasks.{task_asked}
use Rattle.audit_program.specs.Worlds.{Telling, World, moment_of}

-- in these exchanges the server was honest, and the disk was kept for what it held before them
pub record IsHonestRun (tells : Telling) (before now : World) (added : List Exchange)
    : Type 0 where
  pub follow : now.exchanges ≡ before.exchanges ++ added
  pub serving : IsHonestServing tells.wire tells.disk (moment_of before) added

-- the audit of a lockfile is asked for, and by what this host has versions are checked online
abbrev pub AsksOnline : Asking → Host → Type 0
AsksOnline asking host = OfTask (λ task. (given : Asked) → task_asked task host (pos 0) ≡ Ok given
    → checks_of given.config ≡ Online) asking
