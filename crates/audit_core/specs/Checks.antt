-- The kinds of checks for yanked versions, and what each asks for and judges (this project, after
-- cargo-audit).
use Rattle.std.specs.Prelude.{ℕ, List, [], not, ◌&&◌, if◌then◌else◌}
use Rattle.audit_lock.specs.declared.resolving.Package.{Package}
use Rattle.audit_settings.specs.declared.configs.AuditConfig.{AuditConfig}
use Rattle.audit_core.specs.Paths.{asked_paths, defaults}
use Rattle.audit_core.specs.declared.checking.Checks.{Checks}
use Rattle.audit_core.specs.declared.checking.Checks.TheVariants.{Online, Offline, Off}

-- off if they aren't enabled, online if the index may be asked and its state fetched, else by
-- the cache alone
abbrev pub checks_of : AuditConfig → Checks
checks_of config =
    if not config.yanked.enabled then Off
    else if config.yanked.update_index && config.database.fetch then Online
    else Offline

-- the paths that have a turn: none if checks are off
abbrev pub asked_of : Checks → List Package → List (List ℕ)
asked_of Off packages = []
asked_of Online packages = asked_paths packages
asked_of Offline packages = asked_paths packages

-- the packages that are judged, with their places: none if checks are off
abbrev pub judged_of : Checks → List Package → List (ℕ × Package)
judged_of Off packages = []
judged_of Online packages = defaults packages
judged_of Offline packages = defaults packages
