-- What audits of binaries ask of the host, in their order (this project, after cargo-audit).
use Rattle.std.specs.Prelude.{◌≡◌, ◌⊎◌, ℕ, List, Option, Result, Ok}
use Rattle.tame_names.specs.Standing.{Host}
use Rattle.tame_names.specs.declared.host.FailedCall.{FailedCall}
use Rattle.audit_settings.specs.declared.commands.AuditCommand.{AuditCommand}
use Rattle.audit_settings.specs.declared.configs.AuditConfig.{AuditConfig}
use Rattle.audit_asked.specs.Advisories.{advisories_asked}
use Rattle.audit_asked.specs.Asked.{IsAdvisoriesCall}
use Rattle.audit_asked.specs.Calls.{IsDatabaseCall, IsSettingsCall}
use Rattle.audit_asked.specs.Databases.{database_asked, database_path}
use Rattle.audit_asked.specs.Refusals.{Refused}
use Rattle.audit_asked.specs.Settings.{settled}
use Rattle.audit_asked.specs.Texts.{go_on}
use Rattle.audit_asked.specs.declared.binaries.AskedForBinaries.{AskedForBinaries}

-- with these settings: the database and the advisories, or the first refusal
abbrev pub advised : Host → AuditConfig → Result AskedForBinaries Refused
advised host config =
    go_on (database_asked config.database.path host) (λ database.
    go_on (advisories_asked host database) (λ advisories.
    Ok (record {
      config = config;
      database = database_path database;
      advisories = advisories;
    })))

-- the settings, the database and the advisories, or the first refusal; no lockfile is asked for
abbrev pub asked_for_binaries : AuditCommand → Host → Result AskedForBinaries Refused
asked_for_binaries command host = go_on (settled command host) (advised host)

-- ---- the calls that may fail, each after the parts before it were accepted

-- a call once the settings are known
abbrev pub IsAdvisedCall : Host → AuditConfig → List ℕ → FailedCall → Type 0
IsAdvisedCall host config told call =
    IsDatabaseCall host config.database.path told call
    ⊎ ((database : Option (List ℕ))
    × (database_asked config.database.path host ≡ Ok database)
    × IsAdvisoriesCall host database told call)

abbrev pub IsForBinariesCall : AuditCommand → Host → List ℕ → FailedCall → Type 0
IsForBinariesCall command host told call =
    IsSettingsCall host told call
    ⊎ ((config : AuditConfig) × (settled command host ≡ Ok config)
    × IsAdvisedCall host config told call)
