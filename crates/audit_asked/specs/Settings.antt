-- The settings of a run (this project, after cargo-audit).
use Rattle.std.specs.Prelude.{ℕ, codes, List, Option, Some, None, Result, Ok, Err}
use Rattle.tame_names.specs.Paths.{join, plain_path}
use Rattle.tame_names.specs.Standing.{Host}
use Rattle.tame_names.specs.declared.errors.Error.{Error}
use Rattle.tame_location.specs.Homes.{home_of}
use Rattle.audit_settings.specs.Defaults.{default_settings}
use Rattle.audit_settings.specs.Overriding.{overridden}
use Rattle.audit_settings.specs.Refusals.{Refusal}
use Rattle.audit_settings.specs.Settings.{settings}
use Rattle.audit_settings.specs.declared.commands.AuditCommand.{AuditCommand}
use Rattle.audit_settings.specs.declared.configs.AuditConfig.{AuditConfig}
use Rattle.audit_asked.specs.Refusals.{Refused}
use Rattle.audit_asked.specs.Refusals as refused
use Rattle.audit_asked.specs.Texts.{go_on, text_there}

-- the file of settings in the current folder
abbrev pub folder_file : List ℕ
folder_file = codes ".cargo/audit.toml"

-- the file of settings in cargo's home
abbrev pub home_file : List ℕ → List ℕ
home_file home = join home (codes "audit.toml")

-- cargo's home, if it is known; slashes at its end don't count
abbrev pub home_told : Result (List ℕ) Error → Option (List ℕ)
home_told (Ok home) = Some (plain_path home)
home_told (Err reason) = None

abbrev pub known_home : Host → Option (List ℕ)
known_home host = home_told (home_of host)

-- the settings that a text is
abbrev pub or_refused : Result AuditConfig Refusal → Result AuditConfig Refused
or_refused (Ok config) = Ok config
or_refused (Err reason) = Err (refused.settings reason)

abbrev pub config_in : Option (List ℕ) → Result (Option AuditConfig) Refused
config_in None = Ok None
config_in (Some text) = go_on (or_refused (settings text)) (λ config. Ok (Some config))

-- the settings of a file, if it is there
abbrev pub config_at : Host → List ℕ → Result (Option AuditConfig) Refused
config_at host path = go_on (text_there path (host.stands path)) config_in

-- the settings in cargo's home, if there is such a file
abbrev pub config_in_home : Host → Option (List ℕ) → Result (Option AuditConfig) Refused
config_in_home host None = Ok None
config_in_home host (Some home) = config_at host (home_file home)

abbrev pub or_default : Option AuditConfig → AuditConfig
or_default None = default_settings
or_default (Some config) = config

-- the settings that were found, else those in cargo's home, else the defaults
abbrev pub or_home : Host → Option AuditConfig → Result AuditConfig Refused
or_home host (Some config) = Ok config
or_home host None = go_on (config_in_home host (known_home host)) (λ config. Ok (or_default config))

-- the settings of a file, else those in cargo's home, else the defaults
abbrev pub settings_from : Host → List ℕ → Result AuditConfig Refused
settings_from host path = go_on (config_at host path) (or_home host)

-- the settings; those of the current folder come first
abbrev pub settings_file : Host → Result AuditConfig Refused
settings_file host = settings_from host folder_file

-- the settings with the options of a command applied
abbrev pub settled : AuditCommand → Host → Result AuditConfig Refused
settled command host = go_on (settings_file host) (λ config. Ok (overridden command config))
