-- How the options of a command override the settings of a file.
use Rattle.std.specs.Prelude.{ℕ, List, [], ◌∷◌, ◌++◌, not, ◌&&◌, ◌||◌, Option, Some, None, if◌then◌else◌}
use Rattle.audit_advisory.specs.Outputs.{all_deny_options}
use Rattle.audit_advisory.specs.declared.outputs.DenyOption.{DenyOption}
use Rattle.audit_advisory.specs.declared.outputs.DenyOption.TheVariants as deny
use Rattle.audit_advisory.specs.declared.outputs.OutputConfig.{OutputConfig}
use Rattle.audit_advisory.specs.declared.outputs.OutputFormat.{OutputFormat}
use Rattle.audit_advisory.specs.declared.outputs.OutputFormat.TheVariants as format
use Rattle.audit_settings.specs.declared.commands.AuditCommand.{AuditCommand}
use Rattle.audit_settings.specs.declared.configs.AdvisoryConfig.{AdvisoryConfig}
use Rattle.audit_settings.specs.declared.configs.AuditConfig.{AuditConfig}
use Rattle.audit_settings.specs.declared.configs.DatabaseConfig.{DatabaseConfig}
use Rattle.audit_settings.specs.declared.configs.FilterList.{FilterList}
use Rattle.audit_settings.specs.declared.configs.FilterList.TheVariants.{Many}
use Rattle.audit_settings.specs.declared.configs.TargetConfig.{TargetConfig}
use Rattle.audit_settings.specs.declared.configs.YankedConfig.{YankedConfig}

-- the value on the command line, else the one in the settings
abbrev pub given_or : {A : Type 0} → Option A → Option A → Option A
given_or None settled = settled
given_or (Some given) settled = Some given

-- targets on the command line replace those of the settings
abbrev pub filter_or : List (List ℕ) → Option FilterList → Option FilterList
filter_or [] settled = settled
filter_or (t ∷ ts) settled = Some (Many (t ∷ ts))

-- each option is appended, but `warnings` replaces the list by all four
abbrev pub denied : List DenyOption → List DenyOption → List DenyOption
denied [] settled = settled
denied (deny.Warnings ∷ given) settled = denied given all_deny_options
denied (deny.Unmaintained ∷ given) settled = denied given (settled ++ deny.Unmaintained ∷ [])
denied (deny.Unsound ∷ given) settled = denied given (settled ++ deny.Unsound ∷ [])
denied (deny.Yanked ∷ given) settled = denied given (settled ++ deny.Yanked ∷ [])

abbrev pub format_given : Option OutputFormat → OutputFormat → OutputFormat
format_given None settled = settled
format_given (Some given) settled = given

-- `--json` wins over `--format`
abbrev pub format_of : AuditCommand → OutputFormat → OutputFormat
format_of c settled = if c.output_json then format.Json else format_given c.output_format settled

abbrev pub advisories_under : AuditCommand → AdvisoryConfig → AdvisoryConfig
advisories_under c settled = record settled { ignore = settled.ignore ++ c.ignore }

abbrev pub database_under : AuditCommand → DatabaseConfig → DatabaseConfig
database_under c settled = record {
  path = given_or c.db settled.path;
  url = given_or c.url settled.url;
  fetch = settled.fetch && not c.no_fetch;
  stale = settled.stale || c.stale;
}

abbrev pub output_under : AuditCommand → OutputConfig → OutputConfig
output_under c settled = record {
  deny = denied c.deny settled.deny;
  format = format_of c settled.format;
  quiet = settled.quiet || c.quiet;
  show_tree = settled.show_tree && not c.quiet;
}

abbrev pub target_under : AuditCommand → TargetConfig → TargetConfig
target_under c settled = record {
  arch = filter_or c.target_arch settled.arch;
  os = filter_or c.target_os settled.os;
}

abbrev pub yanked_under : AuditCommand → YankedConfig → YankedConfig
yanked_under c settled = record settled { enabled = settled.enabled && not c.no_yanked }

-- the settings with a command's options applied
abbrev pub overridden : AuditCommand → AuditConfig → AuditConfig
overridden c settled = record {
  advisories = advisories_under c settled.advisories;
  database = database_under c settled.database;
  output = output_under c settled.output;
  target = target_under c settled.target;
  yanked = yanked_under c settled.yanked;
}
