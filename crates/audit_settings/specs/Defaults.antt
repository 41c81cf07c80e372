-- The settings if nothing is stated.
use Rattle.std.specs.Prelude.{[], true, false, None}
use Rattle.audit_advisory.specs.declared.outputs.OutputConfig.{OutputConfig}
use Rattle.audit_advisory.specs.declared.outputs.OutputFormat.TheVariants as format
use Rattle.audit_settings.specs.declared.configs.AdvisoryConfig.{AdvisoryConfig}
use Rattle.audit_settings.specs.declared.configs.AuditConfig.{AuditConfig}
use Rattle.audit_settings.specs.declared.configs.DatabaseConfig.{DatabaseConfig}
use Rattle.audit_settings.specs.declared.configs.TargetConfig.{TargetConfig}
use Rattle.audit_settings.specs.declared.configs.YankedConfig.{YankedConfig}

abbrev pub default_advisories : AdvisoryConfig
default_advisories = record {
  ignore = [];
  informational_warnings = None;
  severity_threshold = None;
}

abbrev pub default_database : DatabaseConfig
default_database = record { path = None; url = None; fetch = true; stale = false }

abbrev pub default_output : OutputConfig
default_output = record { deny = []; format = format.Terminal; quiet = false; show_tree = true }

abbrev pub default_target : TargetConfig
default_target = record { arch = None; os = None }

abbrev pub default_yanked : YankedConfig
default_yanked = record { enabled = true; update_index = true }

abbrev pub default_settings : AuditConfig
default_settings = record {
  advisories = default_advisories;
  database = default_database;
  output = default_output;
  target = default_target;
  yanked = default_yanked;
}
