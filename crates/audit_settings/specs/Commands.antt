-- The options of `audit` if none was given.
use Rattle.std.specs.Prelude.{[], false, None}
use Rattle.audit_settings.specs.declared.commands.AuditCommand.{AuditCommand}

-- no option was given
abbrev pub no_option : AuditCommand
no_option = record {
  color = None;
  db = None;
  deny = [];
  file = None;
  ignore = [];
  no_yanked = false;
  no_fetch = false;
  stale = false;
  target_arch = [];
  target_os = [];
  url = None;
  quiet = false;
  output_format = None;
  output_json = false;
  verdicts = false;
}
