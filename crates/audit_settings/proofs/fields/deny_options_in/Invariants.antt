use Rattle.std.proofs.Common.{◌≡◌, drop}
use Rattle.toml_tables.proofs.Ahead.{before}
use Rattle.audit_settings.specs.Settings.{deny_options_in}
use Rattle.audit_settings.proofs.fields.deny_options_in.Given as goal

-- the options so far, before those of what is left
abbrev pub invariant-loop-text : goal.invariant-loop-text
invariant-loop-text l = deny_options_in l.texts ≡ before l.options (deny_options_in (drop l.text-index l.texts))
