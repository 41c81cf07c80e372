use Rattle.audit_settings.proofs.Denied.{denied-appended, denied-replaced}
use Rattle.audit_settings.proofs.laws.denied_options_are_appended.Goals as goal

pub returns : goal.returns
returns c = record { appended = denied-appended; replaced = denied-replaced }
