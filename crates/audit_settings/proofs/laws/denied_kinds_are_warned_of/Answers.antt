use Rattle.audit_settings.proofs.Denied.{warned-behind, warned-kinds}
use Rattle.audit_settings.proofs.laws.denied_kinds_are_warned_of.Goals as goal

pub returns : goal.returns
returns c = record { kinds = warned-kinds; stated = warned-behind }
