use Rattle.audit_settings.proofs.First.{kept_is_first, none_kept}
use Rattle.audit_settings.proofs.laws.first_key_is_first.Goals as goal

pub returns : goal.returns
returns c = record { first = kept_is_first; none = none_kept }
