use Rattle.std.proofs.Common.{◌≡◌, drop}
use Rattle.audit_settings.specs.Reported.{has_kind}
use Rattle.audit_settings.proofs.reporting.has_kind.Given as goal

-- what is left decides
abbrev pub invariant-loop-listed : goal.invariant-loop-listed
invariant-loop-listed l = has_kind l.kind l.kinds ≡ has_kind l.kind (drop l.listed-index l.kinds)
