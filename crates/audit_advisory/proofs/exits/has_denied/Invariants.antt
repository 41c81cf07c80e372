use Rattle.std.proofs.Common.{◌≡◌, drop}
use Rattle.audit_advisory.specs.Exits.{has_denied}
use Rattle.audit_advisory.proofs.exits.has_denied.Given as goal

-- what is left decides
abbrev pub invariant-loop-warning : goal.invariant-loop-warning
invariant-loop-warning l = has_denied l.warnings l.deny ≡ has_denied (drop l.warning-index l.warnings) l.deny
