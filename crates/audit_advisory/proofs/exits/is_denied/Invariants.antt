use Rattle.std.proofs.Common.{◌≡◌, drop}
use Rattle.audit_advisory.specs.Exits.{is_denied}
use Rattle.audit_advisory.proofs.exits.is_denied.Given as goal

-- what is left decides
abbrev pub invariant-loop-option : goal.invariant-loop-option
invariant-loop-option l = is_denied l.deny l.kind ≡ is_denied (drop l.option-index l.deny) l.kind
