use Rattle.std.proofs.Common.{◌≡◌, drop}
use Rattle.audit_advisory.specs.Exits.{denies_self}
use Rattle.audit_advisory.proofs.exits.denies_self.Given as goal

-- what is left decides
abbrev pub invariant-loop-option : goal.invariant-loop-option
invariant-loop-option l = denies_self l.deny ≡ denies_self (drop l.option-index l.deny)
