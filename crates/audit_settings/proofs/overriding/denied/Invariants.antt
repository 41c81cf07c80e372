use Rattle.std.proofs.Common.{◌≡◌, drop}
use Rattle.audit_settings.specs.Overriding.{denied}
use Rattle.audit_settings.proofs.overriding.denied.Given as goal

-- what is left, from the options so far
abbrev pub invariant-loop-option : goal.invariant-loop-option
invariant-loop-option l = denied l.given l.initial.options ≡ denied (drop l.option-index l.given) l.options
