use Rattle.std.proofs.Common.{◌≡◌, drop}
use Rattle.audit_settings.specs.Reported.{warned_of}
use Rattle.audit_settings.proofs.reporting.add_denied.Given as goal

-- what is left, from the kinds so far
abbrev pub invariant-loop-option : goal.invariant-loop-option
invariant-loop-option l = warned_of l.options l.initial.kinds ≡ warned_of (drop l.option-index l.options) l.kinds
