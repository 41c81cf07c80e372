use Rattle.std.proofs.Common.{◌≡◌, ◌++◌, drop, map}
use Rattle.audit_advisory.specs.Fields.{kind_of}
use Rattle.audit_settings.proofs.fields.kinds_named.Given as goal

-- the kinds so far, before those of what is left
abbrev pub invariant-loop-text : goal.invariant-loop-text
invariant-loop-text l = map kind_of l.texts ≡ l.kinds ++ map kind_of (drop l.text-index l.texts)
