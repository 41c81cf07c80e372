use Rattle.std.proofs.Common.{◌≡◌, ◌++◌, take}
use Rattle.audit_settings.proofs.reporting.add_texts.Given as goal

-- the copies so far, after what was there
abbrev pub invariant-loop-text : goal.invariant-loop-text
invariant-loop-text l = l.list ≡ l.initial.list ++ take l.text-index l.texts
