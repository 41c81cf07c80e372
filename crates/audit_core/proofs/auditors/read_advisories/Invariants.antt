use Rattle.std.proofs.Common.{◌≡◌, drop}
use Rattle.audit_lock.proofs.Ahead.{before_read}
use Rattle.audit_core.specs.Auditors.{advisories_from}
use Rattle.audit_core.proofs.auditors.read_advisories.Given as goal

-- the advisories so far, before those of what is left
abbrev pub invariant-loop-n : goal.invariant-loop-n
invariant-loop-n l = advisories_from 0 l.texts ≡ before_read l.advisories (advisories_from l.n (drop l.n l.texts))
