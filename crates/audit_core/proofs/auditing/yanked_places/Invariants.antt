use Rattle.std.proofs.Common.{◌≡◌, ◌++◌, drop}
use Rattle.audit_core.specs.Auditors.{yanked_in}
use Rattle.audit_core.proofs.auditing.yanked_places.Given as goal

-- the places so far, before those of what is left
abbrev pub invariant-loop-judged : goal.invariant-loop-judged
invariant-loop-judged l = yanked_in l.verdicts ≡ l.places ++ yanked_in (drop l.judged-index l.verdicts)
