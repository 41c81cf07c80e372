use Rattle.std.proofs.Common.{◌≡◌, ◌++◌, drop, map}
use Rattle.audit_advisory.specs.Reports.{yanked_at}
use Rattle.audit_advisory.proofs.reports.yanked.Given as goal

-- the warnings so far, before those of what is left
abbrev pub invariant-loop-place : goal.invariant-loop-place
invariant-loop-place l = map yanked_at l.packages ≡ l.warnings ++ map yanked_at (drop l.place-index l.packages)
