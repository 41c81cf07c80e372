use Rattle.std.proofs.Common.{◌≡◌, ◌++◌, drop, filter_map}
use Rattle.audit_fix.specs.Plans.{step_of}
use Rattle.audit_fix.proofs.plans.steps_of.Given as goal

-- the steps so far, before those of what is left
abbrev pub invariant-loop-vulnerability : goal.invariant-loop-vulnerability
invariant-loop-vulnerability l =
    filter_map (step_of l.dry_run l.advisories l.packages) l.vulnerabilities
    ≡ l.steps ++ filter_map (step_of l.dry_run l.advisories l.packages) (drop l.vulnerability-index l.vulnerabilities)
