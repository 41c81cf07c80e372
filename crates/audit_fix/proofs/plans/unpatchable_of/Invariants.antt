use Rattle.std.proofs.Common.{◌≡◌, ◌++◌, drop, filter_map}
use Rattle.audit_fix.specs.Plans.{each_once, unpatched_place}
use Rattle.audit_fix.proofs.Once.{unseen}
use Rattle.audit_fix.proofs.plans.unpatchable_of.Given as goal

-- the places so far, before those of what is left that aren't among them
abbrev pub invariant-loop-vulnerability : goal.invariant-loop-vulnerability
invariant-loop-vulnerability l =
    each_once (filter_map (unpatched_place l.advisories) l.vulnerabilities)
    ≡ l.places ++ unseen l.places (each_once (filter_map (unpatched_place l.advisories) (drop l.vulnerability-index l.vulnerabilities)))
