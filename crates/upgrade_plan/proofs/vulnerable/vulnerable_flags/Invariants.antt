use Rattle.std.proofs.Common.{◌≡◌, ◌<◌, ℕ, length, get_or, drop, false}
use Rattle.std.specs.Prelude.{◌||◌}
use Rattle.upgrade_plan.specs.Plans.{has_vulnerability}
use Rattle.upgrade_plan.proofs.vulnerable.vulnerable_flags.Given as goal

-- a flag is raised, or what is left raises it
abbrev pub invariant-loop-vulnerability : goal.invariant-loop-vulnerability
invariant-loop-vulnerability l = record {
  one_each : length l.flags.items ≡ l.count;
  each : (place : ℕ) → place < l.count →
      (get_or l.flags.items place false || has_vulnerability (drop l.vulnerability-index l.vulnerabilities) place)
      ≡ has_vulnerability l.vulnerabilities place;
}
