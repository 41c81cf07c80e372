use Rattle.std.proofs.Common.{◌≡◌, ◌++◌, drop, string_bytes}
use Rattle.known_findings.specs.Baselines.{written}
use Rattle.known_findings.proofs.baselines.finding_lines.Given as goal

-- the lines so far, and those that are left
abbrev pub invariant-loop-finding : goal.invariant-loop-finding
invariant-loop-finding l = string_bytes l.text ++ written (drop l.finding-index l.findings) ≡ written l.findings
