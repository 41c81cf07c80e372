use Rattle.std.proofs.Common.{◌≡◌, ◌++◌, drop, string_bytes}
use Rattle.known_findings.specs.Baselines.{joined}
use Rattle.known_findings.proofs.baselines.joined.Given as goal

-- the lines so far, and those that are left
abbrev pub invariant-loop-line : goal.invariant-loop-line
invariant-loop-line l = string_bytes l.text ++ joined (drop l.line-index l.lines) ≡ joined l.lines
