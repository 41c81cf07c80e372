use Rattle.std.proofs.Common.{◌≡◌, ◌++◌, drop, string_bytes}
use Rattle.audit_fix.specs.Lines.{lines_of}
use Rattle.audit_fix.proofs.lines.push_lines.Given as goal

-- the lines so far, before those of what is left
abbrev pub invariant-loop-vulnerability : goal.invariant-loop-vulnerability
invariant-loop-vulnerability l =
    string_bytes l.initial.out ++ lines_of l.advisories l.packages l.vulnerabilities l.statuses
    ≡ string_bytes l.out ++ lines_of l.advisories l.packages (drop l.vulnerability-index l.vulnerabilities) l.left
