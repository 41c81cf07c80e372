use Rattle.std.proofs.Common.{◌≡◌, ◌++◌, drop, string_bytes}
use Rattle.audit_output.specs.Printed.{verdict_lines}
use Rattle.audit_output.proofs.judged_lines.verdict_lines.Given as goal

-- the lines so far, and those of what is left
abbrev pub invariant-loop-judged : goal.invariant-loop-judged
invariant-loop-judged l =
    verdict_lines l.packages l.verdicts ≡ string_bytes l.out ++ verdict_lines l.packages (drop l.judged-index l.verdicts)
