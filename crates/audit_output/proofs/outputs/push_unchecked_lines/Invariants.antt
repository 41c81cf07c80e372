use Rattle.std.proofs.Common.{◌≡◌, ◌++◌, drop, string_bytes}
use Rattle.audit_output.specs.Outputs.{unchecked_lines}
use Rattle.audit_output.proofs.outputs.push_unchecked_lines.Given as goal

-- the lines so far, and those of what is left
abbrev pub invariant-loop-judged : goal.invariant-loop-judged
invariant-loop-judged l =
    string_bytes l.initial.out ++ unchecked_lines l.packages l.verdicts
    ≡ string_bytes l.out ++ unchecked_lines l.packages (drop l.judged-index l.verdicts)
