use Rattle.std.proofs.Common.{◌≡◌, ◌++◌, ◌-◌, length, replicate, string_bytes}
use Rattle.report_parts.proofs.attributes.push_filled.Given as goal

-- what is written, and the spaces that are left to write
abbrev pub invariant-loop-column : goal.invariant-loop-column
invariant-loop-column l =
    string_bytes l.initial.out ++ replicate (10 - length l.word) 32
    ≡ string_bytes l.out ++ replicate (10 - l.column) 32
