use Rattle.std.proofs.Common.{◌≡◌, ◌++◌, drop, string_bytes}
use Rattle.audit_report.specs.Blocks.{or_texts}
use Rattle.audit_report.proofs.blocks.push_or_texts.Given as goal

-- what is written, and what is left to write
abbrev pub invariant-loop-text : goal.invariant-loop-text
invariant-loop-text l =
    string_bytes l.initial.out ++ or_texts l.texts
    ≡ string_bytes l.out ++ or_texts (drop l.text-index l.texts)
