use Rattle.std.proofs.Common.{◌≡◌, ◌++◌, codes, drop, string_bytes}
use Rattle.std.specs.List.{flat_map}
use Rattle.audit_report.proofs.affected.push_segments.Given as goal

-- what is written, and what is left to write
abbrev pub invariant-loop-segment : goal.invariant-loop-segment
invariant-loop-segment l =
    string_bytes l.initial.out ++ flat_map (λ s. codes "::" ++ s) l.segments
    ≡ string_bytes l.out ++ flat_map (λ s. codes "::" ++ s) (drop l.segment-index l.segments)
