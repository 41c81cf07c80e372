use Rattle.std.proofs.Common.{◌≡◌, drop, map}
use Rattle.audit_report.specs.Symbols.{is_subsequence, plain}
use Rattle.audit_report.proofs.symbols.is_subsequence.Given as goal

-- what is left of both decides
abbrev pub invariant-loop-segment : goal.invariant-loop-segment
invariant-loop-segment l =
    is_subsequence (map plain l.wanted) l.symbol
    ≡ is_subsequence (map plain l.left) (drop l.segment-index l.symbol)
