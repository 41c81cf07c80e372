use Rattle.std.proofs.Common.{◌≡◌, ◌++◌}
use Rattle.std.specs.Map.{keys_of, values_of}
use Rattle.known_findings.proofs.listings.part.Given as goal

-- what was separated, before what is left
abbrev pub invariant-loop-line : goal.invariant-loop-line
invariant-loop-line l = record {
  lines : l.lines ++ keys_of l.line-iterator ≡ keys_of l.fn.by_line.entries;
  findings : l.findings ++ values_of l.line-iterator ≡ values_of l.fn.by_line.entries;
}
