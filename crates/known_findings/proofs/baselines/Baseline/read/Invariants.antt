use Rattle.std.proofs.Common.{◌≡◌, ◌+◌, length}
use Rattle.tame_names.specs.Pieces.{pieces}
use Rattle.known_findings.specs.Baselines.{findings_in, first_broken, listed, put_all}
use Rattle.known_findings.proofs.baselines.Baseline.read.Given as goal

-- no line so far is broken; what is left is counted on, and put to what was put
abbrev pub invariant-loop-line : goal.invariant-loop-line
invariant-loop-line l = record {
  count : l.n + length l.line-iterator ≡ length (pieces 10 l.text);
  broken : first_broken 0 (pieces 10 l.text) ≡ first_broken l.n l.line-iterator;
  put : listed (findings_in (pieces 10 l.text)) ≡ put_all l.listing (findings_in l.line-iterator);
}
