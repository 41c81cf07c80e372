use Rattle.std.proofs.Common.{◌≡◌}
use Rattle.std.specs.Vec.Iter.{into_iter_items}
use Rattle.known_findings.specs.Baselines.{listed, put_all}
use Rattle.known_findings.proofs.baselines.Baseline.of_findings.Given as goal

-- what is left is put to what was put
abbrev pub invariant-loop-finding : goal.invariant-loop-finding
invariant-loop-finding l = listed l.fn.findings ≡ put_all l.listing (into_iter_items l.finding-iterator)
