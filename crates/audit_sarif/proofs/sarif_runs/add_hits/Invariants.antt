use Rattle.std.proofs.Common.{take}
use Rattle.std.specs.List.{flat_map}
use Rattle.audit_sarif.specs.Sarif.{hit_finding_at}
use Rattle.audit_sarif.specs.SarifRuns.{Tells}
use Rattle.audit_sarif.proofs.sarif_runs.add_hits.Given as goal

-- the findings so far
abbrev pub invariant-loop-hit : goal.invariant-loop-hit
invariant-loop-hit l =
    Tells l.initial.run l.run
    (flat_map (hit_finding_at l.uri l.advisories l.packages) (take l.hit-index l.found))
