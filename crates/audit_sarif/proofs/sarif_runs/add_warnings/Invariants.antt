use Rattle.std.proofs.Common.{take}
use Rattle.std.specs.List.{flat_map}
use Rattle.audit_sarif.specs.Sarif.{warning_finding_at}
use Rattle.audit_sarif.specs.SarifRuns.{Tells}
use Rattle.audit_sarif.proofs.sarif_runs.add_warnings.Given as goal

-- the findings so far
abbrev pub invariant-loop-warning : goal.invariant-loop-warning
invariant-loop-warning l =
    Tells l.initial.run l.run
    (flat_map (warning_finding_at l.uri l.advisories l.packages) (take l.warning-index l.warnings))
