-- A SARIF run made finding by finding.
use Rattle.std.specs.Prelude.{◌≡◌, List, ◌++◌, map}
use Rattle.audit_sarif.specs.Firsts.{with_all_new}
use Rattle.audit_sarif.specs.Sarif.{Finding}
use Rattle.audit_sarif.specs.declared.sarif_logs.Run.{Run}

-- these findings were added to a run
pub record Tells (old new : Run) (findings : List Finding) : Type 0 where
  pub rules : new.rules ≡ with_all_new (λ r. r.id) old.rules (map (λ f. f.rule) findings)
  pub results : new.results ≡ old.results ++ map (λ f. f.result) findings
