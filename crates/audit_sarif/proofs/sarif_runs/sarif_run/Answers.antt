use Rattle.audit_sarif.proofs.Telling.{run_made}
use Rattle.audit_sarif.proofs.sarif_runs.sarif_run.Goals as goal

pub returns : goal.returns
returns c =
    run_made _ _ _ _ _ c.new.ensures c.new-2.ensures
    (rw c.as_slice-found.ensures at c.in_ok-add_hits.ensures)
    (rw c.as_slice-warnings.ensures at c.in_ok-add_warnings.ensures)
