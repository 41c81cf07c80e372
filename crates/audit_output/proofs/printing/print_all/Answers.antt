use Rattle.report_parts.proofs.Puts.{if_err, part_first, put_then}
use Rattle.audit_output.proofs.printing.print_all.Goals as goal

pub returns-in_err-print_status-clause-err : goal.returns-in_err-print_status-clause-err
returns-in_err-print_status-clause-err g c told = record {
  whole = if_err c.from_residual.result _ c.from_residual.ensures.0;
  part = part_first _ _ _ _ (part_first _ _ _ _ (c.in_err-print_status.ensures.err told).part);
}

pub returns-in_err-presenter-clause-err : goal.returns-in_err-presenter-clause-err
returns-in_err-presenter-clause-err g c told = record {
  whole = if_err c.from_residual-in_err-presenter.result _ c.from_residual-in_err-presenter.ensures.0;
  part = part_first _ _ _ _ (part_first _ _ _ _ (c.in_ok-print_status.ensures.err told).part);
}

pub returns-in_err-print_report-clause-out : goal.returns-in_err-print_report-clause-out
returns-in_err-print_report-clause-out g c told = record {
  whole = if_err c.from_residual-in_err-print_report.result _ c.from_residual-in_err-print_report.ensures.0;
  part = part_first _ _ _ _ (rw c.in_ok-presenter.ensures at (c.in_err-print_report.ensures.out told)).part;
}

pub returns-in_err-print_report-clause-err : goal.returns-in_err-print_report-clause-err
returns-in_err-print_report-clause-err g c told = record {
  whole = if_err c.from_residual-in_err-print_report.result _ c.from_residual-in_err-print_report.ensures.0;
  part = part_first _ _ _ _ (put_then _ _ _ _ _ _ (c.in_ok-print_status.ensures.err told).whole (rw c.in_ok-presenter.ensures at (c.in_err-print_report.ensures.err told))).part;
}

pub returns-clause-out : goal.returns-clause-out
returns-clause-out g c told = put_then _ _ _ _ _ c.print_self.result (rw c.in_ok-presenter.ensures at (c.in_ok-print_report.ensures.out told)).whole (c.print_self.ensures.out told)

pub returns-clause-err : goal.returns-clause-err
returns-clause-err g c told =
    put_then _ _ _ _ _ c.print_self.result (put_then _ _ _ _ _ _ (c.in_ok-print_status.ensures.err told).whole (rw c.in_ok-presenter.ensures at (c.in_ok-print_report.ensures.err told))).whole (rw (c.in_ok-print_report.ensures.config, c.in_ok-presenter.ensures) at (c.print_self.ensures.err told))
