use Rattle.report_parts.proofs.Puts.{if_err, part_first, put_then}
use Rattle.audit_output.proofs.binary_printing.print_answer.Goals as goal

pub returns-in_err-print_status-clause-err : goal.returns-in_err-print_status-clause-err
returns-in_err-print_status-clause-err g c told = record {
  whole = if_err c.from_residual.result _ c.from_residual.ensures.0;
  part = part_first _ _ _ _ (c.in_err-print_status.ensures.err told).part;
}

pub returns-clause-err : goal.returns-clause-err
returns-clause-err g c told = put_then _ _ _ _ _ c.print_binary_report.result (c.in_ok-print_status.ensures.err told).whole (c.print_binary_report.ensures.err told)
