use Rattle.report_parts.proofs.Puts.{if_err, part_first, put_then}
use Rattle.audit_output.proofs.binary_printing.print_reports.Goals as goal

pub returns-in_err-print_loaded-clause-err : goal.returns-in_err-print_loaded-clause-err
returns-in_err-print_loaded-clause-err g c told = record {
  whole = if_err c.from_residual.result _ c.from_residual.ensures.0;
  part = part_first _ _ _ _ (part_first _ _ _ _ (c.in_err-print_loaded.ensures.err told).part);
}

pub returns-in_err-print_each-clause-out : goal.returns-in_err-print_each-clause-out
returns-in_err-print_each-clause-out g c told = record {
  whole = if_err c.from_residual-in_err-print_each.result _ c.from_residual-in_err-print_each.ensures.0;
  part = part_first _ _ _ _ (rw c.requires.presenter at (c.in_err-print_each.ensures.out told)).part;
}

pub returns-in_err-print_each-clause-err : goal.returns-in_err-print_each-clause-err
returns-in_err-print_each-clause-err g c told = record {
  whole = if_err c.from_residual-in_err-print_each.result _ c.from_residual-in_err-print_each.ensures.0;
  part = part_first _ _ _ _ (put_then _ _ _ _ _ _ (c.in_ok-print_loaded.ensures.err told).whole (rw c.requires.presenter at (c.in_err-print_each.ensures.err told))).part;
}

pub returns-clause-out : goal.returns-clause-out
returns-clause-out g c told = put_then _ _ _ _ _ c.print_self.result (rw c.requires.presenter at (c.in_ok-print_each.ensures.out told)).whole (c.print_self.ensures.out told)

pub returns-clause-err : goal.returns-clause-err
returns-clause-err g c told =
    put_then _ _ _ _ _ c.print_self.result (put_then _ _ _ _ _ _ (c.in_ok-print_loaded.ensures.err told).whole (rw c.requires.presenter at (c.in_ok-print_each.ensures.err told))).whole (rw (c.in_ok-print_each.ensures.config, c.requires.presenter) at (c.print_self.ensures.err told))
