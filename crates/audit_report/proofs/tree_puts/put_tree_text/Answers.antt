use Rattle.report_parts.proofs.Puts.{if_err}
use Rattle.audit_report.proofs.Treed.{cut_in_lines, cut_in_tree, put_treed}
use Rattle.audit_report.proofs.tree_puts.put_tree_text.Goals as goal

pub returns-in_err-put_with-clause-put : goal.returns-in_err-put_with-clause-put
returns-in_err-put_with-clause-put g c told = record {
  whole = if_err c.from_residual.result _ c.from_residual.ensures.0;
  part = cut_in_lines _ _ _ _ (c.in_err-put_with.ensures.put told).part;
}

pub returns-in_err-put_rendering-clause-put : goal.returns-in_err-put_rendering-clause-put
returns-in_err-put_rendering-clause-put g c told = record {
  whole = if_err c.from_residual-in_err-put_rendering.result _ c.from_residual-in_err-put_rendering.ensures.0;
  part = cut_in_tree _ _ _ _ _ (c.in_ok-put_with.ensures.put told).whole (c.in_err-put_rendering.ensures.put told).part;
}

pub returns-clause-put : goal.returns-clause-put
returns-clause-put g c told =
    put_treed _ _ _ _ _ _ _ (c.in_ok-put_with.ensures.put told).whole (c.in_ok-put_rendering.ensures.put told).whole
    (rw c.in_ok-put_with.ensures.emptied at (c.put_with-2.ensures.put told))
