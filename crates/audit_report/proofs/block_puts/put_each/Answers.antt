use Rattle.std.proofs.Common.{refl, sym, append-nil, arith, ◌++◌}
use Rattle.std.proofs.lemmas.List.{take_all}
use Rattle.audit_report.proofs.Pouring.{poured_cut, poured_next, trees_next}
use Rattle.report_parts.proofs.Puts.{all_put, if_err}
use Rattle.audit_report.proofs.block_puts.put_each.Goals as goal

pub loop-item-init : goal.loop-item-init
loop-item-init g c = record {
  text = λ told. sym (append-nil _);
  trees = refl;
  empty = c.requires.empty;
  later = grind arith;
}

pub loop-item-preserved : goal.loop-item-preserved
loop-item-preserved g c =
    let f = c.args.findings.now in
    let at = g.R.Reported.blocks f.symbols.now f.advisories.now f.lockfile.now in
    let shown = f.known.now ++ c.args.sheet.now.added in
    let was = c.loop-item.invariant in
    record {
      text = λ told. poured_next at f.wanted _ _ _ c.loop-item-test.true c.item-item.is shown _ _ _ _ (was.text told) was.trees (c.in_ok-put.ensures.put told).whole;
      trees = trees_next at f.wanted _ _ _ c.loop-item-test.true c.item-item.is shown _ _ was.trees c.in_ok-put.ensures.trees;
      empty = c.in_ok-put.ensures.emptied;
      later = grind (arith, was.later, c.put.ensures.later);
    }

pub returns-in_err-put-clause-put : goal.returns-in_err-put-clause-put
returns-in_err-put-clause-put g c told =
    let f = c.args.findings.now in
    let at = g.R.Reported.blocks f.symbols.now f.advisories.now f.lockfile.now in
    let was = c.loop-item.invariant in
    record {
      whole = if_err c.from_residual.result _ c.from_residual.ensures.0;
      part = poured_cut at f.wanted _ _ _ c.loop-item-test.true c.item-item.is (f.known.now ++ c.args.sheet.now.added) _ _ _ _ (was.text told) was.trees (c.in_err-put.ensures.put told).part;
    }

pub returns-clause-put : goal.returns-clause-put
returns-clause-put g c told = all_put _ _ _ (rw (take_all c.loop-item.item-index c.args.reported.now (omega arith)) at (c.loop-item.invariant.text told))

pub returns-clause-trees : goal.returns-clause-trees
returns-clause-trees g c = rw (take_all c.loop-item.item-index c.args.reported.now (omega arith)) at c.loop-item.invariant.trees
