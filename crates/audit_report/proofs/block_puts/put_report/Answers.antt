use Rattle.std.proofs.Common.{◌++◌}
use Rattle.std.proofs.lemmas.Result.{on_ok_weaker}
use Rattle.std.specs.List.{flat_map}
use Rattle.audit_report.specs.Blocks.{vulnerability_blocks, warning_blocks}
use Rattle.audit_report.proofs.Pouring.{both_put, both_shown, first_cut}
use Rattle.report_parts.proofs.Puts.{if_err}
use Rattle.audit_report.proofs.block_puts.put_report.Goals as goal

pub returns-in_err-put_each-clause-put : goal.returns-in_err-put_each-clause-put
returns-in_err-put_each-clause-put g c told =
    let f = c.args.findings.now in
    let found = flat_map (vulnerability_blocks f.symbols.now f.advisories.now f.lockfile.now) c.args.report.now.vulnerabilities in
    let warned = flat_map (warning_blocks f.symbols.now f.advisories.now f.lockfile.now) c.args.report.now.warnings in
    record {
      whole = if_err c.from_residual.result _ c.from_residual.ensures.0;
      part = first_cut f.wanted (f.known.now ++ c.args.sheet.now.added) found warned _ _ (rw c.as_slice-found.ensures at (c.in_err-put_each.ensures.put told)).part;
    }

pub returns-clause-put : goal.returns-clause-put
returns-clause-put g c told =
    both_put _ _ _ _ _ _ _ _ _
    (rw c.as_slice-found.ensures at (c.in_ok-put_each.ensures.put told)).whole
    (rw c.as_slice-found.ensures at c.in_ok-put_each.ensures.trees)
    (rw c.as_slice-warnings.ensures at (c.put_each-2.ensures.put told))

pub returns-clause-trees : goal.returns-clause-trees
returns-clause-trees g c =
    let f = c.args.findings.now in
    let found = flat_map (vulnerability_blocks f.symbols.now f.advisories.now f.lockfile.now) c.args.report.now.vulnerabilities in
    let warned = flat_map (warning_blocks f.symbols.now f.advisories.now f.lockfile.now) c.args.report.now.warnings in
    let first = rw c.as_slice-found.ensures at c.in_ok-put_each.ensures.trees in
    on_ok_weaker c.put_each-2.result (λ shown. both_shown f.wanted (f.known.now ++ c.args.sheet.now.added) _ _ found warned first shown)
    (rw c.as_slice-warnings.ensures at c.put_each-2.ensures.trees)
