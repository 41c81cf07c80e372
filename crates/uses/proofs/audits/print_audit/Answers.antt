use Rattle.std.proofs.Common.{◌≡◌, ◌++◌, codes, length, ◌∙◌}
use Rattle.tame_names.specs.Output.{AddsPrefix}
use Rattle.report_parts.proofs.Puts.{if_err, part_first, put_then}
use Rattle.audit_report.specs.StatusLines.{scanning_line_in}
use Rattle.uses.proofs.Presenting.{fresh}
use Rattle.uses.proofs.audits.print_audit.Goals as goal

pub returns-in_err-before_report-clause-err : goal.returns-in_err-before_report-clause-err
returns-in_err-before_report-clause-err g c told =
    let line = scanning_line_in c.args.config.now (codes "Cargo.lock") (length c.args.audited.now.lockfile) in
    let part : AddsPrefix (g.E.Sink.holds c.args.err.now) line (g.E.Sink.holds c.before_report.new.err) = (rw c.in_ok-presenter.ensures.config at (c.in_err-before_report.ensures.err told)).part in
    record {
      whole = if_err c.from_residual-in_err-before_report.result _ c.from_residual-in_err-before_report.ensures.0;
      part = part_first _ _ _ _ part;
    }

pub returns-clause-err : goal.returns-clause-err
returns-clause-err g c told =
    let line = scanning_line_in c.args.config.now (codes "Cargo.lock") (length c.args.audited.now.lockfile) in
    let first : g.E.Sink.holds c.before_report.new.err ≡ g.E.Sink.holds c.args.err.now ++ line = (rw c.in_ok-presenter.ensures.config at (c.in_ok-before_report.ensures.err told)).whole in
    let shown = c.in_ok-before_report.ensures.same ∙ fresh c.in_ok-presenter.presenter c.args.config.now c.in_ok-presenter.ensures.config c.in_ok-presenter.ensures.trees c.in_ok-presenter.ensures.symbols in
    put_then _ _ _ _ _ c.print_report.result first (rw shown at (c.print_report.ensures.err told))
