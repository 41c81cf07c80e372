use Rattle.std.proofs.Common.{arith}
use Rattle.std.proofs.lemmas.Grind.{common_steps}
use Rattle.report_parts.proofs.Placed.{placed_in}
use Rattle.audit_report.proofs.presenters.Presenter.print_report.Goals as goal

pub returns-then-not-is_placed-clause-placed : goal.returns-then-not-is_placed-clause-placed
returns-then-not-is_placed-clause-placed g c h a p =
    let placed = placed_in c.args.report.now _ _ h a p in
    grind (arith, common_steps, placed, c.if-not-is_placed.true)
