use Rattle.std.proofs.Common.{arith}
use Rattle.std.proofs.lemmas.Grind.{common_steps}
use Rattle.report_parts.proofs.Placed.{are_placed-below}
use Rattle.audit_report.proofs.presenters.Presenter.print_self_report.Goals as goal

pub returns-then-not-are_placed-clause-placed : goal.returns-then-not-are_placed-clause-placed
returns-then-not-are_placed-clause-placed g c h =
    let placed = are_placed-below _ _ h in
    grind (arith, common_steps, placed, c.if-not-are_placed.true)
