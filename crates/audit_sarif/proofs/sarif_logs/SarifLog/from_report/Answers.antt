use Rattle.std.proofs.Common.{arith, sym, subst}
use Rattle.std.proofs.lemmas.Grind.{common_steps}
use Rattle.audit_sarif.specs.Rules.{HasRulesOfResults}
use Rattle.report_parts.proofs.Placed.{placed_in}
use Rattle.audit_sarif.proofs.Telling.{rules_of_results}
use Rattle.audit_sarif.proofs.sarif_logs.SarifLog.from_report.Goals as goal

pub returns-then-not-is_placed-clause-placed : goal.returns-then-not-is_placed-clause-placed
returns-then-not-is_placed-clause-placed c h a p =
    let placed = placed_in c.args.report.now _ _ h a p in
    grind (arith, common_steps, placed, c.if-not-is_placed.true)

pub returns-clause-rules : goal.returns-clause-rules
returns-clause-rules c =
    subst HasRulesOfResults (sym c.in_ok-run.ensures)
    (rules_of_results c.args.cargo_lock_path.now c.advisories-advisories.result.now c.packages-packages.result.now c.args.report.now)
