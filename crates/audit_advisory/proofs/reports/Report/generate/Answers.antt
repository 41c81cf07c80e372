use Rattle.std.proofs.Common.{subst, sym, rules}
use Rattle.audit_advisory.specs.Reports.{IsPlaced}
use Rattle.audit_advisory.proofs.Placing.{report_of-placed}
use Rattle.audit_advisory.proofs.reports.Report.generate.Goals as goal

pub returns-clause-report : goal.returns-clause-report
returns-clause-report c = search rules

pub returns-clause-placed : goal.returns-clause-placed
returns-clause-placed c =
    subst IsPlaced (sym (returns-clause-report c)) (report_of-placed c.args.settings.now c.args.database.now c.args.lockfile.now)
