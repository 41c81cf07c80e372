use Rattle.std.proofs.Common.{subst, sym, rules}
use Rattle.audit_advisory.specs.Reports.{IsPlaced}
use Rattle.audit_advisory.proofs.Placing.{with_yanked-placed}
use Rattle.audit_advisory.proofs.reports.Report.add_yanked.Goals as goal

pub returns-clause-ok : goal.returns-clause-ok
returns-clause-ok c = search rules

pub returns-clause-placed : goal.returns-clause-placed
returns-clause-placed c = λ placed within.
    subst IsPlaced (sym (returns-clause-ok c)) (with_yanked-placed c.args.self.now c.args.packages.now placed within)
