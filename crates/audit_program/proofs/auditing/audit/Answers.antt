use Rattle.std.proofs.Common.{ap}
use Rattle.audit_advisory.specs.declared.reports.Report.{Report}
use Rattle.audit_program.proofs.Made.{chain_grows}
use Rattle.audit_program.proofs.auditing.audit.Goals as goal

pub returns-in-Ok-clause-report : goal.returns-in-Ok-clause-report
returns-in-Ok-clause-report g c = record {
  placed = c.in-Ok.ensures.audited.placed;
  counted = ap (λ (r : Report). r.advisory_count) c.in-Ok.ensures.audited.report;
  packages = ap (λ (r : Report). r.dependency_count) c.in-Ok.ensures.audited.report;
}

pub returns-in-Ok-clause-later : goal.returns-in-Ok-clause-later
returns-in-Ok-clause-later g c = chain_grows _ _ _ _ _ c.in-Ok.ensures.audited.says.counted.counts
