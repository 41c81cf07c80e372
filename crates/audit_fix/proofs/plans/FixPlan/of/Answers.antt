use Rattle.audit_fix.proofs.Told.{tells_each}
use Rattle.audit_fix.proofs.plans.FixPlan.of.Goals as goal

pub returns-clause-each : goal.returns-clause-each
returns-clause-each c = λ of.
    tells_each c.args.dry_run c.args.database.now c.args.audited.now _ c.in_ok-unpatchable_of.field-0 of
    (rw (c.advisories-advisories.ensures, c.packages-packages.ensures, c.as_slice-vulnerabilities.ensures) at c.in_ok-steps_of.ensures)
