-- The status of a run that ends without a fault, and the steps that are planned (this project,
-- after cargo-audit).
use Rattle.std.specs.Prelude.{ℕ, List, [], Bool}
use Rattle.audit_advisory.specs.declared.advisories.Advisory.{Advisory}
use Rattle.audit_core.specs.declared.auditing.Audited.{Audited}
use Rattle.audit_fix.specs.Endings.{fix_status}
use Rattle.audit_fix.specs.Plans.{fix_plan}
use Rattle.audit_fix.specs.declared.plans.FixPlan.{FixPlan}
use Rattle.audit_fix.specs.declared.plans.FixStep.{FixStep}
use Rattle.baseline_gate.specs.Gates.{gate_status}
use Rattle.upgrade_plan.specs.Lines.{plan_status}
use Rattle.audit_remedies.specs.declared.makings.Made.{Made}
use Rattle.audit_remedies.specs.declared.makings.Made.TheVariants as made

-- what `fix` plans for an audit
abbrev pub fix_plan_of : Bool → List Advisory → Audited → FixPlan
fix_plan_of dry_run advisories audited =
    fix_plan dry_run advisories audited.lockfile audited.report.vulnerabilities

-- of a run that ends without a fault: the exit of the audit, or that of a plan that is started
-- whole; else by what was made of the audit: a plan by its items, the findings that a baseline
-- doesn't list by whether there is one, and 0 for a baseline or a registry
abbrev pub made_status : List Advisory → Audited → Made → ℕ
made_status advisories audited made.Report = audited.exit
made_status advisories audited (made.Fix dry_run) =
    fix_status dry_run audited.report.vulnerabilities
    (fix_plan_of dry_run advisories audited).unpatchable 0
made_status advisories audited (made.Planned items) = plan_status items
made_status advisories audited (made.Unlisted found) = gate_status found
made_status advisories audited made.Written = 0
made_status advisories audited (made.Vendored v) = 0

-- the starts that are planned
abbrev pub steps_of : Made → List Advisory → Audited → List FixStep
steps_of (made.Fix dry_run) advisories audited = (fix_plan_of dry_run advisories audited).steps
steps_of it advisories audited = []
