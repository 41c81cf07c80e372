use Rattle.upgrade_plan.proofs.HeldPlanning.{planned_by_held}
use Rattle.upgrade_plan.proofs.laws.plans_tell_what_the_server_held.Goals as goal

pub returns : goal.returns
returns g c auditor began left added text audited advisories faults items a by =
    planned_by_held g.W.Wire.tells g.D.CacheDisk.tells auditor began left added text audited advisories faults items a by
