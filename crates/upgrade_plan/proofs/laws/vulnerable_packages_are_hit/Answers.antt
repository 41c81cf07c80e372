use Rattle.upgrade_plan.proofs.Hitting.{vulnerable_are_hit}
use Rattle.upgrade_plan.proofs.laws.vulnerable_packages_are_hit.Goals as goal

pub returns : goal.returns
returns c = vulnerable_are_hit
