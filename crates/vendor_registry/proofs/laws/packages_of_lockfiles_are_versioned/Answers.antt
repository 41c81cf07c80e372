use Rattle.vendor_registry.proofs.Premises.{locked_versioned}
use Rattle.vendor_registry.proofs.laws.packages_of_lockfiles_are_versioned.Goals as goal

pub returns : goal.returns
returns c = locked_versioned
