use Rattle.vendor_registry.proofs.Premises.{memory_bare}
use Rattle.vendor_registry.proofs.laws.hosts_in_memory_are_bare.Goals as goal

pub returns : goal.returns
returns c = memory_bare
