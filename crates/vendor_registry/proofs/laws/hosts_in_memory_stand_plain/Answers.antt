use Rattle.vendor_registry.proofs.Premises.{memory_plain}
use Rattle.vendor_registry.proofs.laws.hosts_in_memory_stand_plain.Goals as goal

pub returns : goal.returns
returns c = memory_plain
