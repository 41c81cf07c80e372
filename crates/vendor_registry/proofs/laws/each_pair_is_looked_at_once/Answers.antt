use Rattle.vendor_registry.proofs.Pairs.{each_pair}
use Rattle.vendor_registry.proofs.laws.each_pair_is_looked_at_once.Goals as goal

pub returns : goal.returns
returns c = each_pair
