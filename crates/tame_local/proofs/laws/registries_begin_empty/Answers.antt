use Rattle.tame_local.proofs.Beginnings.{begin_empty}
use Rattle.tame_local.proofs.laws.registries_begin_empty.Goals as goal

pub returns : goal.returns
returns c = begin_empty
