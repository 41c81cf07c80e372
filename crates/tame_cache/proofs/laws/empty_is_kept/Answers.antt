use Rattle.tame_cache.proofs.KeptLemmas.{empty_kept}
use Rattle.tame_cache.proofs.laws.empty_is_kept.Goals as goal

pub returns : goal.returns
returns c = empty_kept
