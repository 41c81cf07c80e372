use Rattle.tame_cache.proofs.KeptLemmas.{history_kept}
use Rattle.tame_cache.proofs.laws.histories_keep.Goals as goal

pub returns : goal.returns
returns c = history_kept
