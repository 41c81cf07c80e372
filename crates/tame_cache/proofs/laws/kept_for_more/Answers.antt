use Rattle.tame_cache.proofs.KeptLemmas.{more_kept}
use Rattle.tame_cache.proofs.laws.kept_for_more.Goals as goal

pub returns : goal.returns
returns c = more_kept
