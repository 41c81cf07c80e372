use Rattle.tame_cache.proofs.KeptLemmas.{refused_kept}
use Rattle.tame_cache.proofs.laws.refused_is_kept.Goals as goal

pub returns : goal.returns
returns c = refused_kept
