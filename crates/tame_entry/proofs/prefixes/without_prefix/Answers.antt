use Rattle.tame_entry.proofs.PrefixLemmas.{stripped}
use Rattle.tame_entry.proofs.prefixes.without_prefix.Goals as goal

pub returns : goal.returns
returns c = stripped _ _ _ c.strip_prefix.ensures.cases
