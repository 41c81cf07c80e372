use Rattle.tame_entry.proofs.EntryLemmas.{other_index}
use Rattle.tame_cache.proofs.KeptLemmas.{shared_kept}
use Rattle.tame_cache.proofs.laws.shared_folders_stay_kept.Goals as goal

pub returns-clause-kept : goal.returns-clause-kept
returns-clause-kept c m one other p r ps old new whole differs kept each ordered = shared_kept m one other p r ps old new whole differs kept each ordered

pub returns-clause-refused : goal.returns-clause-refused
returns-clause-refused c one other r ps whole differs = other_index one other r ps whole differs
