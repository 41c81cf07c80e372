use Rattle.tame_entry.proofs.LastFlags.{found_last, found_none, last_found, none_found}
use Rattle.tame_entry.proofs.laws.last_record_decides.Goals as goal

pub returns-clause-last : goal.returns-clause-last
returns-clause-last c flags version flag = (found_last flags version flag, last_found flags version flag)

pub returns-clause-none : goal.returns-clause-none
returns-clause-none c flags version = (found_none flags version, none_found flags version)
