use Rattle.tame_entry.proofs.EntryLemmas.{other_index, other_url, other_version}
use Rattle.tame_entry.proofs.laws.other_entries_are_refused.Goals as goal

pub returns-clause-index : goal.returns-clause-index
returns-clause-index c index url r ps url_whole other = other_index index url r ps url_whole other

pub returns-clause-text : goal.returns-clause-text
returns-clause-text c index text rest whole other = other_url index text rest whole other

pub returns-clause-version : goal.returns-clause-version
returns-clause-version c index first rest other = other_version index first rest other
