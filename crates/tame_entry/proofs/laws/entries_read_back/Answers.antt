use Rattle.tame_entry.proofs.EntryLemmas.{body_read, lines_back}
use Rattle.tame_entry.proofs.laws.entries_read_back.Goals as goal

pub returns-clause-read : goal.returns-clause-read
returns-clause-read c index r body url_whole formed text_whole whole = body_read index r body url_whole formed text_whole whole

pub returns-clause-lines : goal.returns-clause-lines
returns-clause-lines c body whole = lines_back body whole
