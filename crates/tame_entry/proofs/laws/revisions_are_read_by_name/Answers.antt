use Rattle.tame_entry.proofs.NameLemmas.{named, texts_are, unnamed}
use Rattle.tame_entry.proofs.laws.revisions_are_read_by_name.Goals as goal

pub returns-clause-named : goal.returns-clause-named
returns-clause-named c name value whole = named name value whole

pub returns-clause-unnamed : goal.returns-clause-unnamed
returns-clause-unnamed c text whole = unnamed text whole

pub returns-clause-texts : goal.returns-clause-texts
returns-clause-texts c text r = texts_are text r
