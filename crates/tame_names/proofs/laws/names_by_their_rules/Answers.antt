use Rattle.tame_names.proofs.Ruled.{by_cargo, by_crates_io}
use Rattle.tame_names.proofs.laws.names_by_their_rules.Goals as goal

pub returns-clause-cargo : goal.returns-clause-cargo
returns-clause-cargo c text utf8 = by_cargo text utf8

pub returns-clause-crates_io : goal.returns-clause-crates_io
returns-clause-crates_io c text utf8 = by_crates_io text utf8
