use Rattle.tame_records.proofs.OptionalLemmas.{one_by_one}
use Rattle.tame_records.proofs.laws.optional_members_one_by_one.Goals as goal

pub returns : goal.returns
returns c value o = one_by_one value o
