use Rattle.tame_local.proofs.Inserted.{stay_valid}
use Rattle.tame_local.proofs.laws.inserted_crates_stay_valid.Goals as goal

pub returns : goal.returns
returns c = stay_valid
