use Rattle.tame_sparse.proofs.Firsts.{named_first}
use Rattle.tame_sparse.proofs.git.first_name.Goals as goal

pub returns : goal.returns
returns c = named_first c.args.krate.now.versions c.name.result.now c.requires c.name.ensures
