use Rattle.tame_names.proofs.Joined.{joined}
use Rattle.tame_names.proofs.pieces.split.Goals as goal

pub returns-clause-joined : goal.returns-clause-joined
returns-clause-joined c = joined c.args.needle c.args.haystack.now
