use Rattle.tame_names.proofs.Prefixes.{part_put}
use Rattle.tame_names.proofs.output.put_counted.Goals as goal

pub returns-in-Ok-clause-part : goal.returns-in-Ok-clause-part
returns-in-Ok-clause-part g c told = part_put _ _ _ c.put_piece.result (c.put_piece.ensures.put told)
