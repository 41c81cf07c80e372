use Rattle.tame_names.proofs.Prefixes.{part_put}
use Rattle.tame_entry.proofs.TwoPuts.{first_put, second_put}
use Rattle.tame_entry.proofs.revisions.put_both.Goals as goal

pub returns-in_err-put_piece-clause-part : goal.returns-in_err-put_piece-clause-part
returns-in_err-put_piece-clause-part g c told = first_put _ _ _ _ (part_put _ _ _ c.put_piece.result (c.put_piece.ensures.put told))

pub returns-in_err-put_piece-2-clause-part : goal.returns-in_err-put_piece-2-clause-part
returns-in_err-put_piece-2-clause-part g c told = second_put _ _ _ _ _ (c.in_ok-put_piece.ensures.put told) (part_put _ _ _ c.put_piece-2.result (c.put_piece-2.ensures.put told))

pub returns-clause-part : goal.returns-clause-part
returns-clause-part g c told = second_put _ _ _ _ _ (c.in_ok-put_piece.ensures.put told) (part_put _ _ _ c.put_piece-2.result (c.put_piece-2.ensures.put told))
