use Rattle.std.proofs.Common.{add-one, arith}
use Rattle.std.proofs.lemmas.List.{take_rest}
use Rattle.tame_names.proofs.Cuts.{pieces-cut, pieces-whole}
use Rattle.tame_names.proofs.pieces.first_piece.Goals as goal

pub returns-in-Some : goal.returns-in-Some
returns-in-Some c =
    let found = c.in-Some.ensures in
    rw (take_rest, add-one) (pieces-cut _ _ _ found.0.high (λ k h. found.0.before k (omega arith) h) found.1)

pub returns-in-None : goal.returns-in-None
returns-in-None c = pieces-whole _ _ c.requires (λ k h. c.in-None.ensures k (omega arith) h)
