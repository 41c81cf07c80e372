use Rattle.std.proofs.Common.{add-one, arith, sym}
use Rattle.std.proofs.lemmas.List.{take_rest}
use Rattle.tame_entry.proofs.CutLemmas.{cut_here, cut_nowhere}
use Rattle.tame_entry.proofs.raw.cut_at.Goals as goal

pub returns-in-Some : goal.returns-in-Some
returns-in-Some c =
    let found = c.in-Some.ensures in
    rw (take_rest, add-one) (sym (cut_here _ _ _ found.0.high (λ k h. found.0.before k (omega arith) h) found.1))

pub returns-in-None : goal.returns-in-None
returns-in-None c = sym (cut_nowhere _ _ (λ k h. c.in-None.ensures k (omega arith) h))
