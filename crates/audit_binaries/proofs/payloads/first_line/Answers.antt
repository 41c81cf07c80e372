use Rattle.std.proofs.Common.{add-one, arith}
use Rattle.std.proofs.lemmas.List.{take_rest}
use Rattle.tame_names.proofs.Cuts.{pieces-cut, pieces-whole}
use Rattle.audit_binaries.proofs.payloads.first_line.Goals as goal

pub returns-in-Some-clause-lines : goal.returns-in-Some-clause-lines
returns-in-Some-clause-lines c =
    let found = c.in-Some.ensures in
    rw (take_rest, add-one) (pieces-cut _ _ _ found.0.high (λ k h. found.0.before k (omega arith) h) found.1)

pub returns-in-None-clause-lines : goal.returns-in-None-clause-lines
returns-in-None-clause-lines c = pieces-whole _ _ c.requires (λ k h. c.in-None.ensures k (omega arith) h)
