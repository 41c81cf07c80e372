use Rattle.std.proofs.Common.{◌≡◌, Err, rules, arith}
use Rattle.std.proofs.lemmas.Grind.{common_steps}
use Rattle.audit_asked.proofs.asking.texts.Goals as goal

pub returns-in_err-database-clause-failed : goal.returns-in_err-database-clause-failed
returns-in_err-database-clause-failed g c = λ told.
    let is : c.from_residual.result ≡ Err c.in_err-database.field-0.0 = first_of (search rules, grind (arith, common_steps)) in
    rw is (rw c.as_str.ensures at (c.in_err-database.ensures.failed told))
