use Rattle.std.proofs.Common.{◌≡◌, Ok, Err, ap, rules, arith}
use Rattle.std.proofs.lemmas.Grind.{common_steps}
use Rattle.toml_tables.specs.Results.{and_then}
use Rattle.tame_location.specs.Registries.{or_index}
use Rattle.tame_location.proofs.registries.indexed.Goals as goal

pub returns-in_err-found-clause-refused : goal.returns-in_err-found-clause-refused
returns-in_err-found-clause-refused g c = λ told.
    let is : c.from_residual.result ≡ Err c.in_err-found.field-0.0 = first_of (search rules, grind (arith, common_steps)) in
    rw is (λ shown. ap (and_then (λ found. Ok (or_index c.args.index found))) (rw c.as_str.ensures at (c.in_err-found.ensures.refused told shown)))

pub returns-in-Some-clause-ok : goal.returns-in-Some-clause-ok
returns-in-Some-clause-ok g c = λ told.
    ap (and_then (λ found. Ok (or_index c.args.index found))) (rw (c.as_str.ensures, c.in-Some.is) at (c.in_ok-found.ensures.ok told))
