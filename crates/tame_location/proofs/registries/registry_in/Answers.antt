use Rattle.std.proofs.Common.{◌≡◌, Contains, Some, Ok, Err, Result, IfOk, IfErr, ap, sym, subst, rules, arith}
use Rattle.std.proofs.lemmas.Grind.{common_steps}
use Rattle.std.proofs.lemmas.List.Elements.{Contains-append_left}
use Rattle.toml_tables.specs.Results.{and_then}
use Rattle.tame_names.specs.declared.errors.Error.{Error}
use Rattle.tame_location.specs.Calls.{IsTold}
use Rattle.tame_location.specs.Registries.{indexed, indexed_calls, registry_calls}
use Rattle.tame_location.specs.Settings.{first_answer, index_in, reads, replacement}
use Rattle.tame_location.specs.declared.settings.HeldUrl.{HeldUrl}
use Rattle.tame_location.proofs.Asked.{asked_by, wider, wider_err}
use Rattle.tame_location.proofs.registries.registry_in.Goals as goal

pub returns-in-Some-clause-ok : goal.returns-in-Some-clause-ok
returns-in-Some-clause-ok g c = λ told.
    let next = indexed (g.F.Files.host c.args.files.now) c.args.paths.now c.args.name.now in
    let is = rw c.in-Some.is at (c.in_ok-index.ensures.ok told) in
    let P : Result HeldUrl Error → Type 0 = λ r. IfOk c.indexed.result (λ found. r ≡ Ok found) in
    subst P (sym (ap (and_then next) is)) (rw (c.in_ok-index.ensures.same told) at (c.indexed.ensures.ok told))

pub returns-in-Some-clause-refused : goal.returns-in-Some-clause-refused
returns-in-Some-clause-refused g c = λ told.
    let next = indexed (g.F.Files.host c.args.files.now) c.args.paths.now c.args.name.now in
    let is = rw c.in-Some.is at (c.in_ok-index.ensures.ok told) in
    let P : Result HeldUrl Error → Type 0 = λ r. IfErr c.indexed.result (λ e. IsTold e → r ≡ Err e) in
    subst P (sym (ap (and_then next) is)) (rw (c.in_ok-index.ensures.same told) at (c.indexed.ensures.refused told))

pub returns-in-Some-clause-failed : goal.returns-in-Some-clause-failed
returns-in-Some-clause-failed g c = λ told.
    let host = g.F.Files.host c.args.files.now in
    let paths = c.args.paths.now in
    let name = c.args.name.now in
    let is = rw c.in-Some.is at (c.in_ok-index.ensures.ok told) in
    let failed = rw (c.in_ok-index.ensures.same told, c.in_ok-index.ensures.failed told) at (c.indexed.ensures.failed told) in
    wider (Contains (reads (replacement name c.in-Some.index) host paths)) (Contains (registry_calls host paths name))
    (asked_by (reads (λ path. index_in name) host paths) (indexed_calls host paths name) (first_answer (λ path. index_in name) host paths) (Some c.in-Some.index) is)
    _ _ HeldUrl c.indexed.result failed

pub returns-in_err-index-clause-failed : goal.returns-in_err-index-clause-failed
returns-in_err-index-clause-failed g c = λ told.
    let host = g.F.Files.host c.args.files.now in
    let paths = c.args.paths.now in
    let name = c.args.name.now in
    let is : c.from_residual.result ≡ Err c.in_err-index.field-0.0 = first_of (search rules, grind (arith, common_steps)) in
    let all = indexed_calls host paths name (first_answer (λ path. index_in name) host paths) in
    rw is (wider_err (Contains (reads (λ path. index_in name) host paths)) (Contains (registry_calls host paths name))
    (λ call h. Contains-append_left (reads (λ path. index_in name) host paths) all call h)
    _ _ _ (c.in_err-index.ensures.failed told))
