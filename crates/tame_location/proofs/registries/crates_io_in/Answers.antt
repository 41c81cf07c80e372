use Rattle.std.proofs.Common.{◌≡◌, Contains, Err, codes, rules, arith}
use Rattle.std.proofs.lemmas.Grind.{common_steps}
use Rattle.std.proofs.lemmas.List.Elements.{Contains-append_left}
use Rattle.tame_location.specs.IndexUrls.{git_index}
use Rattle.tame_location.specs.Registries.{crates_io_calls, variable_calls}
use Rattle.tame_location.specs.Settings.{first_answer, reads, replacement, unless_answered}
use Rattle.tame_location.specs.declared.settings.HeldUrl.{HeldUrl}
use Rattle.tame_location.proofs.Asked.{asked_behind, wider, wider_err}
use Rattle.tame_location.proofs.registries.crates_io_in.Goals as goal

pub returns-in-None-clause-failed : goal.returns-in-None-clause-failed
returns-in-None-clause-failed g c = λ told.
    let host = g.F.Files.host c.args.files.now in
    let paths = c.args.paths.now in
    let answer = replacement (codes "crates-io") git_index in
    let none = rw c.in-None.is at (c.in_ok-found.ensures.ok told) in
    let failed = rw (c.in_ok-found.ensures.same told, c.in_ok-found.ensures.failed told) at (c.crates_io_of.ensures.failed told) in
    wider (Contains (variable_calls host paths)) (Contains (crates_io_calls host paths))
    (asked_behind (reads answer host paths) (variable_calls host paths) (first_answer answer host paths) none) _ _ HeldUrl c.crates_io_of.result failed

pub returns-in_err-found-clause-failed : goal.returns-in_err-found-clause-failed
returns-in_err-found-clause-failed g c = λ told.
    let host = g.F.Files.host c.args.files.now in
    let paths = c.args.paths.now in
    let answer = replacement (codes "crates-io") git_index in
    let is : c.from_residual.result ≡ Err c.in_err-found.field-0.0 = first_of (search rules, grind (arith, common_steps)) in
    let behind = unless_answered (first_answer answer host paths) (variable_calls host paths) in
    rw is (wider_err (Contains (reads answer host paths)) (Contains (crates_io_calls host paths))
    (λ call h. Contains-append_left (reads answer host paths) behind call h)
    _ _ _ (c.in_err-found.ensures.failed told))
