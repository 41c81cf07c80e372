use Rattle.std.proofs.Common.{◌≡◌, ◌∷◌, [], Bool, Contains, List, Option, Err, subst, rules, arith}
use Rattle.std.proofs.lemmas.Grind.{common_steps}
use Rattle.std.proofs.lemmas.List.Elements.{Contains-append_right}
use Rattle.tame_names.specs.Standing.{Host}
use Rattle.tame_names.specs.declared.host.FailedCall.{FailedCall}
use Rattle.tame_location.specs.Calls.{AddsBy, env_call}
use Rattle.tame_location.specs.Registries.{protocol_calls, protocol_set, protocol_variable, variable_calls}
use Rattle.tame_location.proofs.Asked.{wider_err}
use Rattle.tame_location.proofs.registries.crates_io_of.Goals as goal

pub returns-in_err-sparse-clause-failed : goal.returns-in_err-sparse-clause-failed
returns-in_err-sparse-clause-failed g c = λ told.
    let host = g.F.Files.host c.args.files.now in
    let paths = c.args.paths.now in
    let set = protocol_set (host.environment protocol_variable) in
    let adds : Host → List FailedCall → Type 0
    = λ h before. AddsBy (Contains (protocol_calls c.in_ok-set.set h paths)) before (g.F.Files.failed c.is_sparse_by.new.files) c.in_err-sparse.field-0.0 in
    let told_there : adds (g.F.Files.host c.asked_protocol.new.files) (g.F.Files.failed c.asked_protocol.new.files) = c.in_err-sparse.ensures.failed told in
    let H : Host → Type 0 = λ h. adds h (g.F.Files.failed c.asked_protocol.new.files) in
    let failed : adds host (g.F.Files.failed c.args.files.now) = subst (adds host) (c.in_ok-set.ensures.failed told) (subst H (c.in_ok-set.ensures.same told) told_there) in
    let is : c.from_residual-in_err-sparse.result ≡ Err c.in_err-sparse.field-0.0 = first_of (search rules, grind (arith, common_steps)) in
    let among : (call : FailedCall) → Contains (protocol_calls c.in_ok-set.set host paths) call → Contains (variable_calls host paths) call
    = λ call h.
    let P : Option Bool → Type 0 = λ s. Contains (protocol_calls s host paths) call in
    Contains-append_right (env_call protocol_variable ∷ []) (protocol_calls set host paths) call (subst P (c.in_ok-set.ensures.ok told) h) in
    rw is (wider_err (Contains (protocol_calls c.in_ok-set.set host paths)) (Contains (variable_calls host paths)) among _ _ _ failed)
