use Rattle.std.proofs.Common.{◌≡◌, Err, inr, rules, arith}
use Rattle.std.proofs.lemmas.Grind.{common_steps}
use Rattle.audit_asked.specs.Asked.{IsAdvisoriesCall}
use Rattle.audit_asked.specs.Calls.{AddsBy}
use Rattle.audit_asked.proofs.Widened.{widen_err}
use Rattle.audit_asked.proofs.binaries.advised.Goals as goal

pub returns-in_err-advisories-clause-failed : goal.returns-in_err-advisories-clause-failed
returns-in_err-advisories-clause-failed g c = λ told.
    let is : c.from_residual-in_err-advisories.result ≡ Err c.in_err-advisories.field-0.0 = first_of (search rules, grind (arith, common_steps)) in
    let h : AddsBy (IsAdvisoriesCall (g.F.Files.host c.args.files.now) c.in_ok-database.database) (g.F.Files.failed c.args.files.now) (g.F.Files.failed c.advisories.new.files) c.in_err-advisories.field-0.0 =
    rw (c.in_ok-database.ensures.same told, c.in_ok-database.ensures.failed told) at (c.in_err-advisories.ensures.failed told) in
    widen_err _ _ _ _ _ c.in_err-advisories.field-0.0 is
    (λ path call k. inr (c.in_ok-database.database, c.in_ok-database.ensures.ok told, k)) h
