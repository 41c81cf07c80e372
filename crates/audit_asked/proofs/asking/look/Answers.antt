use Rattle.std.proofs.Common.{◌≡◌, Err, Ok, inl, inr, rules, arith}
use Rattle.std.specs.Prelude.{option_map}
use Rattle.std.proofs.lemmas.Grind.{common_steps}
use Rattle.audit_asked.specs.Advisories.{advisories_asked}
use Rattle.audit_asked.specs.Asked.{IsAdvisoriesCall}
use Rattle.audit_asked.specs.Calls.{AddsBy, IsBaselineCall, IsLockfileCall}
use Rattle.audit_asked.specs.KnownFindings.{baseline_asked}
use Rattle.audit_asked.proofs.Widened.{widen_err}
use Rattle.audit_asked.proofs.asking.look.Goals as goal

pub returns-in_err-advisories-clause-failed : goal.returns-in_err-advisories-clause-failed
returns-in_err-advisories-clause-failed g c = λ told.
    let is : c.from_residual-in_err-advisories.result ≡ Err c.in_err-advisories.field-0.0 = first_of (search rules, grind (arith, common_steps)) in
    let h : AddsBy (IsAdvisoriesCall (g.F.Files.host c.args.files.now) c.in_ok-database.database) (g.F.Files.failed c.args.files.now) (g.F.Files.failed c.advisories.new.files) c.in_err-advisories.field-0.0 =
    rw (c.in_ok-database.ensures.same told, c.in_ok-database.ensures.failed told) at (c.in_err-advisories.ensures.failed told) in
    widen_err _ _ _ _ _ c.in_err-advisories.field-0.0 is
    (λ path call k. inr (c.in_ok-database.database, c.in_ok-database.ensures.ok told, inl k)) h

pub returns-in_err-baseline-clause-failed : goal.returns-in_err-baseline-clause-failed
returns-in_err-baseline-clause-failed g c = λ told.
    let is : c.from_residual-in_err-baseline.result ≡ Err c.in_err-baseline.field-0.0 = first_of (search rules, grind (arith, common_steps)) in
    let read : advisories_asked (g.F.Files.host c.args.files.now) c.in_ok-database.database ≡ Ok c.in_ok-advisories.advisories =
    rw (c.in_ok-database.ensures.same told) at (c.in_ok-advisories.ensures.ok told) in
    let h : AddsBy (IsBaselineCall (option_map (λ path. path.now) c.args.named)) (g.F.Files.failed c.args.files.now) (g.F.Files.failed c.baseline.new.files) c.in_err-baseline.field-0.0 =
    rw (c.in_ok-advisories.ensures.failed told, c.in_ok-database.ensures.failed told) at (c.in_err-baseline.ensures.failed told) in
    widen_err _ _ _ _ _ c.in_err-baseline.field-0.0 is
    (λ path call k. inr (c.in_ok-database.database, c.in_ok-database.ensures.ok told, inr (c.in_ok-advisories.advisories, read, inl k))) h

pub returns-in_err-text-clause-failed : goal.returns-in_err-text-clause-failed
returns-in_err-text-clause-failed g c = λ told.
    let is : c.from_residual-in_err-text.result ≡ Err c.in_err-text.field-0.0 = first_of (search rules, grind (arith, common_steps)) in
    let read : advisories_asked (g.F.Files.host c.args.files.now) c.in_ok-database.database ≡ Ok c.in_ok-advisories.advisories =
    rw (c.in_ok-database.ensures.same told) at (c.in_ok-advisories.ensures.ok told) in
    let known : baseline_asked (option_map (λ path. path.now) c.args.named) (g.F.Files.host c.args.files.now) ≡ Ok c.in_ok-baseline.baseline =
    rw (c.in_ok-advisories.ensures.same told, c.in_ok-database.ensures.same told) at (c.in_ok-baseline.ensures.ok told) in
    let h : AddsBy (IsLockfileCall c.args.place.now) (g.F.Files.failed c.args.files.now) (g.F.Files.failed c.input_or_text.new.files) c.in_err-text.field-0.0 =
    rw (c.in_ok-baseline.ensures.failed told, c.in_ok-advisories.ensures.failed told, c.in_ok-database.ensures.failed told) at (c.in_err-text.ensures.failed told) in
    widen_err _ _ _ _ _ c.in_err-text.field-0.0 is
    (λ path call k. inr (c.in_ok-database.database, c.in_ok-database.ensures.ok told, inr (c.in_ok-advisories.advisories, read, inr (c.in_ok-baseline.baseline, known, k)))) h
