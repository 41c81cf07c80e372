use Rattle.std.proofs.Common.{◌≡◌, Err, Ok, inl, inr, refl, ap, rules, arith}
use Rattle.std.specs.Prelude.{option_map}
use Rattle.std.proofs.lemmas.Grind.{common_steps}
use Rattle.audit_asked.specs.Asked.{generates, IsTextsCall}
use Rattle.audit_asked.specs.Calls.{AddsBy, AddsFailed, IsPlaceCall, IsSettingsCall}
use Rattle.audit_asked.specs.Places.{is_to_generate, place_of}
use Rattle.audit_asked.specs.Settings.{settled}
use Rattle.audit_asked.specs.Starts.{RunStartsWhere}
use Rattle.audit_asked.proofs.Starting.{early, late, placed, quiet_cause}
use Rattle.audit_asked.proofs.Widened.{beside, widen, widen_err}
use Rattle.audit_asked.proofs.asking.ask.Goals as goal

pub returns-in_err-config-clause-started : goal.returns-in_err-config-clause-started
returns-in_err-config-clause-started g c = λ told told_starts.
    let is : c.from_residual.result ≡ Err c.in_err-config.field-0.0 = first_of (search rules, grind (arith, common_steps)) in
    early (generates c.args.command.now (g.F.Files.host c.args.files.now) (settled c.args.command.now (g.F.Files.host c.args.files.now)))
    _ _ c.in_err-config.field-0.0 is c.in_err-config.ensures.only (λ t. rw (c.in_err-config.ensures.refused told t))

pub returns-in_err-config-clause-start_cause : goal.returns-in_err-config-clause-start_cause
returns-in_err-config-clause-start_cause g c =
    let is : c.from_residual.result ≡ Err c.in_err-config.field-0.0 = first_of (search rules, grind (arith, common_steps)) in
    rw is (quiet_cause _ _ (Err c.in_err-config.field-0.0) (omega arith) c.in_err-config.ensures.only)

pub returns-in_err-place-clause-only : goal.returns-in_err-place-clause-only
returns-in_err-place-clause-only g c =
    let is : c.from_residual-in_err-place.result ≡ Err c.in_err-place.field-0.0 = first_of (search rules, grind (arith, common_steps)) in
    rw is (c.in_err-place.ensures.only (option_map (λ path. path.now) c.args.named))

pub returns-in_err-place-clause-failed : goal.returns-in_err-place-clause-failed
returns-in_err-place-clause-failed g c = λ told.
    let is : c.from_residual-in_err-place.result ≡ Err c.in_err-place.field-0.0 = first_of (search rules, grind (arith, common_steps)) in
    let h : AddsBy (IsPlaceCall c.args.command.now.file (g.F.Files.host c.args.files.now)) (g.F.Files.failed c.args.files.now) (g.F.Files.failed c.place.new.files) c.in_err-place.field-0.0 =
    rw (c.path_of.ensures, c.in_ok-config.ensures.same told, c.in_ok-config.ensures.failed told) at (c.in_err-place.ensures.failed told) in
    widen_err _ _ _ _ _ c.in_err-place.field-0.0 is (λ path call k. inr (c.in_ok-config.config, c.in_ok-config.ensures.ok told, inl k)) h

pub returns-clause-started : goal.returns-clause-started
returns-clause-started g c = λ told told_starts.
    let h : RunStartsWhere (is_to_generate c.args.command.now.file (g.F.Files.host c.args.files.now)) (g.R.Runner.starts c.args.runner.now) (g.R.Runner.starts c.place.new.runner) (Ok c.in_ok-place.place) =
    rw (c.path_of.ensures, c.in_ok-config.ensures.same told) at (c.in_ok-place.ensures.started told told_starts) in
    rw (c.in_ok-config.ensures.ok told) (late (option_map (λ path. path.now) c.args.named) _ _ _ c.in_ok-place.place c.texts.result c.texts.ensures.only h)

pub returns-clause-failed : goal.returns-clause-failed
returns-clause-failed g c = λ told.
    let placed : c.in_ok-place.place ≡ place_of c.args.command.now.file = rw c.path_of.ensures at c.in_ok-place.ensures.place in
    let h : AddsFailed (IsTextsCall (g.F.Files.host c.args.files.now) c.in_ok-config.config (option_map (λ path. path.now) c.args.named) c.in_ok-place.place) (g.F.Files.failed c.args.files.now) (g.F.Files.failed c.texts.new.files) c.texts.result =
    rw (c.in_ok-place.ensures.same told, c.in_ok-config.ensures.same told, c.in_ok-place.ensures.failed told, c.in_ok-config.ensures.failed told) at (c.texts.ensures.failed told) in
    widen _ _ _ _ c.texts.result (λ path call k. inr (c.in_ok-config.config, c.in_ok-config.ensures.ok told, inr (rw (← placed) k))) h

pub returns-in_err-config-clause-ordered : goal.returns-in_err-config-clause-ordered
returns-in_err-config-clause-ordered g c = λ told told_starts.
    let is : c.from_residual.result ≡ Err c.in_err-config.field-0.0 = first_of (search rules, grind (arith, common_steps)) in
    let h : AddsBy (IsSettingsCall (g.F.Files.host c.args.files.now)) (g.F.Files.failed c.args.files.now) (g.F.Files.failed c.settled.new.files) c.in_err-config.field-0.0 = c.in_err-config.ensures.failed told in
    widen_err _ _ _ _ _ c.in_err-config.field-0.0 is (λ path call k. inl (k, refl)) h

pub returns-in_err-place-clause-ordered : goal.returns-in_err-place-clause-ordered
returns-in_err-place-clause-ordered g c = λ told told_starts.
    let is : c.from_residual-in_err-place.result ≡ Err c.in_err-place.field-0.0 = first_of (search rules, grind (arith, common_steps)) in
    let h : AddsBy (IsPlaceCall c.args.command.now.file (g.F.Files.host c.args.files.now)) (g.F.Files.failed c.args.files.now) (g.F.Files.failed c.place.new.files) c.in_err-place.field-0.0 =
    rw (c.path_of.ensures, c.in_ok-config.ensures.same told, c.in_ok-config.ensures.failed told) at (c.in_err-place.ensures.failed told) in
    widen_err _ _ _ _ _ c.in_err-place.field-0.0 is (λ path call k. inr (c.in_ok-config.config, c.in_ok-config.ensures.ok told, inl k))
    (beside (g.R.Runner.starts c.place.new.runner ≡ g.R.Runner.starts c.args.runner.now) _ _ _ c.in_err-place.field-0.0 (λ path same. c.in_err-place.ensures.unstarted told told_starts path (ap Err same)) h)

pub returns-clause-ordered : goal.returns-clause-ordered
returns-clause-ordered g c = λ told told_starts.
    let named : c.in_ok-place.place ≡ place_of c.args.command.now.file = rw c.path_of.ensures at c.in_ok-place.ensures.place in
    let begun : RunStartsWhere (is_to_generate c.args.command.now.file (g.F.Files.host c.args.files.now)) (g.R.Runner.starts c.args.runner.now) (g.R.Runner.starts c.place.new.runner) (Ok c.in_ok-place.place) =
    rw (c.path_of.ensures, c.in_ok-config.ensures.same told) at (c.in_ok-place.ensures.started told told_starts) in
    let h : AddsFailed (IsTextsCall (g.F.Files.host c.args.files.now) c.in_ok-config.config (option_map (λ path. path.now) c.args.named) c.in_ok-place.place) (g.F.Files.failed c.args.files.now) (g.F.Files.failed c.texts.new.files) c.texts.result =
    rw (c.in_ok-place.ensures.same told, c.in_ok-config.ensures.same told, c.in_ok-place.ensures.failed told, c.in_ok-config.ensures.failed told) at (c.texts.ensures.failed told) in
    widen _ _ _ _ c.texts.result (λ path call k. inr (c.in_ok-config.config, c.in_ok-config.ensures.ok told, inr (rw (← named) k, placed _ _ _ c.in_ok-place.place begun))) h
