use Rattle.std.proofs.Common.{refl, ap, ◌∙◌, arith}
use Rattle.audit_report.specs.declared.presenters.Presenter.{Presenter}
use Rattle.audit_output.specs.BinaryOutputs.{binaries_shown_on}
use Rattle.audit_output.specs.Outputs.{Output}
use Rattle.audit_output.proofs.Each.{printed_end, printed_next, printed_none}
use Rattle.audit_output.proofs.Reaching.{reached_all, reached_next, reached_part}
use Rattle.audit_output.proofs.binary_printing.print_each.Goals as goal

pub returns-in_default-clause-out : goal.returns-in_default-clause-out
returns-in_default-clause-out g c told =
    let none = printed_none c.args.verdicts (binaries_shown_on c.args.sheet.now) c.loop-path.presenter _ c.loop-path.answers.now c.in_default.ensures.cases in
    reached_all _ _ _ _ _ (c.loop-path.invariant.out told) (ap (λ (o : Output). o.out) none)

pub returns-in_default-clause-err : goal.returns-in_default-clause-err
returns-in_default-clause-err g c told =
    let none = printed_none c.args.verdicts (binaries_shown_on c.args.sheet.now) c.loop-path.presenter _ c.loop-path.answers.now c.in_default.ensures.cases in
    reached_all _ _ _ _ _ (c.loop-path.invariant.err told) (ap (λ (o : Output). o.err) none)

pub returns-in_err-print_binary-clause-out : goal.returns-in_err-print_binary-clause-out
returns-in_err-print_binary-clause-out g c told =
    let next = printed_next c.args.verdicts (binaries_shown_on c.args.sheet.now) c.loop-path.presenter _ c.args.sheet.now.paths.now c.loop-path.path-index c.loop-path.answers.now c.path-item.result c.in-Some.answer.now c.in-Some.left.now c.loop-path-test.true c.path-item.is c.in-Some.ensures.cases.0 refl in
    reached_part _ _ _ _ _ _ _ _ _ (c.loop-path.invariant.out told) (ap (λ (o : Output). o.out) next) (rw c.as_str.ensures at (c.in_err-print_binary.ensures.out told)) c.from_residual.ensures.0

pub returns-in_err-print_binary-clause-err : goal.returns-in_err-print_binary-clause-err
returns-in_err-print_binary-clause-err g c told =
    let next = printed_next c.args.verdicts (binaries_shown_on c.args.sheet.now) c.loop-path.presenter _ c.args.sheet.now.paths.now c.loop-path.path-index c.loop-path.answers.now c.path-item.result c.in-Some.answer.now c.in-Some.left.now c.loop-path-test.true c.path-item.is c.in-Some.ensures.cases.0 refl in
    reached_part _ _ _ _ _ _ _ _ _ (c.loop-path.invariant.err told) (ap (λ (o : Output). o.err) next) (rw c.as_str.ensures at (c.in_err-print_binary.ensures.err told)) c.from_residual.ensures.0

pub loop-path-preserved : goal.loop-path-preserved
loop-path-preserved g c =
    let inv = c.loop-path.invariant in
    let does = c.in_ok-print_binary.ensures in
    let next = printed_next c.args.verdicts (binaries_shown_on c.args.sheet.now) c.loop-path.presenter c.print_binary.new.presenter c.args.sheet.now.paths.now c.loop-path.path-index c.loop-path.answers.now c.path-item.result c.in-Some.answer.now c.in-Some.left.now c.loop-path-test.true c.path-item.is c.in-Some.ensures.cases.0 (rw c.as_str.ensures at does.shown) in
    record {
      reports = (rw c.in-Some.ensures.cases.0 at inv.reports).1;
      out = λ told. reached_next _ _ _ _ _ _ _ (inv.out told) (ap (λ (o : Output). o.out) next) (rw c.as_str.ensures at (does.out told)).whole;
      err = λ told. reached_next _ _ _ _ _ _ _ (inv.err told) (ap (λ (o : Output). o.err) next) (rw c.as_str.ensures at (does.err told)).whole;
      out_later = omega (arith, inv.out_later, does.out_later);
      err_later = omega (arith, inv.err_later, does.err_later);
      config = ap (λ (p : Presenter). p.config) does.shown ∙ inv.config;
    }

pub returns-clause-out : goal.returns-clause-out
returns-clause-out g c told =
    reached_all _ _ _ _ _ (c.loop-path.invariant.out told) (ap (λ (o : Output). o.out) (printed_end c.args.verdicts (binaries_shown_on c.args.sheet.now) c.loop-path.presenter c.args.sheet.now.paths.now c.loop-path.path-index c.loop-path.answers.now (omega (arith, c.loop-path-test.false))))

pub returns-clause-err : goal.returns-clause-err
returns-clause-err g c told =
    reached_all _ _ _ _ _ (c.loop-path.invariant.err told) (ap (λ (o : Output). o.err) (printed_end c.args.verdicts (binaries_shown_on c.args.sheet.now) c.loop-path.presenter c.args.sheet.now.paths.now c.loop-path.path-index c.loop-path.answers.now (omega (arith, c.loop-path-test.false))))
