use Rattle.std.proofs.Common.{◌≡◌, None, Ok, Err, refl, rules, arith}
use Rattle.std.proofs.lemmas.Grind.{common_steps}
use Rattle.audit_remedies.specs.Faults.{by_print}
use Rattle.audit_remedies.proofs.FaultCases.{is_print}
use Rattle.audit_remedies.proofs.Finishing.{unfixed_finished}
use Rattle.audit_remedies.proofs.Putting.{put_all, put_nothing, put_part}
use Rattle.audit_remedies.proofs.finishes.finish.Goals as goal

pub returns-in_err-print-in-Report-clause-finished :
    goal.returns-in_err-print-in-Report-clause-finished
returns-in_err-print-in-Report-clause-finished g c =
    let e = c.in_err-print-in-Report.field-0.0 in
    let is : c.from_residual.result ≡ Err (by_print e) = first_of (search rules, grind (arith, common_steps)) in
    rw (is, c.in-Report.is) (unfixed_finished _ _ _ _ _ _ _ (Err (by_print e)) refl refl (is_print e) (λ told. (put_part _ _ _ (by_print e) (is_print e) (c.in_err-print-in-Report.ensures.err told).part)))

pub returns-in_ok-print-in-Report-clause-finished :
    goal.returns-in_ok-print-in-Report-clause-finished
returns-in_ok-print-in-Report-clause-finished g c =
    rw c.in-Report.is (unfixed_finished _ _ _ _ _ _ _ (Ok c.args.sheet.now.audited.now.exit) refl refl tt (λ told. (put_all _ _ _ None (c.in_ok-print-in-Report.ensures.err told).whole)))

pub returns-in_err-put_plan-in-Planned-clause-finished :
    goal.returns-in_err-put_plan-in-Planned-clause-finished
returns-in_err-put_plan-in-Planned-clause-finished g c =
    let e = c.in_err-put_plan-in-Planned.field-0.0 in
    let is : c.from_residual-in_err-put_plan-in-Planned.result ≡ Err (by_print e) = first_of (search rules, grind (arith, common_steps)) in
    rw (is, c.in-Planned.is) (unfixed_finished _ _ _ _ _ _ _ (Err (by_print e)) refl refl (is_print e) (λ told. (put_nothing _ _)))

pub returns-in_ok-put_plan-in-Planned-clause-finished :
    goal.returns-in_ok-put_plan-in-Planned-clause-finished
returns-in_ok-put_plan-in-Planned-clause-finished g c =
    rw c.in-Planned.is (unfixed_finished _ _ _ _ _ _ _ (Ok c.plan_status.result) refl refl tt (λ told. (put_nothing _ _)))

pub returns-in_err-put_findings-in-Unlisted-clause-finished :
    goal.returns-in_err-put_findings-in-Unlisted-clause-finished
returns-in_err-put_findings-in-Unlisted-clause-finished g c =
    let e = c.in_err-put_findings-in-Unlisted.field-0.0 in
    let is : c.from_residual-in_err-put_findings-in-Unlisted.result ≡ Err (by_print e) = first_of (search rules, grind (arith, common_steps)) in
    rw (is, c.in-Unlisted.is) (unfixed_finished _ _ _ _ _ _ _ (Err (by_print e)) refl refl (is_print e) (λ told. (put_nothing _ _)))

pub returns-in_ok-put_findings-in-Unlisted-clause-finished :
    goal.returns-in_ok-put_findings-in-Unlisted-clause-finished
returns-in_ok-put_findings-in-Unlisted-clause-finished g c =
    rw c.in-Unlisted.is (unfixed_finished _ _ _ _ _ _ _ (Ok c.gate_status.result) refl refl tt (λ told. (put_nothing _ _)))

pub returns-in-Written-clause-finished :
    goal.returns-in-Written-clause-finished
returns-in-Written-clause-finished g c =
    rw c.in-Written.is (unfixed_finished _ _ _ _ _ _ _ (Ok 0) refl refl tt (λ told. (put_nothing _ _)))

pub returns-in_err-put_registry-in-Vendored-clause-finished :
    goal.returns-in_err-put_registry-in-Vendored-clause-finished
returns-in_err-put_registry-in-Vendored-clause-finished g c =
    let e = c.in_err-put_registry-in-Vendored.field-0.0 in
    let is : c.from_residual-in_err-put_registry-in-Vendored.result ≡ Err (by_print e) = first_of (search rules, grind (arith, common_steps)) in
    rw (is, c.in-Vendored.is) (unfixed_finished _ _ _ _ _ _ _ (Err (by_print e)) refl refl (is_print e) (λ told. (put_nothing _ _)))

pub returns-in_ok-put_registry-in-Vendored-clause-finished :
    goal.returns-in_ok-put_registry-in-Vendored-clause-finished
returns-in_ok-put_registry-in-Vendored-clause-finished g c =
    rw c.in-Vendored.is (unfixed_finished _ _ _ _ _ _ _ (Ok 0) refl refl tt (λ told. (put_nothing _ _)))
