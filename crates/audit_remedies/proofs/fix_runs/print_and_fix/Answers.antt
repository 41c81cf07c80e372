use Rattle.std.proofs.Common.{◌≡◌, [], Err, inr, rules, arith}
use Rattle.std.proofs.lemmas.Grind.{common_steps}
use Rattle.audit_remedies.specs.Faults.{by_print}
use Rattle.audit_remedies.specs.Finishes.{end_of}
use Rattle.audit_remedies.proofs.FaultCases.{is_print}
use Rattle.audit_remedies.proofs.Finishing.{part_nothing, partly_started}
use Rattle.audit_remedies.proofs.Putting.{first_put, put_behind, put_first}
use Rattle.audit_remedies.proofs.fix_runs.print_and_fix.Goals as goal

pub returns-in_err-print-clause-finished : goal.returns-in_err-print-clause-finished
returns-in_err-print-clause-finished g c =
    let is : c.from_residual.result ≡ Err (by_print c.in_err-print.field-0.0) = first_of (search rules, grind (arith, common_steps)) in
    rw is record {
      statuses = [];
      started = partly_started _ _ _ _ (by_print c.in_err-print.field-0.0) (is_print c.in_err-print.field-0.0) (λ told. part_nothing _ _);
      put = λ told. put_first _ _ _ _ (by_print c.in_err-print.field-0.0) (is_print c.in_err-print.field-0.0) (c.in_err-print.ensures.err told).part;
    }

pub returns-clause-finished : goal.returns-clause-finished
returns-clause-finished g c =
    let f = c.fix.ensures.fixed in
    record {
      statuses = f.statuses;
      started = f.started;
      put = λ told. put_behind _ _ _ _ _ (end_of c.fix.result) (c.in_ok-print.ensures.err told).whole (f.put told);
    }

pub returns-clause-shown : goal.returns-clause-shown
returns-clause-shown g c = inr (λ told. (c.in_ok-print.ensures.out told).whole)

pub returns-clause-shown_err : goal.returns-clause-shown_err
returns-clause-shown_err g c = inr (λ told. first_put (g.E.Sink.holds c.args.err.now) _ (g.E.Sink.holds c.print.new.err) _ (g.E.Sink.holds c.fix.new.err) (c.in_ok-print.ensures.err told).whole (c.fix.ensures.fixed.put told).part)
