use Rattle.std.proofs.Common.{◌≡◌, [], Some, Err, length, rules, arith}
use Rattle.std.proofs.lemmas.Grind.{common_steps}
use Rattle.audit_remedies.specs.declared.faults.RunFault.TheVariants as fault
use Rattle.report_parts.proofs.Puts.{part_none}
use Rattle.audit_remedies.specs.Faults.{by_print}
use Rattle.audit_remedies.specs.Finishes.{end_of}
use Rattle.audit_remedies.specs.Statuses.{fix_plan_of}
use Rattle.audit_remedies.proofs.FaultCases.{is_print}
use Rattle.audit_remedies.proofs.Finishing.{all_printing, lines_put, part_nothing, partly_started}
use Rattle.audit_remedies.proofs.Putting.{put_memory, put_part}
use Rattle.audit_remedies.proofs.fix_runs.fix.Goals as goal

pub returns-in_err-plan-clause-fixed : goal.returns-in_err-plan-clause-fixed
returns-in_err-plan-clause-fixed g c =
    let is : c.from_residual.result ≡ Err fault.NoMemory = first_of (search rules, grind (arith, common_steps)) in
    rw is record {
      statuses = [];
      started = partly_started _ _ _ _ fault.NoMemory tt (λ told. part_nothing _ _);
      put = λ told. put_memory _ _ _ (part_none _ _);
    }

pub returns-in_err-statuses-clause-fixed : goal.returns-in_err-statuses-clause-fixed
returns-in_err-statuses-clause-fixed g c =
    let is : c.from_residual-in_err-statuses.result ≡ Err fault.NoMemory = first_of (search rules, grind (arith, common_steps)) in
    rw is record {
      statuses = [];
      started = partly_started _ _ _ _ fault.NoMemory tt (λ told. rw (c.in_ok-plan.ensures.plan, c.database.ensures) at (c.in_err-statuses.ensures.part told));
      put = λ told. put_memory _ _ _ (part_none _ _);
    }

pub returns-clause-fixed : goal.returns-clause-fixed
returns-clause-fixed g c =
    let each : length c.in_ok-statuses.statuses ≡ length (fix_plan_of c.args.dry_run c.args.sheet.now.auditor.now.database c.args.sheet.now.audited.now).steps =
    rw (c.in_ok-plan.ensures.plan, c.database.ensures) at c.in_ok-statuses.ensures.one_each in
    record {
      statuses = c.in_ok-statuses.statuses;
      started = search rules;
      put = λ told.
          let h = rw c.as_slice.ensures at (c.in_ok-put_lines.ensures.put told) in
          lines_put _ c.in_ok-statuses.statuses _ _ _ (end_of c.fix_ended.result) each (record { part = h.part; whole = λ w. h.whole });
    }

pub returns-in_err-put_lines-clause-fixed : goal.returns-in_err-put_lines-clause-fixed
returns-in_err-put_lines-clause-fixed g c =
    let is : c.from_residual-in_err-put_lines.result ≡ Err (by_print c.in_err-put_lines.field-0.0) = first_of (search rules, grind (arith, common_steps)) in
    let each : length c.in_ok-statuses.statuses ≡ length (fix_plan_of c.args.dry_run c.args.sheet.now.auditor.now.database c.args.sheet.now.audited.now).steps =
    rw (c.in_ok-plan.ensures.plan, c.database.ensures) at c.in_ok-statuses.ensures.one_each in
    rw is record {
      statuses = c.in_ok-statuses.statuses;
      started = all_printing _ _ _ _ _ (by_print c.in_err-put_lines.field-0.0) (is_print c.in_err-put_lines.field-0.0) each
          (λ told. rw (c.in_ok-plan.ensures.plan, c.database.ensures) at (c.in_ok-statuses.ensures.started told));
      put = λ told.
          let h = rw c.as_slice.ensures at (c.in_err-put_lines.ensures.put told) in
          lines_put _ c.in_ok-statuses.statuses _ _ _ (Some (by_print c.in_err-put_lines.field-0.0)) each (put_part _ _ _ (by_print c.in_err-put_lines.field-0.0) (is_print c.in_err-put_lines.field-0.0) h.part);
    }
