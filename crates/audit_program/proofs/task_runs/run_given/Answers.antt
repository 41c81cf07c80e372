use Rattle.std.proofs.Common.{◌≡◌, inl, [], Some, None, Ok, Err, refl, rules, ap, ◌∙◌, arith}
use Rattle.std.proofs.lemmas.Grind.{common_steps}
use Rattle.std.specs.Prelude.{IfSome}
use Rattle.vendor_registry.specs.declared.faults.VendorFault.TheVariants as vendor_fault
use Rattle.audit_core.specs.Checks.{checks_of}
use Rattle.audit_core.specs.declared.auditors.Auditor.{Auditor}
use Rattle.audit_core.proofs.Exchanged.{keeps_nothing}
use Rattle.audit_core.proofs.Left.{asks_nothing, asks_then_read, calls_nothing, calls_then_read}
use Rattle.audit_program.specs.Causes.{IsAuditFault}
use Rattle.audit_remedies.specs.Finishes.{IsFinishFault}
use Rattle.audit_remedies.specs.Faults.{IsEarly}
use Rattle.audit_remedies.specs.Moments.{moment}
use Rattle.audit_remedies.specs.declared.faults.RunFault.{RunFault}
use Rattle.audit_remedies.specs.declared.faults.RunFault.TheVariants as fault
use Rattle.audit_program.proofs.Ended.{ended_from, shown_more}
use Rattle.audit_program.proofs.FaultCases.{ends_with, finish_case, has_fault, late_making, late_memory, late_print, late_start, rose_before, rose_later}
use Rattle.audit_remedies.proofs.Finishing.{started_failed}
use Rattle.audit_program.proofs.GivenEnds.{audit_adds, audit_asked, audit_refused, failed_ends, later_count, no_fault, not_err, of_fault, same_count, unaudited_causes, unaudited_has, unfinished_causes, unmade_causes}
use Rattle.audit_program.proofs.Leaving.{calls_weaker}
use Rattle.audit_program.proofs.Made.{finishing_told, making_told, unmade_started}
use Rattle.audit_program.proofs.Nones.{if_none, none_some}
use Rattle.audit_remedies.proofs.Putting.{put_failed, put_nothing}
use Rattle.audit_program.proofs.ReadSince.{kept_then_read}
use Rattle.audit_program.proofs.task_runs.run_given.Goals as goal

-- ---- without an audit

pub returns-in_default : goal.returns-in_default
returns-in_default g c decodes decode_faults = record {
  audited = none_some c.failed.result.audited _ c.failed.ensures.audited;
  has = unaudited_has c.args.task.now c.failed.result fault.NoMemory c.failed.ensures.fault tt c.failed.ensures.audited c.failed.ensures.binaries c.failed.ensures.plan;
  binaries = c.failed.ensures.binaries;
  generated = c.failed.ensures.generated;
  start_audit = λ failed is. absurd (of_fault IsAuditFault c.failed.result.fault (fault.Start failed) (ends_with IsAuditFault c.failed.result.fault fault.NoMemory c.failed.ensures.fault tt tt) is);
  file_audit = λ path is. absurd (of_fault IsAuditFault c.failed.result.fault (fault.File path) (ends_with IsAuditFault c.failed.result.fault fault.NoMemory c.failed.ensures.fault tt tt) is);
  ends = failed_ends _ c.failed.result fault.NoMemory c.failed.ensures.fault c.failed.ensures.status;
  causes = unaudited_causes c.args.task.now c.args.given _ _ c.failed.result.fault fault.NoMemory c.failed.ensures.fault tt tt;
  later = record { files = same_count _; starts = same_count _; out = same_count _; err = c.failed.ensures.later };
  failed = λ told. making_told c.args.task.now.remedy _ _ fault.NoMemory c.failed.result.fault c.failed.ensures.fault (audit_adds c.args.task.now.remedy _ fault.NoMemory tt);
  unwritten = λ told unwrites. refl;
  unaudited = if_none c.failed.result.audited _ (record {
    files = λ told. refl;
    calls = λ told. refl;
    runner = refl;
    out = refl;
    err = first_of (search rules, grind (arith, common_steps));
    early = λ other. (refl, refl);
  });
  refused = λ r is. (refl, refl);
  kept = λ told_wire told. keeps_nothing (g.W.Wire.exchanges c.args.wire.now) (g.W.Wire.exchanges c.args.wire.now) (g.D.CacheDisk.past c.args.disk.now);
  asks = λ packages is. asks_nothing _ _ _ _;
  calls = calls_nothing _ _ _ _ _ refl (λ unread. refl);
}

pub returns-in-Err : goal.returns-in-Err
returns-in-Err g c decodes decode_faults =
    let checks : c.in-Ok.auditor.checks ≡ checks_of c.args.given.config = ap (λ (a : Auditor). a.checks) c.in-Ok.ensures in
    let f = c.in-Err.fault in
    let only = c.in-Err.ensures.only in
    let end = c.failed-in-Err.ensures.fault in
    let so : IfSome c.failed-in-Err.result.fault IsAuditFault = ends_with IsAuditFault c.failed-in-Err.result.fault f end only tt in
    record {
      audited = none_some c.failed-in-Err.result.audited _ c.failed-in-Err.ensures.audited;
      has = unaudited_has c.args.task.now c.failed-in-Err.result f end only c.failed-in-Err.ensures.audited c.failed-in-Err.ensures.binaries c.failed-in-Err.ensures.plan;
      binaries = c.failed-in-Err.ensures.binaries;
      generated = c.failed-in-Err.ensures.generated;
      start_audit = λ failed is. absurd (of_fault IsAuditFault c.failed-in-Err.result.fault (fault.Start failed) so is);
      file_audit = λ path is. absurd (of_fault IsAuditFault c.failed-in-Err.result.fault (fault.File path) so is);
      ends = failed_ends _ c.failed-in-Err.result f end c.failed-in-Err.ensures.status;
      causes = unaudited_causes c.args.task.now c.args.given _ _ c.failed-in-Err.result.fault f end only
          (audit_asked c.args.task.now c.args.given f only (λ r is. rw c.as_str.ensures at (c.in-Err.ensures.refused r (ap (λ (e : RunFault). Err e) is))));
      later = record { files = same_count _; starts = same_count _; out = same_count _; err = c.failed-in-Err.ensures.later };
      failed = λ told. making_told c.args.task.now.remedy _ _ f c.failed-in-Err.result.fault end (audit_adds c.args.task.now.remedy _ f only);
      unwritten = λ told unwrites. refl;
      unaudited = if_none c.failed-in-Err.result.audited _ (record {
        files = λ told. refl;
        calls = λ told. refl;
        runner = refl;
        out = refl;
        err = λ told. rw c.place-in-Err.ensures at (c.failed-in-Err.ensures.ended told _ _ (put_nothing (g.E.Sink.holds c.args.err.now) (Some f)));
        early = λ other. audit_refused c.failed-in-Err.result.fault f end only (λ r is. c.in-Err.ensures.uncalled r (c.in-Err.ensures.refused r (ap (λ (e : RunFault). Err e) is))) other;
      });
      refused = λ r is. c.in-Err.ensures.uncalled r (rw c.as_str.ensures is);
      kept = c.audit.ensures.kept;
      asks = λ packages is. rw checks at (c.audit.ensures.asks packages (rw c.as_str.ensures is));
      calls = calls_weaker _ _ _ _ _ _ _ (rw checks at c.audit.ensures.calls) (λ same unread. same);
    }

-- ---- if nothing could be made

pub returns-in-Err-made : goal.returns-in-Err-made
returns-in-Err-made g c decodes decode_faults =
    let checks : c.in-Ok.auditor.checks ≡ checks_of c.args.given.config = ap (λ (a : Auditor). a.checks) c.in-Ok.ensures in
    let f = c.in-Err-made.fault in
    let only = c.in-Err-made.ensures.only in
    let end = c.failed-in-Err-made.ensures.fault in
    let Q : RunFault → Type 0 = λ e. IsEarly c.args.task.now.remedy e → (Some c.in-Ok-audit.audited ≡ None) × (c.failed-in-Err-made.result.binaries ≡ None) in
    rw c.with_audit.ensures record {
      audited = record {
        left = moment (g.W.Wire.exchanges c.audit.new.wire) (g.D.CacheDisk.past c.audit.new.disk) (g.W.Wire.faults c.audit.new.wire) (g.D.CacheDisk.faults c.audit.new.disk) (g.D.CacheDisk.failed c.audit.new.disk);
        audit = rw (c.in-Ok.ensures, c.as_str.ensures) at c.in-Ok-audit.ensures.audited;
        it = Err f;
        is_made = rw c.in-Ok.ensures at (c.in-Err-made.ensures.made (g.W.Wire.exchanges c.audit.new.wire) (g.W.Wire.faults c.audit.new.wire));
        statuses = [];
        started = started_failed _ _ _ _ [] f c.failed-in-Err-made.result.fault end (unmade_started g.R.Runner.tells c.args.task.now.remedy (g.R.Runner.starts c.args.runner.now) f only);
        out = λ told. put_failed _ _ _ f c.failed-in-Err-made.result.fault end (put_nothing _ (Some f));
        err = λ told. rw c.place-in-Err-made.ensures at (c.failed-in-Err-made.ensures.ended told _ _ (put_nothing (g.E.Sink.holds c.args.err.now) (Some f)));
        shown = inl refl;
        shown_err = inl refl;
        is_end = record { unmade = end; made = tt; status = tt; plan = refl };
      };
      has = record {
        has = λ how. refl;
        vendor_audit = λ reason is. refl;
        no_audit = ends_with Q c.failed-in-Err-made.result.fault f end (λ early. late_making c.args.task.now.remedy f only early) (λ early. late_memory c.args.task.now.remedy early);
        no_plan = tt;
      };
      binaries = c.failed-in-Err-made.ensures.binaries;
      generated = c.failed-in-Err-made.ensures.generated;
      start_audit = λ failed is. refl;
      file_audit = λ path is. refl;
      ends = failed_ends _ _ f end c.failed-in-Err-made.ensures.status;
      causes = unmade_causes c.args.task.now c.args.given _ _ c.failed-in-Err-made.result.fault f end only
          (λ path is. c.in-Err-made.ensures.file path (ap (λ (e : RunFault). Err e) is))
          (λ path is. c.in-Err-made.ensures.crate_file path (ap (λ (e : RunFault). Err e) is))
          (λ at is. rose_before _ _ _ c.in-Ok-audit.ensures.later (c.in-Err-made.ensures.store at (ap (λ (e : RunFault). Err e) is)));
      later = record { files = c.make-made.ensures.files_later; starts = same_count _; out = same_count _; err = c.failed-in-Err-made.ensures.later };
      failed = λ told. making_told c.args.task.now.remedy _ _ f c.failed-in-Err-made.result.fault end (c.in-Err-made.ensures.failed told);
      unwritten = λ told unwrites. c.make-made.ensures.unwritten told unwrites;
      unaudited = tt;
      refused = λ r is. not_err _ _ _ (rw (c.in-Ok.ensures, c.as_str.ensures) at c.in-Ok-audit.ensures.audited).lockfile is;
      kept = λ told_wire told.
          kept_then_read _ _ (g.D.CacheDisk.past c.args.disk.now) (g.D.CacheDisk.past c.audit.new.disk) (g.D.CacheDisk.past c.make-made.new.disk) (c.audit.ensures.kept told_wire told) (c.make-made.ensures.disk_same told);
      asks = λ packages is.
          asks_then_read _ _ _ _ _ _ (rw checks at (c.audit.ensures.asks packages (rw c.as_str.ensures is))) refl c.make-made.ensures.disk_same c.make-made.ensures.folders_same;
      calls = calls_then_read _ _ _ _ _ _ _ _ (rw checks at c.audit.ensures.calls) c.make-made.ensures.disk_same c.make-made.ensures.folders_same
          (λ same unread. c.make-made.ensures.unread unread ∙ same);
    }

-- ---- if all was done

pub returns-in-Ok-finish : goal.returns-in-Ok-finish
returns-in-Ok-finish g c decodes decode_faults =
    let checks : c.in-Ok.auditor.checks ≡ checks_of c.args.given.config = ap (λ (a : Auditor). a.checks) c.in-Ok.ensures in
    let f = rw (c.in-Ok.ensures, c.as_str-2.ensures, c.as_str-3.ensures) at c.in-Ok-finish.ensures.finished in
    rw (c.with_audit-in-Ok-finish.ensures, c.of_status.ensures) record {
      audited = record {
        left = moment (g.W.Wire.exchanges c.audit.new.wire) (g.D.CacheDisk.past c.audit.new.disk) (g.W.Wire.faults c.audit.new.wire) (g.D.CacheDisk.faults c.audit.new.disk) (g.D.CacheDisk.failed c.audit.new.disk);
        audit = rw (c.in-Ok.ensures, c.as_str.ensures) at c.in-Ok-audit.ensures.audited;
        it = Ok c.in-Ok-made.made;
        is_made = rw c.in-Ok.ensures at (c.in-Ok-made.ensures.made (g.W.Wire.exchanges c.audit.new.wire) (g.W.Wire.faults c.audit.new.wire));
        statuses = f.statuses;
        started = f.started;
        out = λ told. rw (c.in-Ok.ensures, c.as_str-2.ensures, c.as_str-3.ensures) at (c.in-Ok-finish.ensures.out told);
        err = f.put;
        shown = rw (c.in-Ok.ensures, c.as_str-2.ensures, c.as_str-3.ensures) at c.in-Ok-finish.ensures.shown;
        shown_err = rw (c.in-Ok.ensures, c.as_str-2.ensures, c.as_str-3.ensures) at c.in-Ok-finish.ensures.shown_err;
        is_end = record { unmade = tt; made = tt; status = λ none. rw c.in-Ok.ensures at c.in-Ok-finish.ensures.status; plan = c.into_plan.ensures };
      };
      has = record { has = λ how. refl; vendor_audit = λ reason is. refl; no_audit = tt; no_plan = tt };
      binaries = refl;
      generated = refl;
      start_audit = λ failed is. refl;
      file_audit = λ path is. refl;
      ends = record { status = λ e is. no_fault e is; plain = λ none. tt; usage = λ broken is. not_err _ _ _ refl is };
      causes = record {
        cause = tt;
        print_rose = λ is. no_fault fault.Print is;
        file_rose = λ path is. no_fault (fault.File path) is;
        crate_rose = λ path is. no_fault (fault.Vendor (vendor_fault.File path)) is;
        store_rose = λ at is. no_fault (fault.Vendor (vendor_fault.Store at)) is;
        start_rose = λ failed is. no_fault (fault.Start failed) is;
      };
      later = record { files = c.make-made.ensures.files_later; starts = c.in-Ok-finish.ensures.starts_later; out = c.in-Ok-finish.ensures.out_later; err = c.in-Ok-finish.ensures.err_later };
      failed = λ told. c.in-Ok-made.ensures.failed told;
      unwritten = λ told unwrites. c.make-made.ensures.unwritten told unwrites;
      unaudited = tt;
      refused = λ r is. not_err _ _ _ (rw (c.in-Ok.ensures, c.as_str.ensures) at c.in-Ok-audit.ensures.audited).lockfile is;
      kept = λ told_wire told.
          kept_then_read _ _ (g.D.CacheDisk.past c.args.disk.now) (g.D.CacheDisk.past c.audit.new.disk) (g.D.CacheDisk.past c.make-made.new.disk) (c.audit.ensures.kept told_wire told) (c.make-made.ensures.disk_same told);
      asks = λ packages is.
          asks_then_read _ _ _ _ _ _ (rw checks at (c.audit.ensures.asks packages (rw c.as_str.ensures is))) refl c.make-made.ensures.disk_same c.make-made.ensures.folders_same;
      calls = calls_then_read _ _ _ _ _ _ _ _ (rw checks at c.audit.ensures.calls) c.make-made.ensures.disk_same c.make-made.ensures.folders_same
          (λ same unread. c.make-made.ensures.unread unread ∙ same);
    }

-- ---- if it couldn't be finished

pub returns : goal.returns
returns g c decodes decode_faults =
    let checks : c.in-Ok.auditor.checks ≡ checks_of c.args.given.config = ap (λ (a : Auditor). a.checks) c.in-Ok.ensures in
    let f = rw (c.in-Ok.ensures, c.as_str-2.ensures, c.as_str-3.ensures) at c.in-Err-finish.ensures.finished in
    let end = c.failed-in-Err-finish.ensures.fault in
    let remedy = c.args.task.now.remedy in
    let Q : RunFault → Type 0 = λ e. IsEarly remedy e → (Some c.in-Ok-audit.audited ≡ None) × (c.failed-in-Err-finish.result.binaries ≡ None) in
    rw c.with_audit-in-Err-finish.ensures record {
      audited = record {
        left = moment (g.W.Wire.exchanges c.audit.new.wire) (g.D.CacheDisk.past c.audit.new.disk) (g.W.Wire.faults c.audit.new.wire) (g.D.CacheDisk.faults c.audit.new.disk) (g.D.CacheDisk.failed c.audit.new.disk);
        audit = rw (c.in-Ok.ensures, c.as_str.ensures) at c.in-Ok-audit.ensures.audited;
        it = Ok c.in-Ok-made.made;
        is_made = rw c.in-Ok.ensures at (c.in-Ok-made.ensures.made (g.W.Wire.exchanges c.audit.new.wire) (g.W.Wire.faults c.audit.new.wire));
        statuses = f.statuses;
        started = started_failed _ _ _ _ _ c.in-Err-finish.fault c.failed-in-Err-finish.result.fault end f.started;
        out = λ told. c.failed-in-Err-finish.ensures.put _ _ _ (rw (c.in-Ok.ensures, c.as_str-2.ensures, c.as_str-3.ensures) at (c.in-Err-finish.ensures.out told));
        err = λ told.
            ended_from _ _ _ c.failed-in-Err-finish.result.fault _ _ _ _ c.in-Err-finish.ensures.err_later c.failed-in-Err-finish.ensures.later
            (rw c.place-in-Err-finish.ensures at (c.failed-in-Err-finish.ensures.ended told _ _ (f.put told)));
        shown = rw (c.in-Ok.ensures, c.as_str-2.ensures, c.as_str-3.ensures) at c.in-Err-finish.ensures.shown;
        shown_err = shown_more _ _ _ _ _ _ _ _ _ _ (rw (c.in-Ok.ensures, c.as_str-2.ensures, c.as_str-3.ensures) at c.in-Err-finish.ensures.shown_err)
            (λ told. c.failed-in-Err-finish.ensures.ended told _ _ (put_nothing _ (Some c.in-Err-finish.fault)));
        is_end = record {
          unmade = tt;
          made = ends_with IsFinishFault c.failed-in-Err-finish.result.fault c.in-Err-finish.fault end c.in-Err-finish.ensures.only tt;
          status = λ none. has_fault c.in-Err-finish.fault c.failed-in-Err-finish.result.fault end none;
          plan = c.into_plan-in-Err-finish.ensures;
        };
      };
      has = record {
        has = λ how. refl;
        vendor_audit = λ reason is. refl;
        no_audit = ends_with Q c.failed-in-Err-finish.result.fault c.in-Err-finish.fault end
            (finish_case Q c.in-Err-finish.fault c.in-Err-finish.ensures.only (λ early. late_print remedy early) (λ failed some early. late_start remedy failed early) (λ early. late_memory remedy early))
            (λ early. late_memory remedy early);
        no_plan = tt;
      };
      binaries = c.failed-in-Err-finish.ensures.binaries;
      generated = c.failed-in-Err-finish.ensures.generated;
      start_audit = λ failed is. refl;
      file_audit = λ path is. refl;
      ends = failed_ends _ _ c.in-Err-finish.fault end c.failed-in-Err-finish.ensures.status;
      causes = unfinished_causes c.args.task.now c.args.given _ _ c.failed-in-Err-finish.result.fault c.in-Err-finish.fault end c.in-Err-finish.ensures.only
          (λ is. rose_later _ _ _ _ _ (c.in-Err-finish.ensures.print_rose (ap (λ (e : RunFault). Err e) is)) c.failed-in-Err-finish.ensures.later)
          (λ failed is. c.in-Err-finish.ensures.start_rose failed (ap (λ (e : RunFault). Err e) is));
      later = record {
        files = c.make-made.ensures.files_later;
        starts = c.in-Err-finish.ensures.starts_later;
        out = c.in-Err-finish.ensures.out_later;
        err = later_count _ _ _ c.in-Err-finish.ensures.err_later c.failed-in-Err-finish.ensures.later;
      };
      failed = λ told. finishing_told remedy _ _ c.in-Err-finish.fault c.failed-in-Err-finish.result.fault end c.in-Err-finish.ensures.only (c.in-Ok-made.ensures.failed told);
      unwritten = λ told unwrites. c.make-made.ensures.unwritten told unwrites;
      unaudited = tt;
      refused = λ r is. not_err _ _ _ (rw (c.in-Ok.ensures, c.as_str.ensures) at c.in-Ok-audit.ensures.audited).lockfile is;
      kept = λ told_wire told.
          kept_then_read _ _ (g.D.CacheDisk.past c.args.disk.now) (g.D.CacheDisk.past c.audit.new.disk) (g.D.CacheDisk.past c.make-made.new.disk) (c.audit.ensures.kept told_wire told) (c.make-made.ensures.disk_same told);
      asks = λ packages is.
          asks_then_read _ _ _ _ _ _ (rw checks at (c.audit.ensures.asks packages (rw c.as_str.ensures is))) refl c.make-made.ensures.disk_same c.make-made.ensures.folders_same;
      calls = calls_then_read _ _ _ _ _ _ _ _ (rw checks at c.audit.ensures.calls) c.make-made.ensures.disk_same c.make-made.ensures.folders_same
          (λ same unread. c.make-made.ensures.unread unread ∙ same);
    }
