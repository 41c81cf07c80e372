use Rattle.std.proofs.Common.{Some, None, Err, refl, rules, ap, arith}
use Rattle.std.proofs.lemmas.Grind.{common_steps}
use Rattle.audit_core.proofs.Exchanged.{keeps_nothing}
use Rattle.audit_core.proofs.Left.{calls_nothing}
use Rattle.audit_output.specs.declared.putting.PrintFault.{PrintFault}
use Rattle.vendor_registry.specs.declared.faults.VendorFault.TheVariants as vendor_fault
use Rattle.audit_remedies.specs.Faults.{by_print}
use Rattle.audit_remedies.specs.declared.faults.RunFault.TheVariants as fault
use Rattle.audit_program.proofs.Ended.{ended_from}
use Rattle.audit_program.proofs.FaultCases.{has_fault, memory_no_print, rose_later}
use Rattle.audit_remedies.proofs.FaultCases.{is_print}
use Rattle.audit_program.proofs.GivenEnds.{failed_ends, no_answer, no_fault, not_err, print_causes, put_failed_of}
use Rattle.audit_program.proofs.Nones.{if_none, none_some}
use Rattle.audit_remedies.proofs.Putting.{put_all, put_nothing, put_part}
use Rattle.audit_program.proofs.Readings.{nothing_done}
use Rattle.audit_program.proofs.Reported.{all_reported}
use Rattle.audit_program.proofs.binary_runs.run_asked.Goals as goal

-- ---- if out of memory

pub returns-in_default : goal.returns-in_default
returns-in_default g c starts start_faults = record {
  binaries = none_some c.failed.result.binaries _ c.failed.ensures.binaries;
  audited = c.failed.ensures.audited;
  generated = c.failed.ensures.generated;
  plan = c.failed.ensures.plan;
  ends = failed_ends _ c.failed.result fault.NoMemory c.failed.ensures.fault c.failed.ensures.status;
  has = λ how. no_answer c.failed.result.fault c.failed.ensures.fault how;
  out = if_none c.failed.result.binaries _ refl;
  err = λ told. if_none c.failed.result.binaries _ (c.failed.ensures.ended told _ _ (put_nothing (g.E.Sink.holds c.args.err.now) (Some fault.NoMemory)));
  partly = if_none c.failed.result.binaries _ (nothing_done _ _ _ _);
  causes = print_causes _ _ c.failed.result.fault fault.NoMemory c.failed.ensures.fault tt (λ is. absurd (memory_no_print is));
  files = λ told. refl;
  kept = λ told_wire told. keeps_nothing (g.W.Wire.exchanges c.args.wire.now) (g.W.Wire.exchanges c.args.wire.now) (g.D.CacheDisk.past c.args.disk.now);
  calls = calls_nothing _ _ _ _ _ refl refl;
}

pub returns-in_default-audit_binaries : goal.returns-in_default-audit_binaries
returns-in_default-audit_binaries g c starts start_faults =
    let done = c.audit_binaries.ensures in
    record {
      binaries = none_some c.failed-in_default-audit_binaries.result.binaries _ c.failed-in_default-audit_binaries.ensures.binaries;
      audited = c.failed-in_default-audit_binaries.ensures.audited;
      generated = c.failed-in_default-audit_binaries.ensures.generated;
      plan = c.failed-in_default-audit_binaries.ensures.plan;
      ends = failed_ends _ c.failed-in_default-audit_binaries.result fault.NoMemory c.failed-in_default-audit_binaries.ensures.fault c.failed-in_default-audit_binaries.ensures.status;
      has = λ how. no_answer c.failed-in_default-audit_binaries.result.fault c.failed-in_default-audit_binaries.ensures.fault how;
      out = if_none c.failed-in_default-audit_binaries.result.binaries _ refl;
      err = λ told. if_none c.failed-in_default-audit_binaries.result.binaries _ (c.failed-in_default-audit_binaries.ensures.ended told _ _ (put_nothing (g.E.Sink.holds c.args.err.now) (Some fault.NoMemory)));
      partly = first_of (search rules, grind (arith, common_steps));
      causes = print_causes _ _ c.failed-in_default-audit_binaries.result.fault fault.NoMemory c.failed-in_default-audit_binaries.ensures.fault tt (λ is. absurd (memory_no_print is));
      files = λ told. done.files_same told;
      kept = λ told_wire told. done.kept told_wire told;
      calls = record {
        unasked = λ off. (rw c.in-Ok.ensures at done.unasked) off;
        unchanged = λ off told. (rw c.in-Ok.ensures at done.unchanged) off told;
        unmade = λ off told. (rw c.in-Ok.ensures at done.unmade) off told;
        off = λ off. (rw c.in-Ok.ensures at done.off) off;
      };
    }

pub print_binaries-requires : goal.print_binaries-requires
print_binaries-requires g c = record {
  reports = rw c.as_slice-2.ensures (all_reported _ _ _ _ _ _ c.in-Ok-audit_binaries.ensures.answered);
}

-- ---- if they were answered

pub returns-in-Ok-print_binaries : goal.returns-in-Ok-print_binaries
returns-in-Ok-print_binaries g c starts start_faults =
    let made = c.in-Ok-audit_binaries.ensures in
    let printed = c.in-Ok-print_binaries.ensures in
    rw c.of_status.ensures record {
      binaries = record {
        answered = rw (c.in-Ok.ensures, c.of-limits.ensures) at made.answered;
        summary = rw c.in-Ok.ensures at made.summary;
        together = rw c.in-Ok.ensures at made.together;
        out = λ told. put_all _ _ _ None (rw (c.in-Ok.ensures, c.as_str.ensures, c.as_slice.ensures, c.as_slice-2.ensures) at (printed.out told)).whole;
        err = λ told. put_all _ _ _ None (rw (c.in-Ok.ensures, c.as_str.ensures, c.as_slice.ensures, c.as_slice-2.ensures) at (printed.err told)).whole;
        status = λ none. c.summary_status-status.ensures;
      };
      audited = refl;
      generated = refl;
      plan = refl;
      ends = record { status = λ e is. no_fault e is; plain = λ none. tt; usage = λ broken is. not_err _ _ _ refl is };
      has = λ how. refl;
      out = tt;
      err = λ told. tt;
      partly = tt;
      causes = record {
        cause = tt;
        print_rose = λ is. no_fault fault.Print is;
        file_rose = λ path is. no_fault (fault.File path) is;
        crate_rose = λ path is. no_fault (fault.Vendor (vendor_fault.File path)) is;
        store_rose = λ at is. no_fault (fault.Vendor (vendor_fault.Store at)) is;
        start_rose = λ failed is. no_fault (fault.Start failed) is;
      };
      files = λ told. made.files_same told;
      kept = λ told_wire told. made.kept told_wire told;
      calls = record {
        unasked = λ off. (rw c.in-Ok.ensures at made.unasked) off;
        unchanged = λ off told. (rw c.in-Ok.ensures at made.unchanged) off told;
        unmade = λ off told. (rw c.in-Ok.ensures at made.unmade) off told;
        off = λ off. (rw c.in-Ok.ensures at made.off) off;
      };
    }

-- ---- if printing failed

pub returns : goal.returns
returns g c starts start_faults =
    let made = c.in-Ok-audit_binaries.ensures in
    let printed = c.in-Err.ensures in
    let end = rw c.from.ensures at c.failed-in-Err.ensures.fault in
    record {
      binaries = record {
        answered = rw (c.in-Ok.ensures, c.of-limits.ensures) at made.answered;
        summary = rw c.in-Ok.ensures at made.summary;
        together = rw c.in-Ok.ensures at made.together;
        out = λ told. c.failed-in-Err.ensures.put _ _ _
            (rw c.from.ensures (put_part _ _ _ (by_print c.in-Err.fault) (is_print c.in-Err.fault)
            (rw (c.in-Ok.ensures, c.as_str.ensures, c.as_slice.ensures, c.as_slice-2.ensures) at (printed.out told)).part));
        err = λ told.
            ended_from _ _ _ c.failed-in-Err.result.fault _ _ _ _ printed.err_later c.failed-in-Err.ensures.later
            (c.failed-in-Err.ensures.ended told _ _
            (rw c.from.ensures (put_part _ _ _ (by_print c.in-Err.fault) (is_print c.in-Err.fault)
            (rw (c.in-Ok.ensures, c.as_str.ensures, c.as_slice.ensures, c.as_slice-2.ensures) at (printed.err told)).part)));
        status = λ none. has_fault (by_print c.in-Err.fault) c.failed-in-Err.result.fault end none;
      };
      audited = c.failed-in-Err.ensures.audited;
      generated = c.failed-in-Err.ensures.generated;
      plan = c.failed-in-Err.ensures.plan;
      ends = record { status = c.failed-in-Err.ensures.status; plain = λ none. has_fault (by_print c.in-Err.fault) c.failed-in-Err.result.fault end none; usage = λ broken is. not_err _ _ _ refl is };
      has = λ how. refl;
      out = tt;
      err = λ told. tt;
      partly = tt;
      causes = print_causes _ _ c.failed-in-Err.result.fault (by_print c.in-Err.fault) end (is_print c.in-Err.fault)
          (λ is. rose_later _ _ _ _ _ (printed.failed (ap (λ (e : PrintFault). Err e) (put_failed_of c.in-Err.fault is))) c.failed-in-Err.ensures.later);
      files = λ told. made.files_same told;
      kept = λ told_wire told. made.kept told_wire told;
      calls = record {
        unasked = λ off. (rw c.in-Ok.ensures at made.unasked) off;
        unchanged = λ off told. (rw c.in-Ok.ensures at made.unchanged) off told;
        unmade = λ off told. (rw c.in-Ok.ensures at made.unmade) off told;
        off = λ off. (rw c.in-Ok.ensures at made.off) off;
      };
    }
