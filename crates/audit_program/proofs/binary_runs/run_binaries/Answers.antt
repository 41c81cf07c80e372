use Rattle.std.proofs.Common.{◌≡◌, ℕ, List, Some, inl, inr, refl, rules, arith}
use Rattle.std.proofs.lemmas.Grind.{common_steps}
use Rattle.tame_names.specs.Counts.{CountRose}
use Rattle.audit_core.proofs.Exchanged.{keeps_nothing}
use Rattle.audit_core.proofs.Left.{asks_nothing, calls_nothing}
use Rattle.audit_binaries.specs.Summaries.{AddsReadings}
use Rattle.audit_remedies.specs.declared.faults.RunFault.TheVariants as run_fault
use Rattle.audit_program.proofs.Asking.{binaries_config, binaries_refused}
use Rattle.audit_program.proofs.FaultCases.{no_print, print_caused, unfinished}
use Rattle.audit_program.proofs.GivenEnds.{failed_ends}
use Rattle.audit_program.proofs.Leaving.{calls_weaker}
use Rattle.audit_program.proofs.Nones.{if_none, if_none_by, if_none_then, if_some, none_some, of_none}
use Rattle.audit_remedies.proofs.Putting.{put_nothing}
use Rattle.audit_program.proofs.Readings.{all_added, asking_calls, bin_calls, either_way, partly_added}
use Rattle.audit_program.specs.Worlds.{World, world}
use Rattle.audit_program.proofs.binary_runs.run_binaries.Goals as goal

pub returns-in-Ok : goal.returns-in-Ok
returns-in-Ok g c starts start_faults =
    let h = c.run_asked.ensures starts start_faults in
    let outcome = c.run_asked.result in
    let command = c.args.command.now in
    let paths = c.args.more.now.binary_paths in
    let host = g.F.Files.host c.args.files.now in
    let entry : World = world (g.W.Wire.exchanges c.args.wire.now) (g.W.Wire.faults c.args.wire.now)
    (g.D.CacheDisk.past c.args.disk.now) (g.D.CacheDisk.folders c.args.disk.now) (g.D.CacheDisk.faults c.args.disk.now) (g.D.CacheDisk.failed c.args.disk.now)
    (g.F.Files.host c.ask_for_binaries.new.files) (g.F.Files.failed c.ask_for_binaries.new.files) (g.F.Files.faults c.ask_for_binaries.new.files)
    (g.P.Decoder.answers c.args.decoder.now) (g.P.Decoder.faults c.args.decoder.now) starts start_faults
    (g.O.Sink.holds c.args.out.now) (g.O.Sink.faults c.args.out.now) (g.E.Sink.holds c.args.err.now) (g.E.Sink.faults c.args.err.now) in
    record {
      audits = record {
        audited = none_some outcome.audited _ h.audited;
        binaries = if_some outcome.binaries _ _ (λ b k. record {
          given = c.in-Ok.given;
          entry = entry;
          asked = record { gives = λ told. (c.in-Ok.ensures.gives told).ok; host = c.in-Ok.ensures.same; failed = c.in-Ok.ensures.failed; later = c.in-Ok.ensures.cause.later; same = refl };
          run = k;
        }) h.binaries;
        partly = λ memory. if_none_then outcome.binaries _ _ (λ k. inr (record {
          given = c.in-Ok.given;
          entry = entry;
          asked = record { gives = λ told. (c.in-Ok.ensures.gives told).ok; host = c.in-Ok.ensures.same; failed = c.in-Ok.ensures.failed; later = c.in-Ok.ensures.cause.later; same = refl };
          partly = k;
        })) h.partly;
        generated = none_some outcome.generated _ h.generated;
      };
      has = record { has = h.has; vendor_audit = first_of (search rules, grind (arith, common_steps)); no_audit = first_of (search rules, grind (arith, common_steps)); no_plan = if_none outcome.audited _ h.plan };
      ends = h.ends;
      causes = record {
        cause = print_caused g.F.Files.tells command host outcome.fault h.causes.cause;
        print_rose = h.causes.print_rose;
        file_rose = λ path is. no_print outcome.fault _ h.causes.cause is (λ no. absurd no);
        crate_rose = λ path is. no_print outcome.fault _ h.causes.cause is (λ no. absurd no);
        store_rose = λ at is. no_print outcome.fault _ h.causes.cause is (λ no. absurd no);
        start_rose = λ failed is. no_print outcome.fault _ h.causes.cause is (λ no. absurd no);
      };
      without_lockfile = if_none outcome.audited _ (record {
        started = λ told_files told. refl;
        at_most = λ told. inl refl;
        one_start = λ failed is. no_print outcome.fault _ h.causes.cause is (λ no. absurd no);
        files = first_of (search rules, grind (arith, common_steps));
      });
      without_audit = if_none outcome.audited _ (if_none_by outcome.binaries _ (λ none. record {
        out = λ told. rw (of_none outcome.binaries _ none h.out) (put_nothing (g.O.Sink.holds c.args.out.now) outcome.fault);
        err = λ told. of_none outcome.binaries _ none (h.err told);
        early = λ other. unfinished outcome.binaries outcome.fault h.causes.cause none h.has other;
      }));
      failed = λ told.
          let added : AddsReadings paths (g.F.Files.failed c.ask_for_binaries.new.files) (g.F.Files.failed c.run_asked.new.files) =
          either_way outcome.binaries _ _ _ h.binaries h.partly
          (λ b k. all_added _ _ _ _ _ _ told k.answered) (λ k. partly_added _ _ _ _ _ told k) in
          record {
            calls = bin_calls command paths host (g.F.Files.failed c.args.files.now) (g.F.Files.failed c.run_asked.new.files) outcome.fault h.causes.cause (rw (c.in-Ok.ensures.failed told) at added);
            unaudited = tt;
          };
      kept = h.kept;
      leaves = record {
        uncalled = λ nothing. absurd nothing;
        undecoded = λ other. absurd (other tt);
        unstarted = λ is. tt;
        files_same = first_of (search rules, grind (arith, common_steps));
        unaccepted = λ told none. tt;
        asks = λ told given packages accepts. absurd accepts.gives;
        calls = λ told config settles.
            let same : c.in-Ok.given.config ≡ config = binaries_config command host c.in-Ok.given config (c.in-Ok.ensures.gives told).ok settles in
            calls_weaker _ _ _ _ _ _ _ (rw same at h.calls) (λ same unread. same);
      };
    }

pub returns-in-Err : goal.returns-in-Err
returns-in-Err g c starts start_faults =
    let outcome = c.failed.result in
    let command = c.args.command.now in
    let paths = c.args.more.now.binary_paths in
    let host = g.F.Files.host c.args.files.now in
    let end = rw c.from.ensures at c.failed.ensures.fault in
    let cause = binaries_refused g.F.Files.tells command host c.in-Err.fault outcome.fault end (λ told. (c.in-Err.ensures.gives told).refused) c.in-Err.ensures.only in
    let file_rose : (path : List ℕ) → outcome.fault ≡ Some (run_fault.File path) → CountRose (g.F.Files.faults c.args.files.now) (g.F.Files.faults c.ask_for_binaries.new.files) = first_of (search rules, grind (arith, common_steps)) in
    record {
      audits = record {
        audited = none_some outcome.audited _ c.failed.ensures.audited;
        binaries = none_some outcome.binaries _ c.failed.ensures.binaries;
        partly = λ memory. if_none outcome.binaries _ (inl (refl, refl, refl));
        generated = none_some outcome.generated _ c.failed.ensures.generated;
      };
      has = record { has = first_of (search rules, grind (arith, common_steps)); vendor_audit = first_of (search rules, grind (arith, common_steps)); no_audit = first_of (search rules, grind (arith, common_steps)); no_plan = if_none outcome.audited _ c.failed.ensures.plan };
      ends = failed_ends _ outcome _ end c.failed.ensures.status;
      causes = record { cause = cause; print_rose = first_of (search rules, grind (arith, common_steps)); file_rose = file_rose; crate_rose = first_of (search rules, grind (arith, common_steps)); store_rose = first_of (search rules, grind (arith, common_steps)); start_rose = first_of (search rules, grind (arith, common_steps)) };
      without_lockfile = if_none outcome.audited _ (record { started = λ told_files told. refl; at_most = λ told. inl refl; one_start = first_of (search rules, grind (arith, common_steps)); files = first_of (search rules, grind (arith, common_steps)) });
      without_audit = if_none outcome.audited _ (if_none outcome.binaries _ (record { out = first_of (search rules, grind (arith, common_steps)); err = first_of (search rules, grind (arith, common_steps)); early = λ other. (refl, refl, refl) }));
      failed = λ told. record {
        calls = asking_calls command paths host _ _ c.in-Err.fault outcome.fault end (c.in-Err.ensures.failed told);
        unaudited = tt;
      };
      kept = λ told_wire told. keeps_nothing (g.W.Wire.exchanges c.args.wire.now) (g.W.Wire.exchanges c.args.wire.now) (g.D.CacheDisk.past c.args.disk.now);
      leaves = record {
        uncalled = λ nothing. absurd nothing;
        undecoded = λ other. refl;
        unstarted = λ is. tt;
        files_same = first_of (search rules, grind (arith, common_steps));
        unaccepted = λ told none. tt;
        asks = λ told given packages accepts. asks_nothing _ _ _ _;
        calls = λ told config settles. calls_nothing _ _ _ _ _ refl (λ unread. refl);
      };
    }
