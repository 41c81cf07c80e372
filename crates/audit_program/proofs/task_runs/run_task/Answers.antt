use Rattle.std.proofs.Common.{◌≡◌, ℕ, List, Some, refl, rules, ap}
use Rattle.std.specs.Prelude.{IfNone, pos}
use Rattle.tame_names.specs.Counts.{CountRose, CountRoseBy}
use Rattle.audit_lock.specs.Locked.{locked}
use Rattle.audit_core.proofs.Exchanged.{keeps_nothing}
use Rattle.audit_core.proofs.Left.{asks_nothing, calls_nothing}
use Rattle.audit_program.specs.Tasks.{IsOrderedTaskCall, IsTaskCall, task_asked, task_generates}
use Rattle.audit_program.proofs.Asking.{asked_cause, asked_config, generated_as, lockfile_or_fault, ok_same, refused_cause, rose_from}
use Rattle.audit_remedies.specs.declared.faults.RunFault.TheVariants as run_fault
use Rattle.audit_program.proofs.FaultCases.{rose_before}
use Rattle.audit_program.proofs.Made.{asked_told, calls_asked, calls_made, quiet_unaudited}
use Rattle.audit_program.proofs.GivenEnds.{failed_ends}
use Rattle.audit_program.proofs.Nones.{if_none, if_none_by, if_none_then, if_some, none_some, of_none}
use Rattle.audit_remedies.proofs.Putting.{put_nothing}
use Rattle.audit_program.proofs.Starting.{asked_one, audited_some, failed_starts, unaudited_starts}
use Rattle.audit_program.proofs.task_runs.run_task.Goals as goal

pub returns-in-Ok : goal.returns-in-Ok
returns-in-Ok g c decodes decode_faults =
    let h = c.run_given.ensures decodes decode_faults in
    let audited = c.run_given.result.audited in
    let fault = c.run_given.result.fault in
    let task = c.args.task.now in
    let host = g.F.Files.host c.args.files.now in
    let cause = asked_cause g.F.Files.tells task host c.in-Ok.given fault (λ told. rw c.baseline.ensures at (c.in-Ok.ensures.gives told).ok) h.causes.cause in
    let file_rose : (path : List ℕ) → fault ≡ Some (run_fault.File path) → CountRose (g.F.Files.faults c.args.files.now) (g.F.Files.faults c.run_given.new.files) =
    λ path is. rose_before _ _ _ c.in-Ok.ensures.cause.later (h.causes.file_rose path is) in
    let start_rose : (failed : ℕ) → fault ≡ Some (run_fault.Start failed) → CountRoseBy failed (g.R.Runner.faults c.args.runner.now) (g.R.Runner.faults c.run_given.new.runner) =
    λ failed is. rose_from failed _ _ _ c.in-Ok.ensures.start_cause.later (h.causes.start_rose failed is) in
    let left_calls : g.F.Files.tells → IfNone audited (g.F.Files.failed c.run_given.new.files ≡ g.F.Files.failed c.args.files.now) =
    λ told. rw (c.in-Ok.ensures.failed told) at (if_none_then audited _ (g.F.Files.failed c.run_given.new.files ≡ g.F.Files.failed c.ask.new.files) (λ left. left.calls told) h.unaudited) in
    record {
      audits = record {
        audited = if_some audited _ _ (λ a k. record {
          given = c.in-Ok.given;
          gives = λ told. rw c.baseline.ensures at (c.in-Ok.ensures.gives told).ok;
          there = g.F.Files.host c.ask.new.files;
          is_there = c.in-Ok.ensures.same;
          used_up = c.in-Ok.ensures.left;
          generated = g.R.Runner.starts c.ask.new.runner;
          at_most = c.in-Ok.ensures.at_most;
          is_generated = λ told_files told. generated_as _ c.in-Ok.given _ _ (c.in-Ok.ensures.started told_files told);
          run = record {
            left = k.left;
            audit = k.audit;
            it = k.it;
            is_made = k.is_made;
            statuses = k.statuses;
            started = k.started;
            out = k.out;
            err = k.err;
            shown = k.shown;
            shown_err = k.shown_err;
            is_end = k.is_end;
          };
        }) h.audited;
        binaries = none_some c.run_given.result.binaries _ h.binaries;
        partly = tt;
        generated = none_some c.run_given.result.generated _ h.generated;
      };
      has = h.has;
      ends = h.ends;
      causes = record {
        cause = cause;
        print_rose = h.causes.print_rose;
        file_rose = file_rose;
        crate_rose = λ path is. rose_before _ _ _ c.in-Ok.ensures.cause.later (h.causes.crate_rose path is);
        store_rose = h.causes.store_rose;
        start_rose = start_rose;
      };
      without_lockfile = if_none_by audited _ (λ none.
          let left = of_none audited _ none h.unaudited in
          record {
            started = λ told_files told. of_none audited _ none
                (unaudited_starts audited (task_generates task host) _ _ _ task c.in-Ok.given fault (c.in-Ok.ensures.started told_files told) (c.in-Ok.ensures.at_most told) h.causes.cause h.start_audit
                (if_none_then audited _ _ (λ left. ap g.R.Runner.starts left.runner) h.unaudited));
            at_most = λ told. rw left.runner (c.in-Ok.ensures.at_most told);
            one_start = λ failed is. of_none audited _ none (audited_some audited _ (h.start_audit failed is));
            files = λ told. rw (left.files told) (c.in-Ok.ensures.same told);
          });
      without_audit = if_none_by audited _ (λ none.
          let left = of_none audited _ none h.unaudited in
          if_none c.run_given.result.binaries _ (record {
            out = λ told. rw left.out (put_nothing (g.O.Sink.holds c.args.out.now) fault);
            err = left.err;
            early = λ other. ((left.early other).0, (left.early other).1, tt);
          }));
      failed = λ told. record {
        calls = calls_made task host _ _ fault (rw (c.in-Ok.ensures.failed told) at (h.failed told));
        unaudited = if_none_by audited _ (λ none. record {
          call = of_none audited _ none (quiet_unaudited audited (IsTaskCall task host) _ _ fault h.file_audit (left_calls told));
          ordered = λ told_starts. of_none audited _ none
              (quiet_unaudited audited (IsOrderedTaskCall task host (g.R.Runner.starts c.args.runner.now) (g.R.Runner.starts c.run_given.new.runner)) _ _ fault h.file_audit (left_calls told));
        });
      };
      kept = h.kept;
      leaves = record {
        uncalled = λ nothing. absurd nothing;
        undecoded = λ other. tt;
        unstarted = λ is. absurd is;
        files_same = λ told unwritten. rw (h.unwritten told unwritten) (c.in-Ok.ensures.same told);
        unaccepted = λ told none.
            lockfile_or_fault (locked c.in-Ok.given.text)
            (λ packages is. absurd (none c.in-Ok.given packages (record { gives = rw c.baseline.ensures at (c.in-Ok.ensures.gives told).ok; lockfile = is })))
            (λ fault is. h.refused fault is);
        asks = λ told given packages accepts.
            let mine = rw c.baseline.ensures at (c.in-Ok.ensures.gives told).ok in
            let same = ok_same (task_asked task host (pos 0)) given c.in-Ok.given accepts.gives mine in
            rw same (h.asks packages (rw same at accepts.lockfile));
        calls = λ told config settles.
            let same : c.in-Ok.given.config ≡ config = asked_config task host c.in-Ok.given config (rw c.baseline.ensures at (c.in-Ok.ensures.gives told).ok) settles in
            rw same at h.calls;
      };
    }

pub returns-in-Err : goal.returns-in-Err
returns-in-Err g c decodes decode_faults =
    let task = c.args.task.now in
    let host = g.F.Files.host c.args.files.now in
    let audited = c.failed.result.audited in
    let cause = refused_cause g.F.Files.tells task host c.in-Err.fault c.failed.result.fault (rw c.from.ensures at c.failed.ensures.fault)
    (λ told. rw c.baseline.ensures at (c.in-Err.ensures.gives told).refused) (rw c.baseline.ensures at c.in-Err.ensures.only) in
    let file_rose : (path : List ℕ) → c.failed.result.fault ≡ Some (run_fault.File path) → CountRose (g.F.Files.faults c.args.files.now) (g.F.Files.faults c.ask.new.files) = search rules in
    let start_rose : (failed : ℕ) → c.failed.result.fault ≡ Some (run_fault.Start failed) → CountRoseBy failed (g.R.Runner.faults c.args.runner.now) (g.R.Runner.faults c.ask.new.runner) = search rules in
    record {
      audits = record {
        audited = none_some audited _ c.failed.ensures.audited;
        binaries = none_some c.failed.result.binaries _ c.failed.ensures.binaries;
        partly = tt;
        generated = none_some c.failed.result.generated _ c.failed.ensures.generated;
      };
      has = search rules;
      ends = failed_ends _ c.failed.result _ (rw c.from.ensures at c.failed.ensures.fault) c.failed.ensures.status;
      causes = record {
        cause = cause;
        print_rose = search rules;
        file_rose = file_rose;
        crate_rose = search rules;
        store_rose = search rules;
        start_rose = start_rose;
      };
      without_lockfile = if_none audited _ (record {
        started = λ told_files told. failed_starts (task_generates task host) _ _ c.in-Err.fault c.failed.result.fault (rw c.from.ensures at c.failed.ensures.fault)
            (c.in-Err.ensures.at_most told) (c.in-Err.ensures.started told_files told);
        at_most = c.in-Err.ensures.at_most;
        one_start = λ failed is. asked_one c.in-Err.fault c.failed.result.fault failed (rw c.from.ensures at c.failed.ensures.fault) is;
        files = search rules;
      });
      without_audit = if_none audited _ (if_none c.failed.result.binaries _ (record {
        out = search rules;
        err = search rules;
        early = λ other. (refl, refl, tt);
      }));
      failed = λ told. record {
        calls = calls_asked task host _ _ c.in-Err.fault c.failed.result.fault (rw c.from.ensures at c.failed.ensures.fault) (rw c.baseline.ensures at (c.in-Err.ensures.failed told));
        unaudited = if_none audited _ (record {
          call = asked_told _ _ _ c.in-Err.fault c.failed.result.fault (rw c.from.ensures at c.failed.ensures.fault) (rw c.baseline.ensures at (c.in-Err.ensures.failed told));
          ordered = λ told_starts. asked_told _ _ _ c.in-Err.fault c.failed.result.fault (rw c.from.ensures at c.failed.ensures.fault) (rw c.baseline.ensures at (c.in-Err.ensures.ordered told told_starts));
        });
      };
      kept = λ told_wire told. keeps_nothing (g.W.Wire.exchanges c.args.wire.now) (g.W.Wire.exchanges c.args.wire.now) (g.D.CacheDisk.past c.args.disk.now);
      leaves = record {
        uncalled = λ nothing. absurd nothing;
        undecoded = λ other. tt;
        unstarted = λ is. absurd is;
        files_same = search rules;
        unaccepted = λ told none. (refl, refl);
        asks = λ told given packages accepts. asks_nothing _ _ _ _;
        calls = λ told config settles. calls_nothing _ _ _ _ _ refl (λ unread. refl);
      };
    }
