use Rattle.std.proofs.Common.{◌≡◌, ◌≤◌, drop}
use Rattle.audit_output.specs.BinaryOutputs.{AreReportsOf, binaries_printed, binaries_shown_on}
use Rattle.audit_output.proofs.Reaching.{IsReached}
use Rattle.audit_output.proofs.binary_printing.print_each.Given as goal

-- what was put so far, and the output of what is left
abbrev pub invariant-loop-path : goal.invariant-loop-path
invariant-loop-path g l = record {
  reports : AreReportsOf l.sheet.auditor.now.database l.answers;
  out : g.O.Sink.tells → IsReached (g.O.Sink.holds l.initial.out) (binaries_printed l.verdicts (binaries_shown_on l.sheet) l.initial.presenter l.sheet.paths.now l.sheet.answers.now).out
      (g.O.Sink.holds l.out) (binaries_printed l.verdicts (binaries_shown_on l.sheet) l.presenter (drop l.path-index l.sheet.paths.now) l.answers).out;
  err : g.E.Sink.tells → IsReached (g.E.Sink.holds l.initial.err) (binaries_printed l.verdicts (binaries_shown_on l.sheet) l.initial.presenter l.sheet.paths.now l.sheet.answers.now).err
      (g.E.Sink.holds l.err) (binaries_printed l.verdicts (binaries_shown_on l.sheet) l.presenter (drop l.path-index l.sheet.paths.now) l.answers).err;
  out_later : g.O.Sink.faults l.initial.out ≤ g.O.Sink.faults l.out;
  err_later : g.E.Sink.faults l.initial.err ≤ g.E.Sink.faults l.err;
  config : l.presenter.config ≡ l.initial.presenter.config;
}
