use Rattle.std.proofs.Common.{◌≡◌, ◌≤◌, take, length}
use Rattle.tame_names.specs.Counts.{CountRoseBy}
use Rattle.audit_fix.specs.Steps.{StartsEach, failed_starts}
use Rattle.audit_fix.proofs.steps.start_steps.Given as goal

-- the steps so far were started, each once, and each failure was counted
abbrev pub invariant-loop-step : goal.invariant-loop-step
invariant-loop-step g l = record {
  one_each : length l.statuses ≡ l.step-index;
  started : g.R.Runner.tells → StartsEach (take l.step-index l.plan.steps) l.statuses (g.R.Runner.starts l.fn.runner) (g.R.Runner.starts l.runner);
  later : g.R.Runner.faults l.fn.runner ≤ g.R.Runner.faults l.runner;
  rose : CountRoseBy (failed_starts l.statuses) (g.R.Runner.faults l.fn.runner) (g.R.Runner.faults l.runner);
}
