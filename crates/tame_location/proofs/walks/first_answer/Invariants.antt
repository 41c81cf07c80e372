use Rattle.std.proofs.Common.{◌≡◌, ◌≤◌, Contains, drop}
use Rattle.tame_names.specs.declared.host.FailedCall.{FailedCall}
use Rattle.tame_location.specs.Settings.{first_answer, reads}
use Rattle.tame_location.proofs.walks.first_answer.Given as goal

-- the host as it was; what is left decides, and what is read of it is read of the whole
abbrev pub invariant-loop-path : goal.invariant-loop-path
invariant-loop-path g l = record {
  later : g.F.Files.faults l.fn.files ≤ g.F.Files.faults l.files;
  same : g.F.Files.tells → g.F.Files.host l.files ≡ g.F.Files.host l.fn.files;
  failed : g.F.Files.tells → g.F.Files.failed l.files ≡ g.F.Files.failed l.fn.files;
  left : g.F.Files.tells → first_answer (g.Q.Question.says l.question) (g.F.Files.host l.fn.files) l.paths
      ≡ first_answer (g.Q.Question.says l.question) (g.F.Files.host l.fn.files) (drop l.path-index l.paths);
  read : g.F.Files.tells → (call : FailedCall)
      → Contains (reads (g.Q.Question.says l.question) (g.F.Files.host l.fn.files) (drop l.path-index l.paths)) call
      → Contains (reads (g.Q.Question.says l.question) (g.F.Files.host l.fn.files) l.paths) call;
}
