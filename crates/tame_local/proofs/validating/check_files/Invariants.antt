use Rattle.std.proofs.Common.{◌≡◌, ◌≤◌, ℕ, List}
use Rattle.tame_names.specs.declared.host.FailedCall.{FailedCall}
use Rattle.tame_local.specs.Calls.{IsFilesCall}
use Rattle.tame_local.specs.Registries.{AreRead, files_checked}
use Rattle.tame_local.proofs.validating.check_files.Given as goal

-- the host as it was, and what is left decides, with the calls that it makes
abbrev pub invariant-loop-name : goal.invariant-loop-name
invariant-loop-name g l = record {
  later : g.F.Files.faults l.fn.files ≤ g.F.Files.faults l.files;
  same : g.F.Files.tells → g.F.Files.host l.files ≡ g.F.Files.host l.fn.files;
  failed : g.F.Files.tells → g.F.Files.failed l.files ≡ g.F.Files.failed l.fn.files;
  kept : g.F.Files.tells → AreRead (g.F.Files.host l.fn.files) l.read.krates;
  checked : g.F.Files.tells → files_checked (g.F.Files.host l.fn.files) l.index.path l.folder l.names.keys
      ≡ files_checked (g.F.Files.host l.fn.files) l.index.path l.folder l.name-iterator;
  calls : g.F.Files.tells → (told : List ℕ) (call : FailedCall) → IsFilesCall (g.F.Files.host l.fn.files) l.index.path l.folder l.name-iterator told call
      → IsFilesCall (g.F.Files.host l.fn.files) l.index.path l.folder l.names.keys told call;
}
