use Rattle.std.proofs.Common.{◌≡◌, ◌≤◌, ◌-◌}
use Rattle.tame_local.specs.Registries.{bytes_at}
use Rattle.tame_local.proofs.FileDigests.{HoldsFront}
use Rattle.tame_local.proofs.file_digests.digest_at.Given as goal

-- the host as it was, and the hasher holds what came before
abbrev pub invariant-loop-from : goal.invariant-loop-from
invariant-loop-from g l = record {
  later : g.F.Files.faults l.fn.files ≤ g.F.Files.faults l.files;
  same : g.F.Files.tells → g.F.Files.host l.files ≡ g.F.Files.host l.fn.files;
  failed : g.F.Files.tells → g.F.Files.failed l.files ≡ g.F.Files.failed l.fn.files;
  low : l.from ≤ l.len;
  holds : g.F.Files.tells → HoldsFront l.hasher l.from (bytes_at l.path ((g.F.Files.host l.fn.files).stands l.path));
}

abbrev pub decreases-loop-from : goal.decreases-loop-from
decreases-loop-from g l = l.len - l.from
