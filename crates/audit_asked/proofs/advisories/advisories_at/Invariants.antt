use Rattle.std.proofs.Common.{◌≡◌, ◌≤◌, Ok, drop, take}
use Rattle.audit_asked.specs.Advisories.{advisories_from}
use Rattle.audit_asked.proofs.Ahead.{before}
use Rattle.audit_asked.proofs.advisories.advisories_at.Given as goal

-- the host as it was, and the advisories so far, before those of what is left
abbrev pub invariant-loop-n : goal.invariant-loop-n
invariant-loop-n g l = record {
  later : g.F.Files.faults l.fn.files ≤ g.F.Files.faults l.files;
  same : g.F.Files.tells → g.F.Files.host l.files ≡ g.F.Files.host l.fn.files;
  failed : g.F.Files.tells → g.F.Files.failed l.files ≡ g.F.Files.failed l.fn.files;
  advisories : g.F.Files.tells → advisories_from (g.F.Files.host l.fn.files) 0 l.paths
      ≡ before l.advisories (advisories_from (g.F.Files.host l.fn.files) l.n (drop l.n l.paths));
  front : g.F.Files.tells → advisories_from (g.F.Files.host l.fn.files) 0 (take l.n l.paths) ≡ Ok l.advisories;
}
