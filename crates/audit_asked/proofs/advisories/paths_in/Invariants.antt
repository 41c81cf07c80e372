use Rattle.std.proofs.Common.{◌≡◌, ◌≤◌, ◌++◌, ℕ, List, Contains}
use Rattle.audit_asked.specs.Advisories.{paths_in}
use Rattle.audit_asked.proofs.advisories.paths_in.Given as goal

-- the host as it was, and the paths so far, before those of what is left
abbrev pub invariant-loop-name : goal.invariant-loop-name
invariant-loop-name g l = record {
  later : g.F.Files.faults l.fn.files ≤ g.F.Files.faults l.files;
  same : g.F.Files.tells → g.F.Files.host l.files ≡ g.F.Files.host l.fn.files;
  failed : g.F.Files.tells → g.F.Files.failed l.files ≡ g.F.Files.failed l.fn.files;
  paths : g.F.Files.tells → paths_in (g.F.Files.host l.fn.files) l.folder l.names.keys
      ≡ l.paths ++ paths_in (g.F.Files.host l.fn.files) l.folder l.name-iterator;
  listed : (name : List ℕ) → Contains l.name-iterator name → Contains l.names.keys name;
}
