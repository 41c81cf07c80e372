use Rattle.std.proofs.Common.{◌≡◌, ◌≤◌, ℕ, List, drop, take, Ok}
use Rattle.vendor_registry.proofs.Ahead.{behind, rest}
use Rattle.vendor_registry.proofs.Reached.{front_of}
use Rattle.vendor_registry.specs.Checks.{all_checked, stock_of}
use Rattle.vendor_registry.specs.Looked.{HasPairs}
use Rattle.vendor_registry.specs.Named.{AreTexts}
use Rattle.vendor_registry.proofs.looking.check_packages.Given as goal

-- what was checked, before what is left; the pairs so far; and disk and files as they were
abbrev pub invariant-loop-place : goal.invariant-loop-place
invariant-loop-place g l = record {
  checked : g.F.Files.tells → g.D.CacheDisk.tells
      → rest (stock_of (g.D.CacheDisk.past l.fn.disk) l.index (g.F.Files.host l.fn.files) l.crates) l.packages 0 l.packages
      ≡ behind l.checked (rest (stock_of (g.D.CacheDisk.past l.fn.disk) l.index (g.F.Files.host l.fn.files) l.crates) l.packages l.place (drop l.place l.packages));
  done : g.F.Files.tells → g.D.CacheDisk.tells
      → all_checked (stock_of (g.D.CacheDisk.past l.fn.disk) l.index (g.F.Files.host l.fn.files) l.crates) (front_of l.packages l.place) ≡ Ok l.checked;
  pairs : HasPairs l.pairs.keys (take l.place l.packages);
  texts : AreTexts l.checked;
  disk_later : g.D.CacheDisk.faults l.fn.disk ≤ g.D.CacheDisk.faults l.disk;
  files_later : g.F.Files.faults l.fn.files ≤ g.F.Files.faults l.files;
  failed : g.F.Files.tells → g.F.Files.failed l.files ≡ g.F.Files.failed l.fn.files;
  failed_disk : g.D.CacheDisk.failed l.disk ≡ g.D.CacheDisk.failed l.fn.disk;
  disk_same : g.D.CacheDisk.tells → (q : List ℕ) → g.D.CacheDisk.past l.disk q ≡ g.D.CacheDisk.past l.fn.disk q;
  folders_same : g.D.CacheDisk.tells → g.D.CacheDisk.folders l.disk ≡ g.D.CacheDisk.folders l.fn.disk;
  files_same : g.F.Files.tells → g.F.Files.host l.files ≡ g.F.Files.host l.fn.files;
}
