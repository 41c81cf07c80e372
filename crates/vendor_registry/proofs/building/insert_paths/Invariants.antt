use Rattle.std.proofs.Common.{◌≡◌, ◌≤◌, ◌+◌, ◌-◌, ◌^◌, min, List, drop}
use Rattle.tame_names.specs.Standing.{Host}
use Rattle.tame_local.specs.Builders.{AreBegun, after, size_of}
use Rattle.vendor_registry.specs.Built.{AreFilled, IsTaken, paths_made}
use Rattle.vendor_registry.specs.Grouped.{AreGroups}
use Rattle.vendor_registry.specs.Named.{ArePathed}
use Rattle.vendor_registry.specs.declared.checks.CheckedCrate.{CheckedCrate}
use Rattle.vendor_registry.proofs.building.insert_paths.Given as goal

-- what is left is what is to be done
abbrev pub invariant-loop-path : goal.invariant-loop-path
invariant-loop-path g l = record {
  later : g.F.Files.faults l.fn.files ≤ g.F.Files.faults l.files;
  made : g.F.Files.tells → (cs : List CheckedCrate) → AreGroups cs l.groups → ArePathed cs
      → after (paths_made l.builder.path cs l.paths) (g.F.Files.host l.fn.files)
      ≡ after (paths_made l.builder.path cs (drop l.path-index l.paths)) (g.F.Files.host l.files);
  begun : g.F.Files.tells → (cs : List CheckedCrate) → AreGroups cs l.groups → ArePathed cs → (now : Host)
      → AreBegun (paths_made l.builder.path cs (drop l.path-index l.paths)) (g.F.Files.host l.files) now
      → AreBegun (paths_made l.builder.path cs l.paths) (g.F.Files.host l.fn.files) now;
  filled : g.F.Files.tells → (cs : List CheckedCrate) → AreGroups cs l.groups → ArePathed cs
      → AreFilled l.builder.path cs (drop l.path-index l.paths) (g.F.Files.host l.files)
      → AreFilled l.builder.path cs l.paths (g.F.Files.host l.fn.files);
  taken : g.F.Files.tells → (cs : List CheckedCrate) → AreGroups cs l.groups → ArePathed cs → (now : Host)
      → IsTaken l.builder.path cs (drop l.path-index l.paths) (g.F.Files.host l.files) now
      → IsTaken l.builder.path cs l.paths (g.F.Files.host l.fn.files) now;
  failed : g.F.Files.tells → g.F.Files.failed l.files ≡ g.F.Files.failed l.fn.files;
  fits : l.written ≤ 2 ^ 64 - 1;
  count : (cs : List CheckedCrate) → AreGroups cs l.groups → ArePathed cs → min (size_of (paths_made l.builder.path cs l.paths)) (2 ^ 64 - 1)
      ≡ min (l.written + size_of (paths_made l.builder.path cs (drop l.path-index l.paths))) (2 ^ 64 - 1);
}
