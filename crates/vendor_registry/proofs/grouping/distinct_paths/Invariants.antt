use Rattle.std.proofs.Common.{◌≡◌, ◌++◌, map, drop}
use Rattle.audit_core.specs.Paths.{distinct_after}
use Rattle.vendor_registry.specs.Grouped.{HasPaths}
use Rattle.vendor_registry.specs.Vendored.{paths_of}
use Rattle.vendor_registry.proofs.grouping.distinct_paths.Given as goal

-- the paths so far, before those that what is left adds; and the set has them
abbrev pub invariant-loop-one : goal.invariant-loop-one
invariant-loop-one l = record {
  paths : paths_of l.checked ≡ l.paths ++ distinct_after l.paths (map (λ c. c.path) (drop l.one-index l.checked));
  seen : HasPaths l.seen.keys l.paths;
}
