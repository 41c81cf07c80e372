use Rattle.std.proofs.Common.{◌≡◌, ◌++◌, map, drop}
use Rattle.tame_local.specs.Inserts.{AreWritten}
use Rattle.vendor_registry.specs.Vendored.{on}
use Rattle.vendor_registry.proofs.building.krate_on.Given as goal

-- the records so far, and those of what is left
abbrev pub invariant-loop-one : goal.invariant-loop-one
invariant-loop-one l = record {
  records : map (λ c. c.version) (on l.path l.checked) ≡ l.versions ++ map (λ c. c.version) (on l.path (drop l.one-index l.checked));
  written : AreWritten l.versions;
}
