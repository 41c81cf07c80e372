use Rattle.std.proofs.Common.{◌≡◌, ◌++◌, ℕ, List, map, drop}
use Rattle.tame_local.specs.Builders.{crates_made}
use Rattle.vendor_registry.specs.Built.{crate_made}
use Rattle.vendor_registry.specs.Vendored.{on}
use Rattle.vendor_registry.proofs.building.krates_on.Given as goal

-- the crate files so far, and those of what is left
abbrev pub invariant-loop-one : goal.invariant-loop-one
invariant-loop-one l = (folder : List ℕ)
    → map (crate_made folder) (on l.path l.checked) ≡ crates_made folder l.krates ++ map (crate_made folder) (on l.path (drop l.one-index l.checked))
