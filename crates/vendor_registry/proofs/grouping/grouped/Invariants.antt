use Rattle.std.proofs.Common.{◌≡◌, ◌++◌, ℕ, List}
use Rattle.std.specs.Vec.Iter.{into_iter_items}
use Rattle.vendor_registry.specs.Grouped.{group_at}
use Rattle.vendor_registry.specs.Vendored.{on}
use Rattle.vendor_registry.proofs.grouping.grouped.Given as goal

-- what was put, before what is left
abbrev pub invariant-loop-one : goal.invariant-loop-one
invariant-loop-one l = (q : List ℕ) → on q l.fn.checked ≡ group_at l.groups q ++ on q (into_iter_items l.one-iterator)
