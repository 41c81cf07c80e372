use Rattle.std.proofs.Common.{◌≡◌, ◌∷◌, ◌++◌, List, ap, ◌∙◌, rules, arith}
use Rattle.std.proofs.lemmas.Grind.{common_steps}
use Rattle.std.specs.Vec.Iter.{into_iter_items}
use Rattle.vendor_registry.specs.Grouped.{group_at}
use Rattle.vendor_registry.specs.Vendored.{on}
use Rattle.vendor_registry.specs.declared.checks.CheckedCrate.{CheckedCrate}
use Rattle.vendor_registry.proofs.Groups.{put_next}
use Rattle.vendor_registry.proofs.grouping.grouped.Goals as goal

pub loop-one-preserved : goal.loop-one-preserved
loop-one-preserved c = λ q.
    let step : into_iter_items c.loop-one.one-iterator ≡ c.in-Some.one ∷ into_iter_items c.next.new.self = first_of (search rules, grind (arith, common_steps)) in
    put_next (group_at c.loop-one.groups q) (group_at c.put.new.groups q) c.args.checked (into_iter_items c.next.new.self) q c.in-Some.one
    (c.loop-one.invariant q ∙ ap (λ (xs : List CheckedCrate). group_at c.loop-one.groups q ++ on q xs) step) (c.in_ok-put.ensures q)
