use Rattle.std.proofs.Common.{Bool, List, ◌≡◌, ◌+◌, ◌<◌, ◌≤◌, ◌++◌, [], ◌∷◌, length, get_or, drop, true, add-one, refl, ap, ◌∙◌, arith, nat_lt, string_bytes}
use Rattle.std.proofs.lemmas.List.{length-set}
use Rattle.audit_lock.specs.Parents.{parents_at}
use Rattle.audit_lock.specs.Rendering.{unmet, walk}
use Rattle.audit_lock.specs.Walking.{Shows}
use Rattle.audit_lock.proofs.Walks.{fewer, drop_past, opened_shown, parent_low, parent_shown, parents_is, popped, tree_length}
use Rattle.audit_lock.proofs.rendering.+put_below.Goals as goal

pub bounds-tree-place : goal.bounds-tree-place
bounds-tree-place t c = omega (arith, tree_length _ _ c.requires.made)

pub put_below-requires : goal.put_below-requires
put_below-requires t c =
    let there : c.args.place < length c.args.tree.now = omega (arith, tree_length _ _ c.requires.made) in
    let slice : c.as_slice-parents.result.now ≡ parents_at c.args.tree.now c.args.place = parents_is _ _ _ _ there c.as_slice-parents.ensures c.index-tree-place.is in
    let within : c.loop-i.i < length (parents_at c.args.tree.now c.args.place) = rw slice at c.loop-i-test.true in (
      omega (arith, fewer c.args.met.now c.args.place (omega arith) c.if-met-place.false, c.loop-i.invariant.fewer),
      (c.requires.made, (rw slice (parent_low _ _ c.requires.made c.args.place c.requires.place c.loop-i.i within), omega (arith, length-set c.args.met.now c.args.place true))),
    )

pub loop-i-preserved : goal.loop-i-preserved
loop-i-preserved t c =
    let levels = c.args.levels.now.items in
    let ps = c.as_slice-parents.result.now in
    let b = nat_lt (c.loop-i.i + 1) (length ps) in
    let pushed : c.push.new.self.items ≡ levels ++ b ∷ [] = ◌∙◌ {A = List Bool} c.in_ok-push.ensures.items (ap (λ xs. xs ++ b ∷ []) c.loop-i.invariant.above) in
    let back : c.put_below.new.levels.items ≡ levels ++ b ∷ [] = ◌∙◌ {A = List Bool} c.in_ok-put_below.ensures.levels pushed in
    let less : unmet c.put_below.new.met ≤ unmet c.loop-i.met = c.in_ok-put_below.ensures.fewer in
    record {
      above = popped c.put_below.new.levels.items levels c.pop.new.self.items b _ c.pop.ensures.rest back (omega arith);
      fewer = omega (arith, less, c.loop-i.invariant.fewer);
      goes_on = λ deep few.
          let enough : unmet c.loop-i.met ≤ deep = omega (arith, few, c.loop-i.invariant.fewer) in
          let shown : Shows c.args.packages.now (walk c.args.tree.now deep c.push.new.self.items (get_or ps c.loop-i.i 0) c.loop-i.met) (string_bytes c.loop-i.out) (string_bytes c.put_below.new.out) c.put_below.new.met = c.in_ok-put_below.ensures.shows deep enough in
          rw add-one
          (parent_shown c.args.packages.now c.args.tree.now deep levels _ _ _ _ ps c.loop-i.i b _ _ c.loop-i-test.true (rw add-one refl) (c.loop-i.invariant.goes_on deep few) (rw pushed at shown));
    }

pub returns-clause-shows : goal.returns-clause-shows
returns-clause-shows t c =
    let there : c.args.place < length c.args.tree.now = omega (arith, tree_length _ _ c.requires.made) in
    let slice : c.as_slice-parents.result.now ≡ parents_at c.args.tree.now c.args.place = parents_is _ _ _ _ there c.as_slice-parents.ensures c.index-tree-place.is in
    let none : drop c.loop-i.i c.as_slice-parents.result.now ≡ [] = drop_past _ _ c.loop-i-test.false in
    opened_shown c.args.packages.now c.args.tree.now c.args.levels.now.items c.args.place c.args.met.now
    (string_bytes c.args.out.now) (string_bytes c.put_line.new.out) (string_bytes c.loop-i.out) c.loop-i.met
    (omega arith) c.if-met-place.false (rw c.as_slice.ensures.value at c.in_ok-put_line.ensures)
    (λ deep few. rw (← slice) (rw none at (c.loop-i.invariant.goes_on deep few)))
