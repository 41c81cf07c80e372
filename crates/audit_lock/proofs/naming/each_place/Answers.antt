use Rattle.std.proofs.Common.{◌≡◌, Some, add-one, sym}
use Rattle.std.specs.BTreeMap.{get_by_text}
use Rattle.audit_lock.proofs.Steps.{drop_at, found_more}
use Rattle.audit_lock.proofs.naming.each_place.Goals as goal

pub loop-text-preserved : goal.loop-text-preserved
loop-text-preserved c =
    let left = drop_at c.args.texts.now c.loop-text.text-index c.text-item.result c.loop-text-test.true c.text-item.is in
    let so_far = rw left at c.loop-text.invariant in
    let place : get_by_text c.args.places.now c.text-item.result ≡ Some c.in-Some.place.now = sym (rw c.as_str.ensures at c.in-Some.ensures.value) in
    rw (c.in_ok-add.ensures.ok, add-one) (found_more _ _ _ _ _ so_far place)
