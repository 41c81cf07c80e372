use Rattle.std.proofs.Common.{add-one}
use Rattle.audit_lock.proofs.Steps.{drop_at, read_more}
use Rattle.audit_lock.proofs.lockfiles.read_items.Goals as goal

pub loop-i-preserved : goal.loop-i-preserved
loop-i-preserved c =
    let left = drop_at c.args.items.now c.loop-i.i c.index-items-i.result c.loop-i-test.true c.index-items-i.is in
    let so_far = rw left at c.loop-i.invariant in
    rw (c.in_ok-add.ensures.ok, add-one) (read_more _ _ _ _ _ so_far c.in_ok-package.ensures.ok)
