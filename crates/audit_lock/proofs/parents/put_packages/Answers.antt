use Rattle.std.proofs.Common.{◌<◌, length, cond, add-one, ap, ◌∙◌, arith}
use Rattle.audit_lock.specs.Parents.{is_among}
use Rattle.audit_lock.specs.Putting.{with_parent}
use Rattle.audit_lock.proofs.Putting.{before_more, dependencies_here}
use Rattle.audit_lock.proofs.parents.put_packages.Goals as goal

pub loop-i-preserved : goal.loop-i-preserved
loop-i-preserved c = λ q low.
    let within : q < length c.loop-i.tree = omega arith in
    let i = c.loop-i.i in
    let here = dependencies_here c.args.packages.now i c.index-packages-i.result c.loop-i-test.true c.index-packages-i.is in
    rw add-one
    (rw c.as_slice.ensures at (c.in_ok-put_package.ensures q low)
    ∙ ap (λ xs. cond (is_among q c.index-packages-i.result.dependencies) (with_parent i xs) xs) (c.loop-i.invariant q within)
    ∙ rw here at (before_more c.args.packages.now q i))
