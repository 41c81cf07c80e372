use Rattle.std.proofs.Common.{◌≡◌, ◌+◌, add-one, sym, ◌∙◌, arith}
use Rattle.audit_lock.specs.Naming.{names_it}
use Rattle.audit_lock.proofs.Steps.{position_more}
use Rattle.audit_lock.proofs.naming.places_of.Goals as goal

pub loop-i-preserved : goal.loop-i-preserved
loop-i-preserved c = λ q.
    let more = position_more (names_it q) 0 c.args.packages.now c.loop-i.i c.index-packages-i.result c.loop-i-test.true c.index-packages-i.is in
    let none : 0 + c.loop-i.i ≡ c.loop-i.i = omega arith in
    rw add-one (c.in_ok-put_package.ensures q ∙ rw (c.loop-i.invariant q) (sym (rw none at more)))
