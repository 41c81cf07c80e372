use Rattle.std.proofs.Common.{◌<◌, length, take, get_or, cond, add-one, sym, ap, ◌∙◌, arith}
use Rattle.std.specs.Prelude.{◌==◌}
use Rattle.std.proofs.lemmas.List.{get_or_default}
use Rattle.audit_lock.specs.Parents.{is_among, parents_at}
use Rattle.audit_lock.specs.Putting.{with_parent}
use Rattle.audit_lock.proofs.Putting.{among_more, put_more}
use Rattle.audit_lock.proofs.parents.put_package.Goals as goal

pub loop-place-preserved : goal.loop-place-preserved
loop-place-preserved c = λ q low.
    let within : q < length c.loop-place.tree = omega arith in
    let so_far = c.loop-place.invariant q within in
    let deps = c.args.dependencies.now in
    let i = c.loop-place.place-index in
    let x = get_or deps i 0 in
    let more = among_more q deps i x c.loop-place-test.true (get_or_default deps i 0 x c.loop-place-test.true) in
    let before = parents_at c.args.tree.now q in
    rw add-one
    (c.in_ok-put_parent.ensures q low
    ∙ ap (λ xs. cond (x == q) (with_parent c.args.parent xs) xs) so_far
    ∙ put_more c.args.parent before (is_among q (take i deps)) (x == q)
    ∙ sym (ap (λ b. cond b (with_parent c.args.parent before) before) more))
