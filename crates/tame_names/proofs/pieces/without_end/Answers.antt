use Rattle.std.proofs.Common.{◌≡◌, take, sym, ◌∙◌, ap, arith}
use Rattle.tame_names.specs.Pieces.{without_end}
use Rattle.tame_names.proofs.Trims.{needle_before, other_before}
use Rattle.tame_names.proofs.pieces.without_end.Goals as goal
use Rattle.tame_names.proofs.pieces.without_end.Goals.{then-loop-end-test+else-bytes-end, else-loop-end-test}

pub loop-end-preserved : goal.loop-end-preserved
loop-end-preserved c = record {
  within = omega arith;
  same = c.loop-end.invariant.same ∙ needle_before _ _ _ c.loop-end-test.true c.loop-end.invariant.within c.if-bytes-end.true;
}

pub returns : goal.returns
returns c =
    elim c.loop-end-test.branch [
      | then-loop-end-test+else-bytes-end w ↦ sym (c.loop-end.invariant.same ∙ other_before _ _ _ w.loop-end-test.true c.loop-end.invariant.within w.if-bytes-end.false)
      | else-loop-end-test w ↦
          let none : c.loop-end.end ≡ 0 = omega arith in
          ap (λ n. take n c.args.bytes.now) none ∙ sym (c.loop-end.invariant.same ∙ ap (λ n. without_end c.args.needle (take n c.args.bytes.now)) none)
    ]
