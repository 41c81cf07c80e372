use Rattle.std.proofs.Common.{arith, ◌∙◌}
use Rattle.tame_location.proofs.Asked.{answer_rest, reads_rest}
use Rattle.tame_location.proofs.walks.first_answer.Goals as goal

pub loop-path-preserved : goal.loop-path-preserved
loop-path-preserved g c = record {
  later = omega (arith, c.answer_at.ensures.cause.later, c.loop-path.invariant.later);
  same = λ told. c.answer_at.ensures.same told ∙ c.loop-path.invariant.same told;
  failed = λ told. c.in_ok-found.ensures.failed told ∙ c.loop-path.invariant.failed told;
  left = λ told.
      let none = rw (c.as_str.ensures, c.loop-path.invariant.same told, c.in_default.is) at (c.in_ok-found.ensures.ok told) in
      c.loop-path.invariant.left told ∙ answer_rest _ _ (g.F.Files.host c.args.files.now) c.args.paths.now c.loop-path.path-index c.path-item.result c.loop-path-test.true c.path-item.is none;
  read = λ told call h.
      let none = rw (c.as_str.ensures, c.loop-path.invariant.same told, c.in_default.is) at (c.in_ok-found.ensures.ok told) in
      c.loop-path.invariant.read told call (reads_rest _ _ (g.F.Files.host c.args.files.now) c.args.paths.now c.loop-path.path-index c.path-item.result c.loop-path-test.true c.path-item.is none call h);
}
