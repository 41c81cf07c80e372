use Rattle.std.proofs.Common.{◌≡◌, ◌∙◌, Ok, add-one, arith}
use Rattle.audit_asked.specs.Advisories.{advisory_at}
use Rattle.audit_asked.proofs.Ahead.{front_read, next}
use Rattle.audit_asked.proofs.advisories.advisories_at.Goals as goal

pub loop-n-preserved : goal.loop-n-preserved
loop-n-preserved g c = record {
  later = omega (arith, c.in_ok-advisory.ensures.cause.later, c.loop-n.invariant.later);
  same = λ told. c.in_ok-advisory.ensures.same told ∙ c.loop-n.invariant.same told;
  failed = λ told. c.in_ok-advisory.ensures.failed told ∙ c.loop-n.invariant.failed told;
  advisories = λ told.
      let e : advisory_at (g.F.Files.host c.args.files.now) c.loop-n.n c.index-paths-n.result ≡ Ok c.in_ok-advisory.advisory =
      rw (c.as_str.ensures, c.loop-n.invariant.same told) at (c.in_ok-advisory.ensures.ok told) in
      rw (c.in_ok-add.ensures.ok, add-one)
      (c.loop-n.invariant.advisories told ∙ next (g.F.Files.host c.args.files.now) c.loop-n.n c.args.paths.now c.index-paths-n.result c.loop-n.advisories c.in_ok-advisory.advisory (omega arith) c.index-paths-n.is e);
  front = λ told.
      let e : advisory_at (g.F.Files.host c.args.files.now) c.loop-n.n c.index-paths-n.result ≡ Ok c.in_ok-advisory.advisory =
      rw (c.as_str.ensures, c.loop-n.invariant.same told) at (c.in_ok-advisory.ensures.ok told) in
      rw (c.in_ok-add.ensures.ok)
      (front_read (g.F.Files.host c.args.files.now) c.loop-n.n c.args.paths.now c.index-paths-n.result c.loop-n.advisories c.in_ok-advisory.advisory (omega arith) c.index-paths-n.is (c.loop-n.invariant.front told) e);
}
