use Rattle.std.proofs.Common.{sym, add-one, ap, ◌∙◌}
use Rattle.audit_lock.proofs.Steps.{drop_at, read_more}
use Rattle.audit_advisory.specs.Advisories.{advisory_of}
use Rattle.audit_core.specs.Auditors.{at_text}
use Rattle.audit_core.proofs.auditors.read_advisories.Goals as goal

pub loop-n-preserved : goal.loop-n-preserved
loop-n-preserved c =
    let left = drop_at c.args.texts.now c.loop-n.n c.index-texts-n.result c.loop-n-test.true c.index-texts-n.is in
    let so_far = rw left at c.loop-n.invariant in
    rw (c.in_ok-add-in-Ok.ensures.ok, add-one) (read_more _ _ _ _ _ so_far (ap (at_text c.loop-n.n) (ap advisory_of (sym c.as_str.ensures) ∙ c.in-Ok.ensures.ok)))
