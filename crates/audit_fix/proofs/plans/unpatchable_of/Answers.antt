use Rattle.std.proofs.Common.{◌∙◌, sym, add-one, arith}
use Rattle.audit_fix.proofs.Once.{one_looked_at, unseen_none}
use Rattle.audit_fix.proofs.plans.unpatchable_of.Goals as goal

pub loop-vulnerability-init : goal.loop-vulnerability-init
loop-vulnerability-init c = rw c.new-places.ensures (sym (unseen_none _))

pub loop-vulnerability-preserved : goal.loop-vulnerability-preserved
loop-vulnerability-preserved c =
    rw (c.in_ok-add_each.ensures, add-one)
    (c.loop-vulnerability.invariant ∙ one_looked_at c.args.advisories.now c.args.vulnerabilities.now c.loop-vulnerability.vulnerability-index _ c.loop-vulnerability.places c.unpatched_place.result (omega arith) c.unpatched_place.ensures)
