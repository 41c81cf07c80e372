use Rattle.std.proofs.Common.{ap, sym, ◌∙◌}
use Rattle.std.specs.Prelude.{bytes_eq}
use Rattle.audit_binaries.proofs.PayloadLemmas.{reached_end, reached_first, reached_more}
use Rattle.audit_binaries.proofs.payloads.before_end.Goals as goal

pub loop-left-init : goal.loop-left-init
loop-left-init c = reached_first _

pub loop-left-preserved : goal.loop-left-preserved
loop-left-preserved c =
    let line = c.first_line.ensures in
    let other = ap (bytes_eq c.first_line.result.0.now) (sym c.as_bytes.ensures.value) ∙ sym c.eq.ensures ∙ c.if-eq.false in
    reached_more _ _ _ _ line.lines line.whole other c.loop-left.invariant

pub returns-then-eq : goal.returns-then-eq
returns-then-eq c =
    let here = ap (bytes_eq c.first_line.result.0.now) (sym c.as_bytes.ensures.value) ∙ sym c.eq.ensures ∙ c.if-eq.true in
    reached_end _ _ _ c.first_line.result.1.now c.first_line.ensures.lines here c.loop-left.invariant
