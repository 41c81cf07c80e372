use Rattle.std.proofs.Common.{string_bytes, sym, ap, ◌∙◌}
use Rattle.audit_core.proofs.Lists.{if_ok}
use Rattle.audit_generator.specs.Summaries.{yanked_count}
use Rattle.audit_generator.proofs.Summed.{lines_over, summed_for}
use Rattle.audit_generator.proofs.summaries.summary_text.Goals as goal

pub returns-clause-over : goal.returns-clause-over
returns-clause-over c =
    if_ok c.last_lines.result
    (λ t made. lines_over t (string_bytes c.in_ok-text.text) c.args.n c.len.result c.yanked_count.result c.answered.result c.answered-2.result c.same_verdicts.result c.args.generated.now
    made c.in_ok-text.ensures c.len.ensures (c.yanked_count.ensures ∙ ap yanked_count c.as_slice.ensures) c.answered.ensures c.answered-2.ensures
    (λ same. sym c.as_slice-2.ensures ∙ c.same_verdicts.ensures.0 same ∙ c.as_slice-3.ensures, λ e. c.same_verdicts.ensures.1 (c.as_slice-2.ensures ∙ e ∙ sym c.as_slice-3.ensures)))
    c.last_lines.ensures

pub returns-clause-summary : goal.returns-clause-summary
returns-clause-summary c is =
    if_ok c.last_lines.result (λ t over. summed_for c.args.n c.args.generated.now t is over) (returns-clause-over c)
