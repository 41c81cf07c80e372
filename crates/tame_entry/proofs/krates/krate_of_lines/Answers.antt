use Rattle.std.proofs.Common.{inr, ◌∙◌, sym, ap, length, ◌==◌}
use Rattle.tame_entry.proofs.KrateLemmas.{none_read}
use Rattle.tame_entry.proofs.krates.krate_of_lines.Goals as goal

pub returns-then-is_empty-clause-refused : goal.returns-then-is_empty-clause-refused
returns-then-is_empty-clause-refused c = inr (none_read _ _ c.in_ok-krate.ensures.ok (ap (λ v. length v == 0) (sym c.as_slice.ensures) ∙ sym c.is_empty.ensures ∙ c.if-is_empty.true))
