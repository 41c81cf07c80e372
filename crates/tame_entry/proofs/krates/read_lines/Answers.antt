use Rattle.std.proofs.Common.{◌∙◌}
use Rattle.tame_entry.proofs.KrateLemmas.{read_on}
use Rattle.tame_entry.proofs.krates.read_lines.Goals as goal

pub loop-line-preserved : goal.loop-line-preserved
loop-line-preserved c = c.loop-line.invariant ∙ read_on _ _ _ _ _ _ c.in-Some.ensures.steps c.in_ok-read_line.ensures.ok c.in_ok-add.ensures.ok
