use Rattle.std.proofs.Common.{ap, ◌∙◌}
use Rattle.tame_names.specs.Paths.{parent_of_plain}
use Rattle.tame_names.proofs.Parents.{shorter}
use Rattle.tame_names.proofs.paths.parent.Goals as goal

pub returns-clause-shorter : goal.returns-clause-shorter
returns-clause-shorter c = shorter (λ folder. folder.now) _ _ (c.parent_of_plain.ensures ∙ ap parent_of_plain c.plain_path.ensures)
