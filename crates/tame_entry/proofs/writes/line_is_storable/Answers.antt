use Rattle.std.proofs.Common.{◌∙◌}
use Rattle.tame_entry.proofs.Zeros.{pair_same}
use Rattle.tame_entry.proofs.writes.line_is_storable.Goals as goal

pub returns : goal.returns
returns c = c.has_no_zero.ensures ∙ pair_same c.args.line.now
