use Rattle.std.proofs.Common.{◌∙◌, arith}
use Rattle.tame_entry.proofs.ScanLemmas.{from_brace}
use Rattle.tame_entry.proofs.scan.last_brace.Goals as goal

pub returns-in-125 : goal.returns-in-125
returns-in-125 c = (search arith, c.loop-at.invariant.left ∙ from_brace _ _ c.loop-at-test.true c.loop-at.invariant.within c.in-125.is)
