use Rattle.tame_entry.proofs.CommitLemmas.{commit_utf8}
use Rattle.tame_entry.proofs.sha1.Sha1Hex.as_str.Goals as goal

pub unreachable-requires : goal.unreachable-requires
unreachable-requires c = c.in-Err.ensures.cases.0 (commit_utf8 c.self.inside.digits c.self.invariant)
