use Rattle.std.proofs.Common.{◌≡◌, length}
use Rattle.tame_entry.specs.Krates.{read_pairs}
use Rattle.tame_entry.proofs.KrateLemmas.{before}
use Rattle.tame_entry.proofs.krates.read_pairs.Given as goal

-- the versions so far, before those of what is left
abbrev pub invariant-loop-left : goal.invariant-loop-left
invariant-loop-left l = read_pairs 0 l.fn.parts ≡ before l.versions (read_pairs (length l.versions) l.left)
