use Rattle.std.proofs.Common.{◌≡◌, length}
use Rattle.tame_entry.specs.Krates.{read_lines}
use Rattle.tame_entry.proofs.KrateLemmas.{before}
use Rattle.tame_entry.proofs.krates.read_lines.Given as goal

-- the versions so far, before those of what is left
abbrev pub invariant-loop-line : goal.invariant-loop-line
invariant-loop-line l = read_lines 0 l.fn.lines ≡ before l.versions (read_lines (length l.versions) l.line-iterator)
