use Rattle.std.proofs.Common.{◌≡◌, map}
use Rattle.std.specs.List.{list_all}
use Rattle.tame_entry.specs.Entry.{is_storable_pair, pair_of}
use Rattle.tame_entry.specs.JsonLines.{lines_of}
use Rattle.tame_entry.proofs.writes.lines_are_storable.Given as goal

-- what is left decides
abbrev pub invariant-loop-line : goal.invariant-loop-line
invariant-loop-line l = list_all is_storable_pair (map pair_of (lines_of l.fn.lines)) ≡ list_all is_storable_pair (map pair_of l.line-iterator)
