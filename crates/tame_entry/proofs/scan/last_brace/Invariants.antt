use Rattle.std.proofs.Common.{◌≡◌, ◌≤◌, length, reverse, take, drop}
use Rattle.tame_entry.specs.Scan.{flag_from, line_flag}
use Rattle.tame_entry.proofs.scan.last_brace.Given as goal

-- the bytes from here on are neither
abbrev pub invariant-loop-at : goal.invariant-loop-at
invariant-loop-at l = record {
  within : l.at ≤ length l.line;
  left : line_flag l.line ≡ flag_from (reverse (take l.at l.line)) (drop l.at l.line);
}

abbrev pub decreases-loop-at : goal.decreases-loop-at
decreases-loop-at l = l.at
