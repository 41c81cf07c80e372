use Rattle.std.proofs.Common.{◌≡◌, ◌≤◌, length, ◌-◌, reverse, take, drop}
use Rattle.tame_entry.specs.Scan.{flag_back, line_flag}
use Rattle.tame_entry.proofs.scan.line_flag.Given as goal

-- what is left, and the part between here and where the one after it begins
abbrev pub invariant-loop-at : goal.invariant-loop-at
invariant-loop-at l = record {
  ordered : l.at ≤ l.end;
  within : l.end ≤ length l.line;
  left : line_flag l.line ≡ flag_back (reverse (take l.at l.line)) (take (l.end - l.at) (drop l.at l.line));
}

abbrev pub decreases-loop-at : goal.decreases-loop-at
decreases-loop-at l = l.at
