use Rattle.std.proofs.Common.{ℕ, ◌+◌, ◌-◌, ◌<◌, ◌≤◌, List, length, drop}
use Rattle.tame_records.specs.Quick.{HasText}
use Rattle.tame_records.proofs.quick_texts.text_end.Given as goal

-- the string after the quote ends where the string from here on does
abbrev pub invariant-runs : goal.invariant-runs
invariant-runs l = record {
  more : (s ys : List ℕ) → HasText (drop l.end l.bytes) s ys → (t : List ℕ) × HasText (drop (l.at + 1) l.bytes) t ys;
  room : l.end ≤ length l.bytes;
  later : l.at < l.end;
}

abbrev pub decreases-runs : goal.decreases-runs
decreases-runs l = length l.bytes - l.end
