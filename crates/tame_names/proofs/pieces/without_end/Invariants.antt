use Rattle.std.proofs.Common.{◌≡◌, ◌≤◌, length, take}
use Rattle.tame_names.specs.Pieces.{without_end}
use Rattle.tame_names.proofs.pieces.without_end.Given as goal

-- the bytes after the end are needles
abbrev pub invariant-loop-end : goal.invariant-loop-end
invariant-loop-end l = record {
  within : l.end ≤ length l.bytes;
  same : without_end l.needle l.bytes ≡ without_end l.needle (take l.end l.bytes);
}

abbrev pub decreases-loop-end : goal.decreases-loop-end
decreases-loop-end l = l.end
