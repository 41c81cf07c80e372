use Rattle.std.proofs.Common.{◌≡◌, ◌≤◌, ◌-◌, ◌/◌, [], take, drop, length}
use Rattle.tame_cache.specs.Calls.{past_of}
use Rattle.tame_cache.proofs.crashing.half.Given as goal

-- what is left to be dropped of the changes up to the end
abbrev pub invariant-loop-left : goal.invariant-loop-left
invariant-loop-left l = record {
  within : l.end ≤ length l.calls;
  dropped : drop l.left (past_of l.path [] (take l.end l.calls)) ≡ drop (l.pending - l.pending / 2) (past_of l.path [] l.calls);
}

abbrev pub decreases-loop-left : goal.decreases-loop-left
decreases-loop-left l = l.end
