use Rattle.std.proofs.Common.{◌≡◌, ◌≤◌, [], take}
use Rattle.tame_cache.specs.Calls.{past_of}
use Rattle.tame_cache.specs.MemoryDisk.{pending}
use Rattle.tame_cache.proofs.crashing.pending.Given as goal

abbrev pub invariant-loop-call : goal.invariant-loop-call
invariant-loop-call l = record {
  count : l.count ≡ pending (past_of l.path [] (take l.call-index l.calls));
  within : l.count ≤ l.call-index;
}
