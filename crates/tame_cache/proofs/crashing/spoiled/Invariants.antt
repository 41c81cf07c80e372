use Rattle.std.proofs.Common.{◌≡◌, [], take}
use Rattle.tame_cache.specs.Calls.{file_of, past_of}
use Rattle.tame_cache.specs.MemoryDisk.{spoiled}
use Rattle.tame_cache.proofs.crashing.spoiled.Given as goal

abbrev pub invariant-loop-call : goal.invariant-loop-call
invariant-loop-call l = file_of l.file ≡ spoiled (past_of l.path [] (take l.call-index l.calls))
