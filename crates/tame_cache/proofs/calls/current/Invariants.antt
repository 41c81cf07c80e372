use Rattle.std.proofs.Common.{◌≡◌, [], take}
use Rattle.std.specs.Option.{option_copied}
use Rattle.tame_cache.specs.Disk.{reads}
use Rattle.tame_cache.specs.Calls.{file_of, past_of}
use Rattle.tame_cache.proofs.calls.current.Given as goal

abbrev pub invariant-loop-call : goal.invariant-loop-call
invariant-loop-call l = file_of (option_copied l.found) ≡ reads (past_of l.path [] (take l.call-index l.calls))
