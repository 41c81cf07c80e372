use Rattle.std.proofs.Common.{◌≡◌, [], take, ℕ, List}
use Rattle.tame_cache.specs.Calls.{past_of}
use Rattle.tame_cache.proofs.Copies.{IsCopied}
use Rattle.tame_cache.proofs.memory_disk.MemCacheDisk.after_crash.Given as goal

-- the files of the calls so far are copied, and nothing else of the copy changes
abbrev pub invariant-loop-call : goal.invariant-loop-call
invariant-loop-call l = record {
  copied : (q : List ℕ) → IsCopied l.pick q (past_of q [] l.next.changes) (past_of q [] (take l.call-index l.fn.self.changes)) (past_of q [] l.fn.self.changes);
  folders : l.next.folders ≡ l.initial.next.folders;
  tears : l.next.tears ≡ l.initial.next.tears;
  counts : l.next.counts ≡ l.initial.next.counts;
}
