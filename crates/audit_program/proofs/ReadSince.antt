-- An audit, and then a call that only reads the cache.
use Rattle.std.proofs.Common.{◌≡◌, ℕ, List, [], ◌++◌}
use Rattle.tame_cache.specs.Kept.{Disk}
use Rattle.tame_cache.proofs.KeptLemmas.{keeps_same, keeps_then}
use Rattle.tame_sparse.specs.Exchanges.{crates_io_index}
use Rattle.tame_sparse.specs.declared.network.Exchange.{Exchange}
use Rattle.audit_core.specs.Turns.{StaysKept}
use Rattle.audit_core.proofs.SentLemmas.{sent_after}

-- a disk that stayed kept does so if no file changed since
pub kept_then_read : (before now : List Exchange) (old mid new : Disk) → StaysKept before now old mid → ((q : List ℕ) → new q ≡ mid q) → StaysKept before now old new
kept_then_read before now old mid new h same = record {
  kept = λ m added is honest kept. keeps_then m crates_io_index [] old mid new (h.kept m added is honest kept) (λ k. keeps_same m crates_io_index [] mid new same k);
  sent = λ es added is holds.
      let first = h.sent es added is holds in
      sent_after (es ++ added) old mid new same first;
}
