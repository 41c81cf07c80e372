-- Runs at once on one cache, each between the taking and the giving back of its lock (this project).
use Rattle.std.specs.Prelude.{◌≡◌, ℕ, List, [], ◌∷◌, ◌++◌}
use Rattle.tame_entry.specs.ServerMaps.{ServerMap}
use Rattle.tame_cache.specs.Kept.{Disk, IsCrash, IsUnbelieved}
use Rattle.tame_names.specs.declared.locks.LockState.TheVariants as state
use Rattle.tame_sparse.specs.Exchanges.{crates_io_index}
use Rattle.tame_sparse.specs.Honest.{AreHonest}
use Rattle.tame_sparse.specs.declared.network.Exchange.{Exchange}
use Rattle.audit_program.specs.Jobs.{Asking}
use Rattle.audit_program.specs.RunHistories.{Objects, uncalled_since}
use Rattle.audit_program.specs.Runs.{IsRun}
use Rattle.audit_program.specs.Worlds.{Telling, World}
use Rattle.audit_program.specs.declared.outcomes.Outcome.{Outcome}
use Rattle.audit_start.specs.Needs.{lock_of}

-- the caches of two worlds are one
abbrev pub IsSameCache : World → World → Type 0
IsSameCache a b = (q : List ℕ) → b.cache q ≡ a.cache q

-- a run on a cache, from the taking of its lock to the giving back, whose exchanges are honest for a
-- map
pub record IsLockedRun (F P R W D : Type 0) (past : D → Disk) (tells : Telling) (m : ServerMap)
    (asking : Asking) (before now : World) : Type 0 where
  pub objects : Objects F P R W D
  pub objects_next : Objects F P R W D
  pub outcome : Outcome
  pub added : List Exchange
  pub run : IsRun tells asking (uncalled_since F P R W D objects objects_next) before now outcome
  pub follow : now.exchanges ≡ before.exchanges ++ added
  pub honest : AreHonest m added
  pub cache : before.cache ≡ past objects.disk
  pub cache_now : now.cache ≡ past objects_next.disk

-- who holds the lock: one run alone, or runs that share it, each by what was outside of it as it
-- took the lock
pub data Holders : Type 0 where
  Alone : (taken : World) → Holders
  Together : (all : List World) → Holders

-- a run that took the lock then is one of them
abbrev pub IsHolder : World → Holders → Type 0
IsHolder taken (Alone w) = w ≡ taken
IsHolder taken (Together all) =
    (front : List World) × (back : List World) × (all ≡ front ++ taken ∷ back)

-- what was done under a lock that excludes: of two runs that hold it at once, both share it. A run
-- takes it alone if nobody holds it, and shares it if nobody holds it alone. What a run finds in the
-- cache as it takes the lock is what is there; what it leaves is there as it gives the lock back.
-- All else that is outside may have changed by then. A crash ends all runs. Here: when the last
-- run began, what is outside now, and who holds the lock
pub data LockHistory (F P R W D : Type 0) (past : D → Disk) (tells : Telling) (m : ServerMap)
    : World → World → Holders → Type 0 where
  begins : (world : World) → IsUnbelieved crates_io_index [] world.cache
      → LockHistory F P R W D past tells m world world (Together [])
  takes_alone : (began now taken : World)
      → LockHistory F P R W D past tells m began now (Together []) → IsSameCache now taken
      → LockHistory F P R W D past tells m began now (Alone taken)
  takes_shared : (began now taken : World) (all : List World)
      → LockHistory F P R W D past tells m began now (Together all) → IsSameCache now taken
      → LockHistory F P R W D past tells m began now (Together (taken ∷ all))
  ends_alone : (began now taken next : World) (asking : Asking)
      → LockHistory F P R W D past tells m began now (Alone taken)
      → IsLockedRun F P R W D past tells m asking taken next
      → LockHistory F P R W D past tells m taken next (Together [])
  ends_shared : (began now taken next : World) (front back : List World) (asking : Asking)
      → LockHistory F P R W D past tells m began now (Together (front ++ taken ∷ back))
      → lock_of asking ≡ state.Shared
      → IsLockedRun F P R W D past tells m asking taken next
      → LockHistory F P R W D past tells m taken next (Together (front ++ back))
  crashes : (began now next : World) (all : List World)
      → LockHistory F P R W D past tells m began now (Together all)
      → IsCrash began.cache now.cache next.cache
      → LockHistory F P R W D past tells m next next (Together [])
