-- What a cache holds of the answers to its exchanges (this project).
use Rattle.std.specs.Prelude.{◌≡◌, ◌⊎◌, ℕ, List, [], ◌∷◌, Some, IsSomeAnd}
use Rattle.tame_names.specs.Names.{IsIndexPath}
use Rattle.tame_cache.specs.Disk.{EachMoment, File, Step, may_leave}
use Rattle.tame_cache.specs.Gate.{IsOrderly}
use Rattle.tame_cache.specs.Kept.{Disk, IsRefused, cache_file}
use Rattle.tame_sparse.specs.Exchanges.{crates_io_index}
use Rattle.tame_sparse.specs.ResponseResults.{IsToStore, entry_of}
use Rattle.tame_sparse.specs.declared.network.Exchange.{Exchange}
use Rattle.tame_sparse.specs.declared.network.WireAnswer.{WireAnswer}

-- the answer is stored, and this is the file of its entry
abbrev pub IsEntryOf : File → WireAnswer → Type 0
IsEntryOf file answer =
    IsToStore crates_io_index answer × (file ≡ Some (entry_of crates_io_index answer))

-- this file is the entry of the answer to one of these exchanges with the path
abbrev pub WasSent : List Exchange → List ℕ → File → Type 0
WasSent [] p file = ⊥
WasSent (e ∷ es) p file =
    ((e.path ≡ p) × IsSomeAnd e.answer (IsEntryOf file)) ⊎ WasSent es p file

-- there is no file, or it is refused, or it is such an entry
abbrev pub IsSentFile : List Exchange → List ℕ → File → Type 0
IsSentFile es p file = IsRefused crates_io_index file ⊎ WasSent es p file

-- the file of an index path is orderly, and each that a crash now may leave is so
pub record HoldsSentFile (es : List Exchange) (p : List ℕ) (past : List Step) : Type 0 where
  pub orderly : IsOrderly past
  pub all : (file : File) → may_leave past file → IsSentFile es p file

-- it was so all the time from one moment to another
pub record KeepsSentFile (es : List Exchange) (p : List ℕ) (old new : List Step) : Type 0 where
  pub orderly : IsOrderly new
  pub any_moment : EachMoment old new (IsSentFile es p)

-- the same for the file of each index path
abbrev pub HoldsSent : List Exchange → Disk → Type 0
HoldsSent es disk = (p : List ℕ) → IsIndexPath p → HoldsSentFile es p (disk (cache_file [] p))

abbrev pub KeepsSent : List Exchange → Disk → Disk → Type 0
KeepsSent es old new =
    (p : List ℕ) → IsIndexPath p
    → KeepsSentFile es p (old (cache_file [] p)) (new (cache_file [] p))
