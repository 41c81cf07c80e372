-- What the steps of a write keep of a cache file (this project).
use Rattle.std.specs.Prelude.{◌≡◌, ◌≢◌, ◌⊎◌, ℕ, ◌≤◌, List, ◌∷◌, length, Some, None, IsErr}
use Rattle.tame_entry.specs.Entry.{read_entry}
use Rattle.tame_cache.specs.Disk.{File, Step, content, first_of, reads, may_leave, IsAlone}
use Rattle.tame_cache.specs.declared.disk.Peek.{Peek}

-- no readable entry: there is no file, or its bytes are refused, whatever the index
abbrev pub IsUnreadable : File → Type 0
IsUnreadable None = Unit {0}
IsUnreadable (Some bytes) = (index : List ℕ) → IsErr (read_entry index bytes)

-- what a crash may leave of a file while an entry of these bytes is stored: one that it could leave
-- before, an unreadable one, or the whole entry
abbrev pub MayStore : List Step → List ℕ → File → Type 0
MayStore past bytes file = may_leave past file ⊎ (IsUnreadable file ⊎ (file ≡ Some bytes))

-- if a read finds no file, a crash leaves none, or one of at most one byte
abbrev pub IsOrderly : List Step → Type 0
IsOrderly past = reads past ≡ None → (file : File) → may_leave past file → length (content file) ≤ 1

-- a file was settled: this is its first byte, and if there is a file a crash leaves no other
pub record IsSettled (seen : Peek) (past : List Step) : Type 0 where
  pub answer : seen ≡ first_of (reads past)
  pub only : reads past ≢ None → IsAlone past

abbrev pub BeginsWithZero : File → Type 0
BeginsWithZero file = (rest : List ℕ) × (file ≡ Some (0 ∷ rest))

-- byte 0 comes first in each file that a crash may leave
abbrev pub IsShut : List Step → Type 0
IsShut past = (file : File) → may_leave past file → BeginsWithZero file

-- the gate is closed: byte 0 comes first, and a crash leaves no other file
pub record IsClosed (past : List Step) : Type 0 where
  pub first : BeginsWithZero (reads past)
  pub only : IsAlone past

-- two files that are equal after their first bytes
abbrev pub DiffersInFirst : File → File → Type 0
DiffersInFirst one other =
    (x : ℕ) × (y : ℕ) × (rest : List ℕ) × (one ≡ Some (x ∷ rest)) × (other ≡ Some (y ∷ rest))

-- the file has these bytes, and a crash leaves no other
pub record IsStored (bytes : List ℕ) (past : List Step) : Type 0 where
  pub whole : reads past ≡ Some bytes
  pub only : IsAlone past
