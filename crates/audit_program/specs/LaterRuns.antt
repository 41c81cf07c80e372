-- What comes between a run that asks the server and a later one by the cache alone (this project).
use Rattle.std.specs.Prelude.{◌≡◌, ℕ, List, IsTrue}
use Rattle.tame_cache.specs.Disk.{IsAlone}
use Rattle.tame_cache.specs.Kept.{Disk, IsCrash}
use Rattle.audit_core.specs.Paths.{is_among}
use Rattle.audit_core.specs.Turns.{index_file}

-- the files of these paths are as they were
abbrev pub LeavesFiles : List (List ℕ) → Disk → Disk → Type 0
LeavesFiles paths old new =
    (p : List ℕ) → IsTrue (is_among p paths) → new (index_file p) ≡ old (index_file p)

-- nothing is pending of them: a crash leaves what a read gives
abbrev pub AreAlone : List (List ℕ) → Disk → Type 0
AreAlone paths disk = (p : List ℕ) → IsTrue (is_among p paths) → IsAlone (disk (index_file p))

-- from a disk on: runs and audits that left the files of these paths, as those do that ask for none
-- of them, and crashes of such ones: when the last of them began, and what is now
pub data IsBetween (paths : List (List ℕ)) (start : Disk) : Disk → Disk → Type 0 where
  begins : IsBetween paths start start start
  calls : (began now next : Disk) → IsBetween paths start began now → LeavesFiles paths now next
      → IsBetween paths start now next
  crashes : (began now next : Disk) → IsBetween paths start began now
      → LeavesFiles paths began now → IsCrash began now next → IsBetween paths start next next
