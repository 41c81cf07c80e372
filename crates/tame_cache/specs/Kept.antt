-- What a cache may hold so that it never lies about a server (this project).
use Rattle.std.specs.Prelude.{◌≡◌, ◌⊎◌, ℕ, codes, List, [], ◌∷◌, length, IsErr, IsTrue, Option, Some, None, option_map, Result, Ok, Err}
use Rattle.tame_names.specs.Names.{IsIndexPath, path}
use Rattle.tame_names.specs.Paths.{join}
use Rattle.tame_names.specs.declared.errors.CacheError.{CacheError}
use Rattle.tame_entry.specs.Entry.{Pair, ReadEntry, entry, pairs, read_entry}
use Rattle.tame_entry.specs.ServerMaps.{Maps, ServerMap, body_at}
use Rattle.tame_entry.specs.Lines.{plain}
use Rattle.tame_entry.specs.Revision.{EntryRevision, Http, Commit, Unknown}
use Rattle.tame_entry.specs.declared.revisions.OwnedRevision.{OwnedRevision}
use Rattle.tame_cache.specs.Disk.{EachMoment, File, IsAlone, Step, Synced, left_since, may_leave, reads}
use Rattle.tame_cache.specs.Gate.{IsOrderly}

-- the changes of each file, by its path on the disk
abbrev pub Disk : Type 0
Disk = List ℕ → List Step

-- the file of an index path, in the folder `.cache` of a root
abbrev pub cache_file : List ℕ → List ℕ → List ℕ
cache_file root p = join (join root (codes ".cache")) p

-- that of a name, if it has a path
abbrev pub cache_file_of : List ℕ → List ℕ → Option (List ℕ)
cache_file_of root name = option_map (cache_file root) (path name)

-- ---- good files

-- under an HTTP revision the map gives a plain body, and the file is the entry of its lines
abbrev pub IsGoodUnder : ServerMap → List ℕ → List ℕ → List ℕ → EntryRevision → Type 0
IsGoodUnder m index p bytes (Http r) =
    (body : List ℕ) × Maps m p r body × IsTrue (plain body)
    × (bytes ≡ entry index (Http r) (pairs body))
IsGoodUnder m index p bytes (Commit digits) = Unit {0}
IsGoodUnder m index p bytes Unknown = Unit {0}

abbrev pub IsGoodRead : ServerMap → List ℕ → List ℕ → List ℕ → Result ReadEntry CacheError
    → Type 0
IsGoodRead m index p bytes (Ok e) = IsGoodUnder m index p bytes e.revision
IsGoodRead m index p bytes (Err f) = Unit {0}

-- a file of an index path is good for what a server held and the url of the index: it is absent, or
-- refused, or good under its revision
abbrev pub IsGood : ServerMap → List ℕ → List ℕ → File → Type 0
IsGood m index p None = Unit {0}
IsGood m index p (Some bytes) = IsGoodRead m index p bytes (read_entry index bytes)

-- ---- kept files

-- the file of an index path is kept: it is orderly, and each file that a crash now may leave is
-- good
pub record IsFileKept (m : ServerMap) (index p : List ℕ) (past : List Step) : Type 0 where
  pub orderly : IsOrderly past
  pub all_good : (file : File) → may_leave past file → IsGood m index p file

-- it was kept all the time from one moment to another
pub record KeepsFile (m : ServerMap) (index p : List ℕ) (old new : List Step) : Type 0 where
  pub orderly : IsOrderly new
  pub any_moment : EachMoment old new (IsGood m index p)

-- ---- kept disks

-- the file of each index path is kept
abbrev pub IsKept : ServerMap → List ℕ → List ℕ → Disk → Type 0
IsKept m index root disk =
    (p : List ℕ) → IsIndexPath p → IsFileKept m index p (disk (cache_file root p))

-- a disk was kept all the time from one moment to another
abbrev pub Keeps : ServerMap → List ℕ → List ℕ → Disk → Disk → Type 0
Keeps m index root old new =
    (p : List ℕ) → IsIndexPath p
    → KeepsFile m index p (old (cache_file root p)) (new (cache_file root p))

-- a crash now leaves no cache file
abbrev pub IsWithoutFiles : List ℕ → Disk → Type 0
IsWithoutFiles root disk =
    (p : List ℕ) → IsIndexPath p → (file : File) → may_leave (disk (cache_file root p)) file
    → file ≡ None

-- there is no file, or it is refused for the url of the index
abbrev pub IsRefused : List ℕ → File → Type 0
IsRefused index None = Unit {0}
IsRefused index (Some bytes) = IsErr (read_entry index bytes)

-- nothing is pending, and each cache file is refused for the url of the index, or isn't there
abbrev pub AreRefused : List ℕ → List ℕ → Disk → Type 0
AreRefused index root disk =
    (p : List ℕ) → IsIndexPath p
    → IsAlone (disk (cache_file root p)) × IsRefused index (reads (disk (cache_file root p)))

-- a disk on which nothing is believed: a crash leaves no cache file, or all are refused
abbrev pub IsUnbelieved : List ℕ → List ℕ → Disk → Type 0
IsUnbelieved index root disk = IsWithoutFiles root disk ⊎ AreRefused index root disk

-- what one map gives, the other gives too
abbrev pub IsAddedTo : ServerMap → ServerMap → Type 0
IsAddedTo m more =
    (p : List ℕ) (r : OwnedRevision) (body : List ℕ) → body_at m p r ≡ Some body
    → body_at more p r ≡ Some body

-- what is written under an HTTP revision is what the map gives for it: a plain body with these
-- lines
abbrev pub IsWrittenFor : ServerMap → List ℕ → EntryRevision → List Pair → Type 0
IsWrittenFor m p (Http r) ps =
    (body : List ℕ) × Maps m p r body × IsTrue (plain body) × (pairs body ≡ ps)
IsWrittenFor m p (Commit digits) ps = Unit {0}
IsWrittenFor m p Unknown ps = Unit {0}

-- ---- histories

-- each file becomes one that a crash since the start of the last call might have left, and nothing
-- is pending
abbrev pub IsCrash : Disk → Disk → Disk → Type 0
IsCrash began now next =
    (q : List ℕ) → (file : File) × left_since (length (began q)) (now q) file
    × (next q ≡ Synced file ∷ [])

-- calls and crashes on one disk on which nothing is believed at first: the disk when the last call
-- began, and the disk now
pub data History (m : ServerMap) (index root : List ℕ) : Disk → Disk → Type 0 where
  begins : (disk : Disk) → IsUnbelieved index root disk → History m index root disk disk
  calls : (began now next : Disk) → History m index root began now
      → (IsKept m index root now → Keeps m index root now next) → History m index root now next
  crashes : (began now next : Disk) → History m index root began now → IsCrash began now next
      → History m index root next next
