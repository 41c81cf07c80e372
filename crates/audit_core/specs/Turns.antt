-- The turns of an audit: one for each path, one exchange each, their counts chained (this project).
use Rattle.std.specs.Prelude.{◌≡◌, ◌≢◌, ◌≤◌, ℕ, List, [], ◌∷◌, ◌++◌, map, take, IsTrue, Option, Some, IfSome, IsSomeAnd}
use Rattle.tame_names.specs.Counts.{CountStayed, CountRose}
use Rattle.tame_names.specs.Names.{IsIndexPath, path}
use Rattle.tame_entry.specs.ServerMaps.{ServerMap}
use Rattle.tame_cache.specs.Disk.{Step, reads}
use Rattle.tame_cache.specs.FailedCalls.{FailedDiskCalls}
use Rattle.tame_cache.specs.Gate.{IsStored}
use Rattle.tame_cache.specs.Kept.{Disk, IsKept, Keeps, cache_file, cache_file_of}
use Rattle.tame_sparse.specs.ResponseResults.{IsToStore, StoresUnlessFailed, entry_of}
use Rattle.tame_sparse.specs.Exchanges.{crates_io_index, crates_io_uri}
use Rattle.tame_sparse.specs.Honest.{AreHonest, IsHonest}
use Rattle.tame_sparse.specs.Named.{NamesKept, NamesUnlessFailed}
use Rattle.tame_sparse.specs.declared.network.Exchange.{Exchange}
use Rattle.tame_sparse.specs.declared.network.WireAnswer.{WireAnswer}
use Rattle.audit_core.specs.Answers.{IsAnswer, IsNotModified}
use Rattle.audit_core.specs.Blamed.{BlamesStore}
use Rattle.audit_core.specs.Paths.{is_among}
use Rattle.audit_core.specs.Sent.{HoldsSent, KeepsSent}
use Rattle.audit_core.specs.declared.answers.PathAnswer.{PathAnswer}
use Rattle.audit_core.specs.declared.answers.PathAnswer.TheVariants.{Settled}
use Rattle.audit_core.specs.declared.asking.AnsweredTurn.{AnsweredTurn}
use Rattle.audit_core.specs.declared.asking.Turn.{Turn}
use Rattle.audit_core.specs.declared.verdicts.Cause.TheVariants as cause

-- the file of a path, in the folder `.cache`
abbrev pub index_file : List ℕ → List ℕ
index_file p = cache_file [] p

-- this is the file of none of these names
abbrev pub IsNoFileOf : List (List ℕ) → List ℕ → Type 0
IsNoFileOf [] q = Unit {0}
IsNoFileOf (name ∷ names) q = (cache_file_of [] name ≢ Some q) × IsNoFileOf names q

-- this is the file of one of these names
abbrev pub IsFileOf : List (List ℕ) → List ℕ → Type 0
IsFileOf names q = (name : List ℕ) × IsTrue (is_among name names) × (cache_file_of [] name ≡ Some q)

-- ---- counts

-- the counts of the wire and of the disk at the first turn are the first numbers, each turn goes on
-- from the end of the one before, and the last ends at the last; within a turn they never fall
abbrev pub Chains : ℕ → ℕ → List Turn → ℕ → ℕ → Type 0
Chains wire disk [] last_wire last_disk = (last_wire ≡ wire) × (last_disk ≡ disk)
Chains wire disk (t ∷ ts) last_wire last_disk =
    (t.wire_before ≡ wire) × (t.wire_before ≤ t.wire_after) × (t.disk_before ≡ disk)
    × (t.disk_before ≤ t.disk_asked) × (t.disk_asked ≤ t.disk_after)
    × Chains t.wire_after t.disk_after ts last_wire last_disk

-- a failed exchange raised the wire's count in its turn, and a file that couldn't be read the
-- disk's after the exchange
pub record IsCaused (h : AnsweredTurn) : Type 0 where
  pub wire : h.answer ≡ Settled cause.Wire → CountRose h.turn.wire_before h.turn.wire_after
  pub store : h.answer ≡ Settled cause.Store → CountRose h.turn.disk_asked h.turn.disk_after

abbrev pub AreCaused : List AnsweredTurn → Type 0
AreCaused [] = Unit {0}
AreCaused (h ∷ hs) = IsCaused h × AreCaused hs

-- ---- what a turn keeps of an answer

-- if the disk's count stayed the file is the entry of an answer that is stored, and a crash
-- leaves no other; after any other answer it is as it was
pub record LeavesFile (came : Option WireAnswer) (asked after : ℕ)
    (old new : List Step) : Type 0 where
  pub stored : IfSome came (λ a. IsToStore crates_io_index a → CountStayed asked after
      → IsStored (entry_of crates_io_index a) new)
  pub unstored : ¬ (IsSomeAnd came (IsToStore crates_io_index)) → new ≡ old

-- ---- where it is asked

-- each exchange is one with the index of crates.io: its url is that of the index and the path
abbrev pub AreAddressed : List Exchange → Type 0
AreAddressed [] = Unit {0}
AreAddressed (e ∷ es) = (e.url ≡ crates_io_uri e.path) × AreAddressed es

-- ---- turns with their exchanges, from one state of the disk to the next

-- the disk between two calls: its files, and the calls on it that have failed
pub record DiskAt : Type 0 where
  pub files : Disk
  pub failed : FailedDiskCalls

abbrev pub disk_at : Disk → FailedDiskCalls → DiskAt
disk_at files failed = record { files = files; failed = failed }

-- what an exchange does, by the disk's counts and its failed calls before it and after the response
pub record IsExchanged (told : Type 0) (asked after : ℕ) (old new : DiskAt) (e : Exchange)
    (a : PathAnswer) : Type 0 where
  pub answer : (IsNotModified e.answer → told)
      → IsAnswer (reads (old.files (index_file e.path))) e.answer a
  pub leaves : told → LeavesFile e.answer asked after (old.files (index_file e.path))
      (new.files (index_file e.path))
  pub others : told → (q : List ℕ) → q ≢ index_file e.path → new.files q ≡ old.files q
  pub keeps : told → (m : ServerMap) → IsHonest m e → IsKept m crates_io_index [] old.files
      → Keeps m crates_io_index [] old.files new.files
  -- an answer that is stored is the file's entry, unless a call failed that writes the file
  pub stored : told → IfSome e.answer (λ c. IsToStore crates_io_index c
      → StoresUnlessFailed (entry_of crates_io_index c) (index_file e.path)
      (new.files (index_file e.path)) old.failed new.failed)
  -- the store is blamed if the read of the file failed; else at most one call failed, which
  -- writes it, and none if the answer isn't stored
  pub blames : BlamesStore (index_file e.path) old.failed new.failed a
  pub unfailed : ¬ (IsSomeAnd e.answer (IsToStore crates_io_index)) → a ≢ Settled cause.Store
      → new.failed ≡ old.failed

pub record IsTurn (told : Type 0) (old new : DiskAt) (e : Exchange) (h : AnsweredTurn)
    : Type 0 where
  pub place : IsIndexPath e.path
  pub url : e.url ≡ crates_io_uri e.path
  pub path : e.path ≡ h.turn.path
  pub named : told
      → NamesKept crates_io_index (reads (old.files (index_file e.path))) h.turn.disk_before
      h.turn.disk_asked e.named
  -- the calls that have failed before the exchange
  pub asked : FailedDiskCalls
  pub named_unless_failed : told
      → NamesUnlessFailed crates_io_index (index_file e.path)
      (reads (old.files (index_file e.path))) old.failed asked e.named
  pub exchanged : IsExchanged told h.turn.disk_asked h.turn.disk_after (disk_at old.files asked)
      new e h.answer

abbrev pub TurnsInOrder : Type 0 → DiskAt → List Exchange → List AnsweredTurn → DiskAt → Type 0
TurnsInOrder told old [] [] new =
    (told → (q : List ℕ) → new.files q ≡ old.files q) × (new.failed ≡ old.failed)
TurnsInOrder told old (e ∷ es) (h ∷ hs) new =
    (mid : DiskAt) × IsTurn told old mid e h × TurnsInOrder told mid es hs new
TurnsInOrder told old _ _ new = ⊥

-- exactly these exchanges follow the list: one for each turn
abbrev pub AddsTurns : Type 0 → List Exchange → List Exchange → DiskAt → List AnsweredTurn
    → DiskAt → Type 0
AddsTurns told before now old hs new =
    (es : List Exchange) × (now ≡ before ++ es) × TurnsInOrder told old es hs new

-- exchanges for the first few of these paths follow the list
abbrev pub AddsPart : List (List ℕ) → List Exchange → List Exchange → Type 0
AddsPart paths before now =
    (es : List Exchange) × (k : ℕ) × (now ≡ before ++ es) × (map (λ e. e.path) es ≡ take k paths)
    × AreAddressed es

-- the same by the names of these paths
abbrev pub AddsNamed : List (List ℕ) → List Exchange → List Exchange → Type 0
AddsNamed names before now =
    (es : List Exchange) × (k : ℕ) × (now ≡ before ++ es)
    × (map (λ e. Some e.path) es ≡ take k (map path names)) × AreAddressed es

-- ---- kept all the time

-- by the exchanges that follow the list
pub record StaysKept (before now : List Exchange) (old new : Disk) : Type 0 where
  -- if they are honest for a map for which the disk was kept, it was kept all the time
  pub kept : (m : ServerMap) (added : List Exchange) → now ≡ before ++ added → AreHonest m added
      → IsKept m crates_io_index [] old → Keeps m crates_io_index [] old new
  -- if each file was of what some exchanges were answered with, it was all the time of what
  -- these were, and those that follow the list
  pub sent : (es added : List Exchange) → now ≡ before ++ added → HoldsSent es old
      → KeepsSent (es ++ added) old new
