-- Which calls on the disk failed in an audit, turn by turn (this project).
use Rattle.std.specs.Prelude.{◌≡◌, ◌≢◌, ◌⊎◌, ℕ, List, [], ◌∷◌, ◌++◌, Option, Some, None, IfSome, IsSomeAnd, option_map}
use Rattle.tame_cache.specs.Disk.{reads}
use Rattle.tame_cache.specs.FailedCalls.{FailedDiskCalls, FailedReading}
use Rattle.tame_cache.specs.Kept.{Disk}
use Rattle.tame_cache.specs.declared.disk.DiskCall.TheVariants as disk_call
use Rattle.tame_cache.specs.declared.disk.FailedDiskCall.{FailedDiskCall}
use Rattle.tame_sparse.specs.Exchanges.{crates_io_index}
use Rattle.tame_sparse.specs.Named.{NamesUnlessFailed}
use Rattle.tame_sparse.specs.ResponseResults.{IsToStore, StoresUnlessFailed, entry_of}
use Rattle.tame_sparse.specs.declared.network.Exchange.{Exchange}
use Rattle.audit_lock.specs.declared.resolving.Package.{Package}
use Rattle.audit_core.specs.Blamed.{BlamesRead, BlamesStore}
use Rattle.audit_core.specs.Turns.{index_file}
use Rattle.audit_core.specs.Verdicts.{AreVerdicts, verdict_by}
use Rattle.audit_core.specs.declared.answers.PathAnswer.{PathAnswer}
use Rattle.audit_core.specs.declared.answers.PathAnswer.TheVariants.{Settled}
use Rattle.audit_core.specs.declared.asking.Turn.{Turn}
use Rattle.audit_core.specs.declared.verdicts.Cause.TheVariants as cause
use Rattle.audit_core.specs.declared.verdicts.Judged.{Judged}
use Rattle.audit_core.specs.declared.verdicts.Verdict.{Verdict}
use Rattle.audit_core.specs.declared.verdicts.Verdict.TheVariants.{Unchecked}

-- packages and their verdicts
pub record Verdicts : Type 0 where
  pub packages : List (ℕ × Package)
  pub verdicts : List Judged

abbrev pub verdicts_of : List (ℕ × Package) → List Judged → Verdicts
verdicts_of packages verdicts = record { packages = packages; verdicts = verdicts }

-- each package of a path is judged by this answer
abbrev pub IsAnswerFor : Verdicts → List ℕ → PathAnswer → Type 0
IsAnswerFor v p a =
    AreVerdicts (λ version q verdict. q ≡ Some p → verdict ≡ verdict_by a version) v.packages
    v.verdicts

-- one step for each of these, in their order: the first begins with the calls that had failed
-- before, each goes on from the end of the one before, and the last ends with those failed by now
abbrev pub InSteps : {A : Type 0} → (A → FailedDiskCalls → FailedDiskCalls → Type 0)
    → FailedDiskCalls → List A → FailedDiskCalls → Type 0
InSteps Step before [] now = now ≡ before
InSteps Step before (x ∷ xs) now =
    (mid : FailedDiskCalls) × Step x before mid × InSteps Step mid xs now

-- the turn of an exchange, over the files at the audit's entry and at its exit
pub record IsTurnByCalls (old new : Disk) (v : Verdicts) (e : Exchange)
    (before now : FailedDiskCalls) : Type 0 where
  -- the calls that have failed before the exchange
  pub asked : FailedDiskCalls
  -- the request names what the file's revision allows, and no call failed; or it names nothing, and
  -- the read of that file failed
  pub named : NamesUnlessFailed crates_io_index (index_file e.path)
      (reads (old (index_file e.path))) before asked e.named
  -- the answer by which the packages of the path are judged
  pub answer : PathAnswer
  pub judged : IsAnswerFor v e.path answer
  -- after the exchange: the store is blamed if the read of the file failed; else at most one call
  -- failed, which writes it
  pub blames : BlamesStore (index_file e.path) asked now answer
  -- a body that is stored is the file's entry, unless a call failed that writes the file
  pub stored : IfSome e.answer (λ c. IsToStore crates_io_index c
      → StoresUnlessFailed (entry_of crates_io_index c) (index_file e.path)
      (new (index_file e.path)) asked now)
  -- if nothing is stored no call failed except the one that is blamed
  pub unfailed : ¬ (IsSomeAnd e.answer (IsToStore crates_io_index))
      → answer ≢ Settled cause.Store → now ≡ asked

-- the same for a turn alone, if the wire doesn't tell its exchange
pub record IsAskedTurn (v : Verdicts) (t : Turn) (before now : FailedDiskCalls) : Type 0 where
  pub asked : FailedDiskCalls
  pub read : (asked ≡ before) ⊎ FailedReading (index_file t.path) before asked
  pub answer : PathAnswer
  pub judged : IsAnswerFor v t.path answer
  pub blames : BlamesStore (index_file t.path) asked now answer

-- a turn by the cache alone
pub record IsReadTurn (v : Verdicts) (t : Turn) (before now : FailedDiskCalls) : Type 0 where
  pub answer : PathAnswer
  pub judged : IsAnswerFor v t.path answer
  pub blames : BlamesRead (index_file t.path) before now answer

-- ---- what that says about a package

abbrev pub read_of : List ℕ → FailedDiskCall
read_of q = record { call = disk_call.Read; path = q }

-- the read of this file is among the calls that failed meanwhile; or they are no longer told
abbrev pub IsReadFailed : List ℕ → FailedDiskCalls → FailedDiskCalls → Type 0
IsReadFailed q before now =
    (now ≡ None)
    ⊎ ((first : List FailedDiskCall) × (last : List FailedDiskCall)
    × (now ≡ option_map (λ calls. calls ++ (first ++ read_of q ∷ last)) before))

-- a package of a path is unchecked by the store only if the read of the path's file failed
abbrev pub IsBlamedAt : FailedDiskCalls → FailedDiskCalls → List ℕ → Option (List ℕ) → Verdict
    → Type 0
IsBlamedAt before now version None verdict = verdict ≡ Unchecked cause.Name
IsBlamedAt before now version (Some q) verdict =
    verdict ≡ Unchecked cause.Store → IsReadFailed (index_file q) before now
