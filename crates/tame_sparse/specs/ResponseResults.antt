-- What an index returns for an answer (Cargo Book, "Registry Index", sparse protocol; RFC 9110,
-- section 15), and what it stores of that answer.
use Rattle.std.specs.Prelude.{◌≡◌, ◌≢◌, ◌⊎◌, ℕ, ◌+◌, codes, List, Bool, false, IsTrue, Option, Some, None, drop, option_map, IfSome, Result, Ok, Err, IfOk, IfErr}
use Rattle.tame_names.specs.Names.{path}
use Rattle.tame_names.specs.declared.errors.Error.{Error}
use Rattle.tame_names.specs.declared.errors.Error.TheVariants as error
use Rattle.tame_names.specs.declared.errors.HttpError.TheVariants as http_error
use Rattle.tame_names.specs.declared.errors.InvalidJsonLines.{InvalidJsonLines}
use Rattle.tame_names.specs.declared.errors.IoKind.TheVariants as io_kind
use Rattle.tame_records.specs.Lines.{lines}
use Rattle.tame_entry.specs.Entry.{entry, has_no_zero, pairs}
use Rattle.tame_entry.specs.ServerMaps.{Maps, ServerMap}
use Rattle.tame_entry.specs.JsonLines.{lines_of}
use Rattle.tame_entry.specs.Lines.{invalid, plain}
use Rattle.tame_entry.specs.Revision.{EntryRevision, Http, Unknown, entry_text, http_value}
use Rattle.tame_entry.specs.declared.index_entries.IndexEntry.{IndexEntry}
use Rattle.tame_entry.specs.declared.index_entries.IndexEntry.TheVariants.{Remote}
use Rattle.tame_entry.specs.declared.revisions.OwnedRevision.{OwnedRevision}
use Rattle.tame_cache.specs.Disk.{EachMoment, Step, may_leave}
use Rattle.tame_cache.specs.FailedCalls.{FailedDiskCalls, AddsFailedBut, FailedReading, FailedWriting}
use Rattle.tame_cache.specs.Gate.{IsOrderly, IsUnreadable, IsStored}
use Rattle.tame_cache.specs.Kept.{Disk, IsKept, Keeps, cache_file_of}
use Rattle.tame_cache.specs.LaidPieces.{piece_count}
use Rattle.tame_sparse.specs.Honest.{SaysAbsent}
use Rattle.tame_sparse.specs.declared.network.WireAnswer.{WireAnswer}
use Rattle.tame_sparse.specs.declared.responses.Response.{Response}

-- ---- the answer

abbrev pub ResponseResult : Type 0
ResponseResult = Result (Option IndexEntry) Error

-- the lines of a valid body
abbrev pub AreSentLines : List ℕ → Option IndexEntry → Type 0
AreSentLines body (Some (Remote json_lines)) =
    (lines_of json_lines ≡ lines body) × (invalid body ≡ None)
AreSentLines body _ = ⊥

-- they, or why the body isn't valid
pub record IsBodyResult (body : List ℕ) (taken : ResponseResult) : Type 0 where
  pub lines : IfOk taken (AreSentLines body)
  pub refused : IfErr taken (λ e. (e ≡ error.NoMemory)
      ⊎ ((why : InvalidJsonLines) × (e ≡ error.InvalidJsonLines why) × (invalid body ≡ Some why)))

-- the status that is refused, and its message
abbrev pub status_fault : Error → Option (ℕ × List ℕ)
status_fault (error.Http (http_error.StatusCode code msg)) = Some (code, msg.now)
status_fault _ = None

abbrev pub IsStatusFault : ℕ → List ℕ → ResponseResult → Type 0
IsStatusFault status text taken =
    (e : Error) × (taken ≡ Err e) × (status_fault e ≡ Some (status, text))

-- by the status; what comes at 304 is said separately, over the file of the cache
pub record IsResponseResult (response : Response) (taken : ResponseResult) : Type 0 where
  pub sent : response.status_code ≡ 200 → IsBodyResult response.body.now taken
  pub not_modified : response.status_code ≡ 304
      → IfErr taken (λ e. (e ≡ error.NoMemory) ⊎ (e ≡ error.Io io_kind.Failed))
  pub absent : SaysAbsent response.status_code → taken ≡ Ok None
  pub unauthorized : response.status_code ≡ 401
      → IsStatusFault 401 (codes "the request was not authorized") taken
  pub other : ¬ (SaysAbsent response.status_code) → response.status_code ≢ 200 → response.status_code ≢ 304
      → response.status_code ≢ 401
      → IsStatusFault response.status_code (codes "the status code is invalid for this protocol") taken

-- ---- what is stored

-- a response as the answer of a wire
abbrev pub came : Response → WireAnswer
came response = record {
  status = response.status_code;
  revision = option_map http_value response.revision;
  body = response.body.now;
}

-- the revision under which a body is stored: the one that came with it
abbrev pub stored_under : Option OwnedRevision → EntryRevision
stored_under None = Unknown
stored_under (Some r) = Http r

-- the entry of an answer, in the index at a url: the lines of its body under its revision
abbrev pub entry_of : List ℕ → WireAnswer → List ℕ
entry_of index answer = entry index (stored_under answer.revision) (pairs answer.body)

-- how many calls on the disk store it: one for each piece of its entry, and twelve more
abbrev pub storing_calls : List ℕ → WireAnswer → ℕ
storing_calls index answer = piece_count (drop 1 (entry_of index answer)) + 12

-- an answer is stored: a plain body was sent, and no zero byte is in its revision or in the url of
-- the index
pub record IsToStore (index : List ℕ) (answer : WireAnswer) : Type 0 where
  pub sent : answer.status ≡ 200
  pub plain : IsTrue (plain answer.body)
  pub storable : IsTrue (has_no_zero (entry_text (stored_under answer.revision)))
  pub named : IsTrue (has_no_zero index)

-- the map gives the body that was sent for its revision
abbrev pub IsHeldBody : ServerMap → List ℕ → WireAnswer → Type 0
IsHeldBody m p answer = answer.status ≡ 200 → IfSome answer.revision (λ r. Maps m p r answer.body)

-- the files of a cache afterwards: only the file of the name may change, and only if the answer is
-- stored; a crash at any moment leaves a file that it could have left before, a refused one, or the
-- entry whole; and a kept cache is kept at each moment
pub record Stores (index root name : List ℕ) (answer : WireAnswer) (write : Bool)
    (old new : Disk) : Type 0 where
  pub unwanted : write ≡ false → (q : List ℕ) → new q ≡ old q
  pub unstored : ¬ (IsToStore index answer) → (q : List ℕ) → new q ≡ old q
  pub others : (q : List ℕ) → cache_file_of root name ≢ Some q → new q ≡ old q
  pub any_moment : (q : List ℕ) → cache_file_of root name ≡ Some q → IsOrderly (old q)
      → EachMoment (old q) (new q) (λ file. may_leave (old q) file
      ⊎ (IsUnreadable file ⊎ (file ≡ Some (entry_of index answer))))
  pub orderly : (q : List ℕ) → cache_file_of root name ≡ Some q → IsOrderly (old q)
      → IsOrderly (new q)
  pub kept : (m : ServerMap) → ((p : List ℕ) → path name ≡ Some p → IsHeldBody m p answer)
      → IsKept m index root old → Keeps m index root old new

-- the file of the name is the entry, and a crash leaves no other
abbrev pub StoresWhole : List ℕ → List ℕ → List ℕ → WireAnswer → Disk → Type 0
StoresWhole index root name answer new =
    (q : List ℕ) → cache_file_of root name ≡ Some q → IsStored (entry_of index answer) (new q)

-- ---- which calls on the disk may have failed

-- a file holds these bytes, and no call failed; or one failed that writes the file, no other call
abbrev pub StoresUnlessFailed : List ℕ → List ℕ → List Step → FailedDiskCalls → FailedDiskCalls
    → Type 0
StoresUnlessFailed bytes q new before now =
    (IsStored bytes new × (now ≡ before)) ⊎ FailedWriting q before now

-- no call failed, or one that writes this file
abbrev pub FailedAtMostWriting : List ℕ → FailedDiskCalls → FailedDiskCalls → Type 0
FailedAtMostWriting q before now = (now ≡ before) ⊎ FailedWriting q before now

-- at not-modified the read of the file, if it is refused for another reason than out of memory;
-- else at most one call that writes the file, and only if the answer is stored
pub record FailsFor (index q : List ℕ) (answer : WireAnswer) (write : Bool)
    (before now : FailedDiskCalls) (taken : ResponseResult) : Type 0 where
  pub not_modified : answer.status ≡ 304
      → AddsFailedBut error.NoMemory (FailedReading q) before now taken
  pub sent : answer.status ≢ 304 → FailedAtMostWriting q before now
  pub unwanted : answer.status ≢ 304 → write ≡ false → now ≡ before
  pub unstored : answer.status ≢ 304 → ¬ (IsToStore index answer) → now ≡ before
