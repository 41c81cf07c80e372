-- What a request names: the revision that need not be sent again (RFC 9110, sections 13.1.2 and
-- 13.1.3).
use Rattle.std.specs.Prelude.{◌≡◌, ◌⊎◌, ℕ, List, length, ◌==◌, Option, Some, None, Result, Ok, Err, if◌then◌else◌}
use Rattle.std.specs.Str.{trim}
use Rattle.http_header.specs.FieldValue.{is_visible_text}
use Rattle.tame_names.specs.Counts.{CountStayed}
use Rattle.tame_names.specs.declared.errors.CacheError.{CacheError}
use Rattle.tame_names.specs.declared.errors.Error.{Error}
use Rattle.tame_names.specs.declared.errors.Error.TheVariants.{Http as HttpFault}
use Rattle.tame_names.specs.declared.errors.HttpError.TheVariants.{InvalidHeaderValue}
use Rattle.tame_entry.specs.Entry.{ReadEntry, read_entry}
use Rattle.tame_entry.specs.Revision.{EntryRevision, Http, Commit, Unknown, revision_text}
use Rattle.tame_entry.specs.declared.index_entries.IndexEntry.{IndexEntry}
use Rattle.tame_entry.specs.declared.index_entries.IndexEntry.TheVariants.{Remote, Cache, Local}
use Rattle.tame_entry.specs.declared.revisions.OwnedRevision.{OwnedRevision}
use Rattle.tame_entry.specs.declared.revisions.OwnedRevision.TheVariants.{Etag, LastModified}
use Rattle.tame_cache.specs.Disk.{File}
use Rattle.tame_cache.specs.FailedCalls.{FailedDiskCalls, FailedReading}

-- a revision with its text trimmed
abbrev pub trimmed : OwnedRevision → OwnedRevision
trimmed (Etag text) = Etag (trim text)
trimmed (LastModified text) = LastModified (trim text)

-- nothing, if the text is empty
abbrev pub unless_empty : OwnedRevision → Option OwnedRevision
unless_empty r = if length (revision_text r) == 0 then None else Some r

abbrev pub if_visible : OwnedRevision → Option OwnedRevision
if_visible r = if is_visible_text (revision_text r) then unless_empty r else None

-- what may be named of an HTTP revision: its text is trimmed, and then isn't empty and has only
-- bytes that are tab or 32 to 126
abbrev pub named_http : OwnedRevision → Option OwnedRevision
named_http r = if_visible (trimmed r)

-- of the revision of an entry; only an HTTP revision is named
abbrev pub named : EntryRevision → Option OwnedRevision
named (Http r) = named_http r
named (Commit digits) = None
named Unknown = None

-- of the result of reading a file; a refused one names nothing
abbrev pub named_read : Result ReadEntry CacheError → Option OwnedRevision
named_read (Ok e) = named e.revision
named_read (Err f) = None

-- of a file of the cache of the index at a url
abbrev pub named_file : List ℕ → File → Option OwnedRevision
named_file index None = None
named_file index (Some bytes) = named_read (read_entry index bytes)

-- of what a read of the cache gave
abbrev pub named_entry : IndexEntry → Option OwnedRevision
named_entry (Remote json_lines) = None
named_entry (Cache bytes url) = named_read (read_entry url bytes)
named_entry (Local bytes) = None

-- a request names what the file's revision allows, if no call on the disk failed; else that or
-- nothing
pub record NamesKept (index : List ℕ) (file : File) (before now : ℕ)
    (named : Option OwnedRevision) : Type 0 where
  pub quiet : CountStayed before now → named ≡ named_file index file
  pub else_nothing : (named ≡ None) ⊎ (named ≡ named_file index file)

-- it names what the file's revision allows, and no call on the disk failed; or it names nothing,
-- and the read of that file failed, and no other call
abbrev pub NamesUnlessFailed : List ℕ → List ℕ → File → FailedDiskCalls → FailedDiskCalls
    → Option OwnedRevision → Type 0
NamesUnlessFailed index q file before now named =
    ((named ≡ named_file index file) × (now ≡ before))
    ⊎ ((named ≡ None) × FailedReading q before now)

-- what a given revision names: it is refused if its trimmed text has another byte, and the empty
-- text names nothing
abbrev pub handed : OwnedRevision → Result (Option OwnedRevision) Error
handed r =
    if is_visible_text (revision_text (trimmed r)) then Ok (unless_empty (trimmed r))
    else Err (HttpFault InvalidHeaderValue)
