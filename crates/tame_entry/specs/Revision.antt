-- Revisions and their texts (RFC 9110, sections 8.8.2 and 8.8.3; the cache entries of cargo).
use Rattle.std.specs.Prelude.{ℕ, codes, List, [], ◌∷◌, ◌++◌, Bool, false, not, nat_le, ◌&&◌, ◌==◌, bytes_eq, IsTrue, Option, Some, None, if◌then◌else◌}
use Rattle.std.specs.List.{list_all}
use Rattle.std.specs.Str.{is_utf8}
use Rattle.hex.specs.Hex.{encode_lower}
use Rattle.tame_names.specs.Pieces.{ends_with}
use Rattle.tame_entry.specs.Commits.{is_commit}
use Rattle.tame_entry.specs.Prefixes.{without_prefix}
use Rattle.tame_entry.specs.declared.revisions.GitRevision.{GitRevision}
use Rattle.tame_entry.specs.declared.revisions.GitRevision.TheVariants as git
use Rattle.tame_entry.specs.declared.revisions.HttpRevision.{HttpRevision}
use Rattle.tame_entry.specs.declared.revisions.HttpRevision.TheVariants as http
use Rattle.tame_entry.specs.declared.revisions.OwnedRevision.{OwnedRevision}
use Rattle.tame_entry.specs.declared.revisions.OwnedRevision.TheVariants.{Etag, LastModified}
use Rattle.tame_entry.specs.declared.revisions.StoredRevision.{StoredRevision}
use Rattle.tame_entry.specs.declared.revisions.StoredRevision.TheVariants as stored
use Rattle.tame_entry.specs.declared.revisions.Revision.{Revision}
use Rattle.tame_entry.specs.declared.revisions.Revision.TheVariants as revision

-- ---- HTTP revisions

-- what an honest server may use: not empty, only bytes 32 to 126, no space at the start or the end
abbrev pub is_honest_text : List ℕ → Bool
is_honest_text [] = false
is_honest_text (b ∷ bs) =
    list_all (λ c. nat_le 32 c && nat_le c 126) (b ∷ bs) && not (b == 32)
    && not (ends_with 32 (b ∷ bs))

abbrev pub revision_text : OwnedRevision → List ℕ
revision_text (Etag text) = text
revision_text (LastModified text) = text

abbrev pub same_revision : OwnedRevision → OwnedRevision → Bool
same_revision (Etag x) (Etag y) = bytes_eq x y
same_revision (LastModified x) (LastModified y) = bytes_eq x y
same_revision _ _ = false

-- ---- revisions of entries

-- an HTTP revision, a commit by its 40 hex digits, or none that is known
pub data EntryRevision : Type 0 where
  Http : (revision : OwnedRevision) → EntryRevision
  Commit : (digits : List ℕ) → EntryRevision
  Unknown : EntryRevision

-- its text in an entry: a name, and what follows it
abbrev pub entry_name : EntryRevision → List ℕ
entry_name (Http (Etag text)) = codes "etag: "
entry_name (Http (LastModified text)) = codes "last-modified: "
entry_name (Commit digits) = []
entry_name Unknown = codes "Unknown"

abbrev pub entry_value : EntryRevision → List ℕ
entry_value (Http (Etag text)) = text
entry_value (Http (LastModified text)) = text
entry_value (Commit digits) = digits
entry_value Unknown = []

abbrev pub entry_text : EntryRevision → List ℕ
entry_text r = entry_name r ++ entry_value r

-- a commit has 40 hex digits
abbrev pub IsFormed : EntryRevision → Type 0
IsFormed (Commit digits) = IsTrue (is_commit digits)
IsFormed _ = Unit {0}

-- its text is UTF-8, and a commit has 40 hex digits
abbrev pub IsRevision : EntryRevision → Type 0
IsRevision (Http r) = IsTrue (is_utf8 (revision_text r))
IsRevision (Commit digits) = IsTrue (is_commit digits)
IsRevision Unknown = Unit {0}

-- the revision of a text without a name
abbrev pub unnamed_revision : List ℕ → Option EntryRevision
unnamed_revision text =
    if is_commit text then Some (Commit text)
    else if bytes_eq text (codes "Unknown") then Some Unknown
    else None

abbrev pub date_or : Option (List ℕ) → Option EntryRevision → Option EntryRevision
date_or (Some date) other = Some (Http (LastModified date))
date_or None other = other

abbrev pub etag_or : Option (List ℕ) → Option EntryRevision → Option EntryRevision
etag_or (Some etag) other = Some (Http (Etag etag))
etag_or None other = other

-- the revision that a text of an entry is
abbrev pub revision_of : List ℕ → Option EntryRevision
revision_of text =
    etag_or (without_prefix (codes "etag: ") text)
    (date_or (without_prefix (codes "last-modified: ") text) (unnamed_revision text))

-- ---- revisions as they are given

abbrev pub http_value : HttpRevision → OwnedRevision
http_value (http.Etag text) = Etag text.now
http_value (http.LastModified text) = LastModified text.now

abbrev pub stored_value : StoredRevision → EntryRevision
stored_value (stored.Etag text) = Http (Etag text.now)
stored_value (stored.LastModified text) = Http (LastModified text.now)
stored_value (stored.Commit digits) = Commit digits
stored_value stored.Unknown = Unknown

-- a commit's bytes have their digits in lower case
abbrev pub commit_digits : GitRevision → List ℕ
commit_digits (git.Raw bytes) = encode_lower bytes
commit_digits (git.Hex digits) = digits

abbrev pub revision_value : Revision → EntryRevision
revision_value (revision.Http r) = Http (http_value r)
revision_value (revision.Git commit) = Commit (commit_digits commit)
revision_value revision.Unknown = Unknown

-- the text that a revision writes
abbrev pub written_text : Revision → List ℕ
written_text r = entry_text (revision_value r)

-- commits are equal if their digits are
abbrev pub equal_commits : GitRevision → GitRevision → Bool
equal_commits a b = bytes_eq (commit_digits a) (commit_digits b)

-- revisions are equal if they write equal texts
abbrev pub equal_revisions : Revision → Revision → Bool
equal_revisions a b = bytes_eq (written_text a) (written_text b)
