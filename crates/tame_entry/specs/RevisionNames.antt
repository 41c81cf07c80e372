-- The text of a revision, split at its first `: `.
use Rattle.std.specs.Prelude.{◌≢◌, ℕ, codes, List, ◌++◌, bytes_eq, Option, Some, None, if◌then◌else◌}
use Rattle.tame_entry.specs.Revision.{EntryRevision, Http}
use Rattle.tame_entry.specs.declared.revisions.OwnedRevision.TheVariants.{Etag, LastModified}

-- `: ` is nowhere in the text
abbrev pub IsUnsplit : List ℕ → Type 0
IsUnsplit text = (name value : List ℕ) → text ≢ name ++ codes ": " ++ value

-- the revision of a value under a name
abbrev pub revision_named : List ℕ → List ℕ → Option EntryRevision
revision_named name value =
    if bytes_eq name (codes "etag") then Some (Http (Etag value))
    else if bytes_eq name (codes "last-modified") then Some (Http (LastModified value))
    else None
