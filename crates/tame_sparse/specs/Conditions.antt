-- The header fields of a request (RFC 9110, sections 12.5.1, 13.1.2 and 13.1.3; Cargo Book,
-- "Registry Index", sparse protocol).
use Rattle.std.specs.Prelude.{ℕ, codes, List, [], ◌∷◌, Option, Some, None}
use Rattle.std.specs.Str.{trim}
use Rattle.http_header.specs.FieldValue.{FieldValue, plain_value}
use Rattle.tame_entry.specs.declared.revisions.OwnedRevision.{OwnedRevision}
use Rattle.tame_entry.specs.declared.revisions.OwnedRevision.TheVariants.{Etag, LastModified}

-- the field that makes a request conditional, and its text: the revision's, trimmed; the empty text
-- if nothing is named
abbrev pub condition_name : Option OwnedRevision → List ℕ
condition_name (Some (LastModified text)) = codes "if-modified-since"
condition_name _ = codes "if-none-match"

abbrev pub condition_text : Option OwnedRevision → List ℕ
condition_text None = []
condition_text (Some (Etag text)) = trim text
condition_text (Some (LastModified text)) = trim text

-- the three fields of a request that names a revision or nothing
abbrev pub fields : Option OwnedRevision → List (List ℕ × FieldValue)
fields named =
    (codes "cargo-protocol", plain_value (codes "version=1"))
    ∷ (codes "accept", plain_value (codes "text/plain"))
    ∷ (condition_name named, plain_value (condition_text named))
    ∷ []
