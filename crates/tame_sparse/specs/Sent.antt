-- The revision of a response: its entity tag, else its date (RFC 9110, sections 8.8.2 and 8.8.3).
use Rattle.std.specs.Prelude.{ℕ, codes, List, Option, Some, None, option_map, if◌then◌else◌}
use Rattle.std.specs.Option.{option_or}
use Rattle.http_header.specs.FieldValue.{FieldValue, is_visible_text}
use Rattle.http_header.specs.HeaderMap.{Entries, get}
use Rattle.tame_entry.specs.declared.revisions.OwnedRevision.{OwnedRevision}
use Rattle.tame_entry.specs.declared.revisions.OwnedRevision.TheVariants.{Etag, LastModified}

-- the text of a field, if each of its bytes is tab or 32 to 126
abbrev pub visible_value : Option FieldValue → Option (List ℕ)
visible_value None = None
visible_value (Some value) = if is_visible_text value.bytes then Some value.bytes else None

-- by the first field of each name
abbrev pub sent_revision : Entries FieldValue → Option OwnedRevision
sent_revision headers =
    option_or (option_map (λ text. Etag text) (visible_value (get headers (codes "etag"))))
    (option_map (λ text. LastModified text) (visible_value (get headers (codes "last-modified"))))
