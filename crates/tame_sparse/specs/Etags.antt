-- A finite map from names, as they are written, to entity tags (RFC 9110, section 8.8.3).
use Rattle.std.specs.Prelude.{ℕ, List, bytes_eq, Option, Some, None, if◌then◌else◌}
use Rattle.std.specs.BTreeMap.{get_by_text}
use Rattle.tame_entry.specs.Revision.{http_value}
use Rattle.tame_entry.specs.declared.revisions.HttpRevision.{HttpRevision}
use Rattle.tame_entry.specs.declared.revisions.OwnedRevision.{OwnedRevision}
use Rattle.tame_entry.specs.declared.revisions.OwnedRevision.TheVariants.{Etag, LastModified}
use Rattle.tame_sparse.specs.declared.etags.EtagCache.{EtagCache}

-- the tag of a name
abbrev pub etag_at : EtagCache → List ℕ → Option (List ℕ)
etag_at cache name = get_by_text cache.etags name

-- the tag of n, after one was remembered for a name
abbrev pub with_etag : List ℕ → List ℕ → List ℕ → Option (List ℕ) → Option (List ℕ)
with_etag name etag n before = if bytes_eq name n then Some etag else before

-- the tag of a response
abbrev pub etag_of : OwnedRevision → Option (List ℕ)
etag_of (Etag etag) = Some etag
etag_of (LastModified date) = None

abbrev pub seen_etag : Option HttpRevision → Option (List ℕ)
seen_etag None = None
seen_etag (Some r) = etag_of (http_value r)

-- the tag of n after a response for a name; one without a tag changes nothing
abbrev pub after_response : List ℕ → Option (List ℕ) → List ℕ → Option (List ℕ) → Option (List ℕ)
after_response name None n before = before
after_response name (Some etag) n before = with_etag name etag n before
