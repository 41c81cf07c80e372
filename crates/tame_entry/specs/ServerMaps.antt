-- What a server held: a finite map from a path and an HTTP revision to a body.
use Rattle.std.specs.Prelude.{◌≡◌, ℕ, List, [], ◌∷◌, ◌&&◌, bytes_eq, IsTrue, Option, Some, None, if◌then◌else◌}
use Rattle.tame_entry.specs.Revision.{is_honest_text, revision_text, same_revision}
use Rattle.tame_entry.specs.declared.revisions.OwnedRevision.{OwnedRevision}

-- a body at a path, under a revision
pub record HeldBody : Type 0 where
  pub path : List ℕ
  pub revision : OwnedRevision
  pub body : List ℕ

abbrev pub ServerMap : Type 0
ServerMap = List HeldBody

-- the body of a path and a revision: of equal keys the first counts
abbrev pub body_at : ServerMap → List ℕ → OwnedRevision → Option (List ℕ)
body_at [] path revision = None
body_at (h ∷ hs) path revision =
    if bytes_eq h.path path && same_revision h.revision revision then Some h.body
    else body_at hs path revision

-- the map gives this body for a path and a revision, whose text is honest
abbrev pub Maps : ServerMap → List ℕ → OwnedRevision → List ℕ → Type 0
Maps m path revision body =
    IsTrue (is_honest_text (revision_text revision)) × (body_at m path revision ≡ Some body)
