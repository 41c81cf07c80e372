-- A server in memory is honest for what it holds.
use Rattle.std.proofs.Common.{◌≡◌, ℕ, true, false, List, [], ◌∷◌, Option, Some, None, bytes_eq, option_map, refl, ap, inl, inr, arith}
use Rattle.std.specs.Prelude.{IfSome, IsTrue}
use Rattle.std.proofs.lemmas.Bool.{and_parts, cases_Bool, false≢true}
use Rattle.std.proofs.lemmas.Slice.Eq.{bytes_eq-Decides}
use Rattle.tame_entry.specs.ServerMaps.{body_at}
use Rattle.tame_entry.specs.Revision.{is_honest_text, revision_text}
use Rattle.tame_entry.specs.declared.revisions.OwnedRevision.{OwnedRevision}
use Rattle.tame_entry.specs.declared.revisions.OwnedRevision.TheVariants.{Etag, LastModified}
use Rattle.tame_sparse.specs.Honest.{IsHonest, IsHonestAnswer, IsMapped, SaysAbsent}
use Rattle.tame_sparse.specs.Serving.{answer_of, exchange_of, found, have_honest_tags, held_at, is_named, map_of, not_modified, representation_of}
use Rattle.tame_sparse.specs.declared.network.Representation.{Representation}
use Rattle.tame_sparse.specs.declared.network.Request.{Request}
use Rattle.tame_sparse.specs.declared.serving.Held.{Held}

same_tag : (h : Held) → bytes_eq h.etag h.etag ≡ true
same_tag h = (bytes_eq-Decides h.etag h.etag).1 refl

-- a body that a later file has, after one of another path
behind : (h : Held) (hs : List Held) (path : List ℕ) (o : Option Representation) → bytes_eq h.path path ≡ false → IfSome o (IsMapped (map_of hs) path) → IfSome o (IsMapped (map_of (h ∷ hs)) path)
behind h hs path None other is = tt
behind h hs path (Some r) other is = go r.revision is
  where
    go : (o : Option OwnedRevision) → IfSome o (λ revision. IsTrue (is_honest_text (revision_text revision)) × (body_at (map_of hs) path revision ≡ Some r.body))
        → IfSome o (λ revision. IsTrue (is_honest_text (revision_text revision)) × (body_at (map_of (h ∷ hs)) path revision ≡ Some r.body))
    go None is = tt
    go (Some revision) is = (is.0, rw other is.1)

held_mapped : (hs : List Held) (path : List ℕ) → have_honest_tags hs ≡ true → IfSome (option_map representation_of (held_at hs path)) (IsMapped (map_of hs) path)
held_mapped [] path honest = tt
held_mapped (h ∷ hs) path honest =
    let (here, more) = and_parts (is_honest_text h.etag) (have_honest_tags hs) honest in
    elim (cases_Bool (bytes_eq h.path path)) [
      | inl first ↦ rw first (here, rw (first, same_tag h) refl)
      | inr other ↦ rw other (behind h hs path (option_map representation_of (held_at hs path)) other (held_mapped hs path more))
    ]

named_tag : (named : Option OwnedRevision) (etag : List ℕ) → is_named named etag ≡ true → named ≡ Some (Etag etag)
named_tag None etag h = absurd (false≢true h)
named_tag (Some (Etag text)) etag h = ap (λ t. Some (Etag t)) ((bytes_eq-Decides text etag).0 h)
named_tag (Some (LastModified text)) etag h = absurd (false≢true h)

not_modified_honest : (named : Option OwnedRevision) (h : Held) → is_named named h.etag ≡ true → IsHonestAnswer named (Some (representation_of h)) (not_modified h)
not_modified_honest named h is = record {
  sent = λ e. absurd (omega (arith, e));
  not_modified = λ _. named_tag named h.etag is;
  absent = λ a. absurd (not_absent a);
}
  where
    not_absent : SaysAbsent 304 → ⊥
    not_absent a = grind (arith, a)

found_honest : (named : Option OwnedRevision) (h : Held) → IsHonestAnswer named (Some (representation_of h)) (found h)
found_honest named h = record {
  sent = λ _. (refl, refl);
  not_modified = λ e. absurd (omega (arith, e));
  absent = λ a. absurd (not_absent a);
}
  where
    not_absent : SaysAbsent 200 → ⊥
    not_absent a = grind (arith, a)

answer_honest : (named : Option OwnedRevision) (o : Option Held) → IsHonestAnswer named (option_map representation_of o) (answer_of named o)
answer_honest named None = record {
  sent = λ e. absurd (omega (arith, e));
  not_modified = λ e. absurd (omega (arith, e));
  absent = λ _. refl;
}
answer_honest named (Some h) =
    elim (cases_Bool (is_named named h.etag)) [
      | inl is ↦ rw is (not_modified_honest named h is)
      | inr other ↦ rw other (found_honest named h)
    ]

-- each exchange is honest for the map of what is held
pub exchange_honest : (hs : List Held) (request : Request) → have_honest_tags hs ≡ true → IsHonest (map_of hs) (exchange_of hs request)
exchange_honest hs request honest = record {
  mapped = held_mapped hs request.path honest;
  answered = answer_honest request.named (held_at hs request.path);
}
