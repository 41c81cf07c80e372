-- What the cache keeps of generated bodies, and what requests name of that.
use Rattle.std.proofs.Common.{◌≡◌, ℕ, ◌<◌, ◌≤◌, ◌^◌, true, false, not, ◌==◌, List, [], ◌∷◌, codes, Some, refl, arith}
use Rattle.std.specs.List.{list_all}
use Rattle.std.proofs.lemmas.Bool.{and_parts}
use Rattle.std.proofs.lemmas.Bool.Decides.{nat_tests}
use Rattle.tame_names.specs.Pieces.{ends_with}
use Rattle.tame_entry.specs.Revision.{EntryRevision, Http, entry_text, is_honest_text}
use Rattle.tame_entry.specs.declared.revisions.OwnedRevision.TheVariants.{Etag}
use Rattle.tame_entry.proofs.EntryLemmas.{body_read, honest_utf8, honest_zero}
use Rattle.tame_entry.proofs.Zeros.{zero_free}
use Rattle.tame_sparse.specs.Exchanges.{crates_io_index}
use Rattle.tame_sparse.specs.Named.{named_file}
use Rattle.tame_sparse.specs.ResponseResults.{IsToStore}
use Rattle.tame_sparse.specs.Serving.{found}
use Rattle.tame_sparse.proofs.TrimLemmas.{honest_named}
use Rattle.audit_generator.specs.Hosted.{body_at, etag_at, held_for}
use Rattle.audit_generator.specs.Outcomes.{entry_at}
use Rattle.audit_generator.proofs.Bodies.{body_plain}
use Rattle.audit_generator.proofs.Printable.{decimal_passes, etag_printable}

-- ---- entity tags are honest

digit_no_space : (c : ℕ) → 48 ≤ c → c ≤ 57 → not (c == 32) ≡ true
digit_no_space c low high = grind (arith, nat_tests)

no_space_end : (cs : List ℕ) → list_all (λ c. not (c == 32)) cs ≡ true → ends_with 32 cs ≡ false
no_space_end [] h = refl
no_space_end (c ∷ []) h =
    let (here, more) = and_parts (not (c == 32)) true h in
    grind (arith, nat_tests)
no_space_end (c ∷ d ∷ ds) h =
    let (here, more) = and_parts (not (c == 32)) (list_all (λ c. not (c == 32)) (d ∷ ds)) h in
    no_space_end (d ∷ ds) more

pub etag_honest : (k : ℕ) → k < 2 ^ 64 → is_honest_text (etag_at k) ≡ true
etag_honest k h =
    let end = no_space_end (etag_at k) (decimal_passes (λ c. not (c == 32)) digit_no_space k h) in
    rw (etag_printable k h, end) refl

-- ---- what is kept

abbrev revision : ℕ → EntryRevision
revision k = Http (Etag (etag_at k))

text_nonzero : (k : ℕ) → k < 2 ^ 64 → list_all (λ b. not (b == 0)) (entry_text (revision k)) ≡ true
text_nonzero k h = zero_free (codes "etag: ") (etag_at k) refl (honest_zero (etag_at k) (etag_honest k h))

-- the url of the index has no zero byte
index_whole : list_all (λ b. not (b == 0)) crates_io_index ≡ true
index_whole = refl

-- the answer that sends a generated body is stored
pub sent_stored : (k : ℕ) → k < 2 ^ 64 → IsToStore crates_io_index (found (held_for k))
sent_stored k h = record {
  sent = refl;
  plain = body_plain k h;
  storable = text_nonzero k h;
  named = refl;
}

-- its entry names its entity tag
pub entry_named : (k : ℕ) → k < 2 ^ 64 → named_file crates_io_index (Some (entry_at k)) ≡ Some (Etag (etag_at k))
entry_named k h =
    let read = body_read crates_io_index (revision k) (body_at k) index_whole (honest_utf8 (etag_at k) (etag_honest k h)) (text_nonzero k h) (body_plain k h) in
    rw read (honest_named (Etag (etag_at k)) (etag_honest k h))
