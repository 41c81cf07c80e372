-- The records from a cache file are those of a body.
use Rattle.std.proofs.Common.{◌≡◌, ℕ, List, [], true, Some, None, Result, Ok, Err, refl, sym, ap, ◌∙◌, subst}
use Rattle.tame_names.specs.declared.errors.CacheError.{CacheError}
use Rattle.tame_records.specs.Krates.{records_of}
use Rattle.tame_records.specs.Lines.{lines}
use Rattle.tame_entry.specs.Entry.{ReadEntry, entry, pairs, read_entry}
use Rattle.tame_entry.specs.Lines.{plain}
use Rattle.tame_entry.specs.Revision.{EntryRevision, Http, Commit, Unknown, IsRevision, entry_text, is_honest_text, revision_text}
use Rattle.tame_entry.specs.ServerMaps.{ServerMap, body_at}
use Rattle.tame_entry.specs.declared.revisions.OwnedRevision.{OwnedRevision}
use Rattle.tame_entry.specs.declared.revisions.OwnedRevision.TheVariants.{Etag, LastModified}
use Rattle.tame_entry.proofs.EntryLemmas.{body_read, honest_utf8, honest_zero, lines_back}
use Rattle.tame_entry.proofs.Zeros.{NoZero, zero_free}
use Rattle.tame_cache.specs.Disk.{File}
use Rattle.tame_cache.specs.Kept.{IsGood, IsGoodRead, IsGoodUnder}
use Rattle.tame_sparse.specs.Named.{named, named_file, named_http, named_read}
use Rattle.tame_sparse.proofs.TrimLemmas.{honest_named}
use Rattle.upgrade_plan.specs.Recorded.{file_records, if_recorded, read_records}

-- ---- the entry of a body

pub of_entry : (index : List ℕ) (r : EntryRevision) (body : List ℕ) → NoZero index → IsRevision r → NoZero (entry_text r) → plain body ≡ true
    → file_records index (Some (entry index r (pairs body))) ≡ if_recorded (records_of (lines body))
of_entry index r body url_whole formed text_whole h =
    ap read_records (body_read index r body url_whole formed text_whole h) ∙ ap (λ (ls : List (List ℕ)). if_recorded (records_of ls)) (lines_back body h)

-- ---- a good file

pub text_whole : (r : OwnedRevision) → is_honest_text (revision_text r) ≡ true → NoZero (entry_text (Http r))
text_whole (Etag text) h = zero_free (entry_text (Http (Etag []))) text refl (honest_zero text h)
text_whole (LastModified text) h = zero_free (entry_text (Http (LastModified []))) text refl (honest_zero text h)

pub formed : (r : OwnedRevision) → is_honest_text (revision_text r) ≡ true → IsRevision (Http r)
formed (Etag text) h = honest_utf8 text h
formed (LastModified text) h = honest_utf8 text h

http_records : (m : ServerMap) (index p bytes body : List ℕ) (r0 r : OwnedRevision) → NoZero index → IsGoodUnder m index p bytes (Http r0) → named_http r0 ≡ Some r → body_at m p r ≡ Some body
    → file_records index (Some bytes) ≡ if_recorded (records_of (lines body))
http_records m index p bytes body r0 r url_whole good names held =
    let honest = good.1.0 in
    let same : r0 ≡ r = cc (honest_named r0 honest, names) in
    let P : OwnedRevision → Type 0 = λ x. body_at m p x ≡ Some body in
    let at : body_at m p r0 ≡ Some body = subst P (sym same) held in
    let held_same : good.0 ≡ body = cc (good.1.1, at) in
    ap (λ (b : List ℕ). file_records index (Some b)) good.3
    ∙ of_entry index (Http r0) good.0 url_whole (formed r0 honest) (text_whole r0 honest) good.2
    ∙ ap (λ (b : List ℕ). if_recorded (records_of (lines b))) held_same

under_records : (m : ServerMap) (index p bytes body : List ℕ) (x : EntryRevision) (r : OwnedRevision) → NoZero index → IsGoodUnder m index p bytes x → named x ≡ Some r → body_at m p r ≡ Some body
    → file_records index (Some bytes) ≡ if_recorded (records_of (lines body))
under_records m index p bytes body (Http r0) r url_whole good names held = http_records m index p bytes body r0 r url_whole good names held
under_records m index p bytes body (Commit digits) r url_whole good names held = cc
under_records m index p bytes body Unknown r url_whole good names held = cc

held_records : (m : ServerMap) (index p bytes body : List ℕ) (o : Result ReadEntry CacheError) (r : OwnedRevision) → NoZero index → IsGoodRead m index p bytes o → named_read o ≡ Some r → body_at m p r ≡ Some body
    → file_records index (Some bytes) ≡ if_recorded (records_of (lines body))
held_records m index p bytes body (Ok e) r url_whole good names held = under_records m index p bytes body e.revision r url_whole good names held
held_records m index p bytes body (Err f) r url_whole good names held = cc

pub good_records : (m : ServerMap) (index p body : List ℕ) (file : File) (r : OwnedRevision) → NoZero index → IsGood m index p file → named_file index file ≡ Some r → body_at m p r ≡ Some body
    → file_records index file ≡ if_recorded (records_of (lines body))
good_records m index p body None r url_whole good names held = cc
good_records m index p body (Some bytes) r url_whole good names held = held_records m index p bytes body (read_entry index bytes) r url_whole good names held
