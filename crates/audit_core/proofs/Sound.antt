-- Over an honest server and a kept disk, the answers are what the server held.
use Rattle.std.proofs.Common.{◌≡◌, ◌⊎◌, inl, inr, ℕ, List, [], ◌∷◌, true, Option, Some, None, Result, Ok, Err, IsTrue, refl, sym, ap, ◌∙◌, subst}
use Rattle.std.specs.Prelude.{IfSome, IsSomeAnd, flat_map}
use Rattle.tame_names.specs.Counts.{CountRose}
use Rattle.tame_names.specs.declared.errors.CacheError.{CacheError}
use Rattle.tame_records.specs.Lines.{lines}
use Rattle.tame_entry.specs.Entry.{ReadEntry, lines_in, pair_bytes, pairs, read_entry}
use Rattle.tame_entry.specs.ServerMaps.{ServerMap, body_at}
use Rattle.tame_entry.specs.Revision.{EntryRevision, Http, Commit, Unknown, IsRevision, entry_text, is_honest_text, revision_text}
use Rattle.tame_entry.specs.VersionStatuses.{version_flags}
use Rattle.tame_entry.specs.declared.revisions.OwnedRevision.{OwnedRevision}
use Rattle.tame_entry.specs.declared.revisions.OwnedRevision.TheVariants.{Etag, LastModified}
use Rattle.tame_entry.proofs.EntryLemmas.{body_read, honest_utf8, honest_zero, lines_back}
use Rattle.tame_entry.proofs.Zeros.{NoZero, zero_free}
use Rattle.tame_cache.specs.Disk.{File, reads}
use Rattle.tame_cache.specs.Kept.{Disk, IsGood, IsGoodRead, IsGoodUnder, IsKept}
use Rattle.tame_cache.proofs.KeptLemmas.{kept_after}
use Rattle.tame_cache.proofs.Moments.{reads_left}
use Rattle.tame_sparse.specs.Exchanges.{crates_io_index}
use Rattle.tame_sparse.specs.Honest.{AreHonest, IsHonestAnswer, IsMapped}
use Rattle.tame_sparse.specs.Named.{named, named_file, named_http, named_read}
use Rattle.tame_sparse.specs.declared.network.Exchange.{Exchange}
use Rattle.tame_sparse.specs.declared.network.Representation.{Representation}
use Rattle.tame_sparse.specs.declared.network.WireAnswer.{WireAnswer}
use Rattle.tame_sparse.proofs.TrimLemmas.{honest_named}
use Rattle.audit_core.specs.Answers.{IsAnswer, IsHeldAnswer, answer_of, body_answer, file_answer, held_answer, kept_held, read_answer, sent_held}
use Rattle.audit_core.specs.Turns.{AreCaused, DiskAt, TurnsInOrder, index_file}
use Rattle.audit_core.specs.declared.answers.PathAnswer.{PathAnswer}
use Rattle.audit_core.specs.declared.answers.PathAnswer.TheVariants.{Settled, Lines}
use Rattle.audit_core.specs.declared.asking.AnsweredTurn.{AnsweredTurn}
use Rattle.audit_core.specs.declared.verdicts.Cause.TheVariants as cause
use Rattle.audit_core.proofs.Apart.{Paired}
use Rattle.audit_core.proofs.ResultLemmas.{Kind, IsAbsent, IsOther, IsSame, IsSent, choose_absent, choose_other, choose_same, choose_sent, kind_of}

-- ---- a kept file that was confirmed has the lines that the server held

text_whole : (r : OwnedRevision) → is_honest_text (revision_text r) ≡ true → NoZero (entry_text (Http r))
text_whole (Etag text) h = zero_free (entry_text (Http (Etag []))) text refl (honest_zero text h)
text_whole (LastModified text) h = zero_free (entry_text (Http (LastModified []))) text refl (honest_zero text h)

pub formed : (r : OwnedRevision) → is_honest_text (revision_text r) ≡ true → IsRevision (Http r)
formed (Etag text) h = honest_utf8 text h
formed (LastModified text) h = honest_utf8 text h

-- the url of the index has no zero byte
pub index_whole : NoZero crates_io_index
index_whole = refl

http_lines : (m : ServerMap) (p bytes body : List ℕ) (e : ReadEntry) (r0 r : OwnedRevision) → read_entry crates_io_index bytes ≡ Ok e → IsGoodUnder m crates_io_index p bytes (Http r0) → named_http r0 ≡ Some r → body_at m p r ≡ Some body
    → lines_in e.versions ≡ lines body
http_lines m p bytes body e r0 r is good names held =
    let honest = good.1.0 in
    let same : r0 ≡ r = cc (honest_named r0 honest, names) in
    let P : OwnedRevision → Type 0 = λ x. body_at m p x ≡ Some body in
    let at : body_at m p r0 ≡ Some body = subst P (sym same) held in
    let held_same : good.0 ≡ body = cc (good.1.1, at) in
    let read : read_entry crates_io_index bytes ≡ Ok (record { revision = Http r0; versions = flat_map pair_bytes (pairs good.0) }) =
    ap (read_entry crates_io_index) good.3 ∙ body_read crates_io_index (Http r0) good.0 index_whole (formed r0 honest) (text_whole r0 honest) good.2 in
    let R : ReadEntry = record { revision = Http r0; versions = flat_map pair_bytes (pairs good.0) } in
    let entry_same : e ≡ R = cc (is, read) in
    ap (λ (x : ReadEntry). lines_in x.versions) entry_same ∙ lines_back good.0 good.2 ∙ ap lines held_same

under_lines : (m : ServerMap) (p bytes body : List ℕ) (e : ReadEntry) (x : EntryRevision) (r : OwnedRevision) → read_entry crates_io_index bytes ≡ Ok e → IsGoodUnder m crates_io_index p bytes x → named x ≡ Some r → body_at m p r ≡ Some body
    → lines_in e.versions ≡ lines body
under_lines m p bytes body e (Http r0) r is good names held = http_lines m p bytes body e r0 r is good names held
under_lines m p bytes body e (Commit digits) r is good names held = cc
under_lines m p bytes body e Unknown r is good names held = cc

read_lines : (m : ServerMap) (p bytes body : List ℕ) (o : Result ReadEntry CacheError) (r : OwnedRevision) → read_entry crates_io_index bytes ≡ o → IsGoodRead m crates_io_index p bytes o → named_read o ≡ Some r → body_at m p r ≡ Some body
    → read_answer o ≡ Lines (version_flags (lines body))
read_lines m p bytes body (Ok e) r is good names held = ap (λ ls. Lines (version_flags ls)) (under_lines m p bytes body e e.revision r is good names held)
read_lines m p bytes body (Err f) r is good names held = cc

file_lines : (m : ServerMap) (p body : List ℕ) (file : File) (r : OwnedRevision) → IsGood m crates_io_index p file → named_file crates_io_index file ≡ Some r → body_at m p r ≡ Some body → file_answer file ≡ Lines (version_flags (lines body))
file_lines m p body None r good names held = cc
file_lines m p body (Some bytes) r good names held = read_lines m p bytes body (read_entry crates_io_index bytes) r refl good names held

confirmed : (m : ServerMap) (p : List ℕ) (file : File) (n : Option OwnedRevision) (h : Representation) (o : Option OwnedRevision) → IsGood m crates_io_index p file → (n ≡ None) ⊎ (n ≡ named_file crates_io_index file)
    → IfSome o (λ r. IsTrue (is_honest_text (revision_text r)) × (body_at m p r ≡ Some h.body)) → IsSomeAnd o (λ r. n ≡ Some r) → file_answer file ≡ Lines (version_flags (lines h.body))
confirmed m p file n h None good names mapped is = absurd is
confirmed m p file n h (Some r) good (inl none) mapped is = cc
confirmed m p file n h (Some r) good (inr same) mapped is = file_lines m p h.body file r good (sym same ∙ is) mapped.1

kept_same : (m : ServerMap) (p : List ℕ) (file : File) (n : Option OwnedRevision) (o : Option Representation) → IsGood m crates_io_index p file → (n ≡ None) ⊎ (n ≡ named_file crates_io_index file)
    → IfSome o (IsMapped m p) → IsSomeAnd o (λ h. IsSomeAnd h.revision (λ r. n ≡ Some r)) → file_answer file ≡ kept_held o
kept_same m p file n None good names mapped is = absurd is
kept_same m p file n (Some h) good names mapped is = confirmed m p file n h h.revision good names mapped is

-- ---- one answer

sent_same : (w : WireAnswer) (o : Option Representation) → IsSomeAnd o (λ h. (w.revision ≡ h.revision) × (w.body ≡ h.body)) → body_answer w.body ≡ sent_held o
sent_same w None is = absurd is
sent_same w (Some h) is = ap body_answer is.1

answer_sound : (m : ServerMap) (p : List ℕ) (file : File) (n : Option OwnedRevision) (held : Option Representation) (came : Option WireAnswer) (a : PathAnswer) (asked after : ℕ)
    → IsGood m crates_io_index p file → (n ≡ None) ⊎ (n ≡ named_file crates_io_index file) → IfSome held (IsMapped m p) → IfSome came (IsHonestAnswer n held) → IsAnswer file came a → (a ≡ Settled cause.Store → CountRose asked after)
    → IsHeldAnswer held came asked after a
answer_sound m p file n held None a asked after good names mapped honest (inl is) rose = inl is
answer_sound m p file n held None a asked after good names mapped honest (inr store) rose = absurd store.0
answer_sound m p file n held (Some w) a asked after good names mapped honest (inl is) rose = inl (is ∙ go (kind_of w.status))
  where
    go : Kind w.status → answer_of (file_answer file) (Some w) ≡ held_answer held (Some w)
    go (IsAbsent absent) = choose_absent w.status _ _ _ _ absent ∙ sym (choose_absent w.status _ _ _ _ absent)
    go (IsSent sent) = choose_sent w.status _ _ _ _ sent ∙ sent_same w held (honest.sent sent) ∙ sym (choose_sent w.status _ _ _ _ sent)
    go (IsSame same) = choose_same w.status _ _ _ _ same ∙ kept_same m p file n held good names mapped (honest.not_modified same) ∙ sym (choose_same w.status _ _ _ _ same)
    go (IsOther present sent modified) = choose_other w.status _ _ _ _ present sent modified ∙ sym (choose_other w.status _ _ _ _ present sent modified)
answer_sound m p file n held (Some w) a asked after good names mapped honest (inr store) rose = inr (store.0, rose store.1, store.1)

-- ---- all of them

pub record IsSound (e : Exchange) (h : AnsweredTurn) : Type 0 where
  pub path : e.path ≡ h.turn.path
  pub answer : IsHeldAnswer e.held e.answer h.turn.disk_asked h.turn.disk_after h.answer

pub turned_sound : (told : Type 0) (t : told) (m : ServerMap) (old new : DiskAt) (es : List Exchange) (hs : List AnsweredTurn) → TurnsInOrder told old es hs new → AreHonest m es → AreCaused hs → IsKept m crates_io_index [] old.files → Paired IsSound es hs
turned_sound told t m old new [] [] x honest caused kept = tt
turned_sound told t m old new [] (h ∷ hs) x honest caused kept = absurd x
turned_sound told t m old new (e ∷ es) [] x honest caused kept = absurd x
turned_sound told t m old new (e ∷ es) (h ∷ hs) x honest caused kept =
    let turn = x.1 in
    let f = index_file e.path in
    let good : IsGood m crates_io_index e.path (reads (old.files f)) = (kept e.path turn.place).all_good (reads (old.files f)) (reads_left (old.files f)) in (
      record {
        path = turn.path;
        answer = answer_sound m e.path (reads (old.files f)) e.named e.held e.answer h.answer h.turn.disk_asked h.turn.disk_after
            good (turn.named t).else_nothing honest.0.mapped honest.0.answered (turn.exchanged.answer (λ n. t)) caused.0.store;
      },
      turned_sound told t m x.0 new es hs x.2 honest.1 caused.1 (kept_after m crates_io_index [] old.files x.0.files (turn.exchanged.keeps t m honest.0 kept)),
    )
