-- The file that a quiet turn leaves has the records of the body that the server held.
use Rattle.std.proofs.Common.{◌≡◌, ◌⊎◌, inl, inr, ℕ, List, true, Option, Some, None, IsTrue, refl, sym, ap, ◌∙◌, subst, arith}
use Rattle.std.specs.Prelude.{IfSome, IsSomeAnd}
use Rattle.tame_names.specs.Counts.{CountStayed}
use Rattle.tame_entry.specs.Lines.{plain}
use Rattle.tame_entry.specs.Revision.{IsRevision, entry_text, is_honest_text, revision_text}
use Rattle.tame_entry.specs.ServerMaps.{ServerMap, body_at}
use Rattle.tame_entry.specs.declared.revisions.OwnedRevision.{OwnedRevision}
use Rattle.tame_entry.proofs.Zeros.{NoZero}
use Rattle.tame_cache.specs.Disk.{File, Step, reads}
use Rattle.tame_cache.specs.Kept.{IsFileKept, IsGood}
use Rattle.tame_cache.proofs.Moments.{reads_left}
use Rattle.tame_sparse.specs.Exchanges.{crates_io_index}
use Rattle.tame_sparse.specs.Honest.{IsHonestAnswer, IsMapped}
use Rattle.tame_sparse.specs.Named.{NamesKept, named_file}
use Rattle.tame_sparse.specs.ResponseResults.{IsToStore, entry_of, stored_under}
use Rattle.tame_sparse.specs.declared.network.Representation.{Representation}
use Rattle.tame_sparse.specs.declared.network.WireAnswer.{WireAnswer}
use Rattle.audit_core.specs.Turns.{LeavesFile}
use Rattle.upgrade_plan.specs.HeldPlans.{ConfirmsOrSends}
use Rattle.upgrade_plan.specs.Recorded.{body_records, file_records}
use Rattle.upgrade_plan.proofs.Bodies.{formed, good_records, of_entry, text_whole}

-- the file has the records of the body that is held
abbrev pub HasHeldRecords : File → Option Representation → Type 0
HasHeldRecords file held = IsSomeAnd held (λ h. file_records crates_io_index file ≡ body_records h.body)

-- the url of the index has no zero byte
index_whole : NoZero crates_io_index
index_whole = refl

-- ---- the body was confirmed

confirmed_under : (m : ServerMap) (p : List ℕ) (file : File) (n : Option OwnedRevision) (h : Representation) (o : Option OwnedRevision) → IsGood m crates_io_index p file → (n ≡ None) ⊎ (n ≡ named_file crates_io_index file)
    → IfSome o (λ r. IsTrue (is_honest_text (revision_text r)) × (body_at m p r ≡ Some h.body)) → IsSomeAnd o (λ r. n ≡ Some r) → file_records crates_io_index file ≡ body_records h.body
confirmed_under m p file n h None good names mapped is = absurd is
confirmed_under m p file n h (Some r) good (inl none) mapped is = cc
confirmed_under m p file n h (Some r) good (inr same) mapped is = good_records m crates_io_index p h.body file r index_whole good (sym same ∙ is) mapped.1

confirmed : (m : ServerMap) (p : List ℕ) (file : File) (n : Option OwnedRevision) (held : Option Representation) → IsGood m crates_io_index p file → (n ≡ None) ⊎ (n ≡ named_file crates_io_index file)
    → IfSome held (IsMapped m p) → IsSomeAnd held (λ h. IsSomeAnd h.revision (λ r. n ≡ Some r)) → HasHeldRecords file held
confirmed m p file n None good names mapped is = absurd is
confirmed m p file n (Some h) good names mapped is = confirmed_under m p file n h h.revision good names mapped is

-- ---- the body was sent

-- an entry can be stored under a held revision
revision_whole : (m : ServerMap) (p : List ℕ) (h : Representation) (o : Option OwnedRevision) → IfSome o (λ r. IsTrue (is_honest_text (revision_text r)) × (body_at m p r ≡ Some h.body))
    → IsRevision (stored_under o) × NoZero (entry_text (stored_under o))
revision_whole m p h None mapped = (tt, refl)
revision_whole m p h (Some r) mapped = (formed r mapped.0, text_whole r mapped.0)

sent_records : (a : WireAnswer) (body : List ℕ) (file : File) → IsRevision (stored_under a.revision) → NoZero (entry_text (stored_under a.revision)) → plain a.body ≡ true → file ≡ Some (entry_of crates_io_index a) → a.body ≡ body
    → file_records crates_io_index file ≡ body_records body
sent_records a body file whole text_free is_plain is same =
    ap (file_records crates_io_index) is ∙ of_entry crates_io_index (stored_under a.revision) a.body index_whole whole text_free is_plain ∙ ap body_records same

sent : (m : ServerMap) (p : List ℕ) (a : WireAnswer) (held : Option Representation) (asked after : ℕ) (old new : List Step) → IfSome held (IsMapped m p) → IsSomeAnd held (λ h. (a.revision ≡ h.revision) × (a.body ≡ h.body))
    → a.status ≡ 200 → plain a.body ≡ true → CountStayed asked after → LeavesFile (Some a) asked after old new → HasHeldRecords (reads new) held
sent m p a None asked after old new mapped is ok is_plain quiet leaves = absurd is
sent m p a (Some h) asked after old new mapped is ok is_plain quiet leaves =
    let P : Option OwnedRevision → Type 0 = λ o. IsRevision (stored_under o) × NoZero (entry_text (stored_under o)) in
    let whole = subst P (sym is.0) (revision_whole m p h h.revision mapped) in
    let stored = leaves.stored (record { sent = ok; plain = is_plain; storable = whole.1; named = index_whole }) quiet in
    sent_records a h.body (reads new) whole.0 whole.1 is_plain stored.whole is.1

-- ---- either

not_both : (a : WireAnswer) → a.status ≡ 304 → ¬ (IsToStore crates_io_index a)
not_both a same x =
    let ok = x.sent in
    omega (arith, same, ok)

pub held_records : (m : ServerMap) (p : List ℕ) (n : Option OwnedRevision) (held : Option Representation) (came : Option WireAnswer) (asked after faults faults_asked : ℕ) (old new : List Step)
    → IsFileKept m crates_io_index p old → NamesKept crates_io_index (reads old) faults faults_asked n → IfSome held (IsMapped m p) → IfSome came (IsHonestAnswer n held) → IsSomeAnd came ConfirmsOrSends → CountStayed asked after
    → LeavesFile came asked after old new → HasHeldRecords (reads new) held
held_records m p n held None asked after faults faults_asked old new kept names mapped honest is quiet leaves = absurd is
held_records m p n held (Some a) asked after faults faults_asked old new kept names mapped honest (inl same) quiet leaves =
    let stays : new ≡ old = leaves.unstored (not_both a same) in
    let P : List Step → Type 0 = λ past. HasHeldRecords (reads past) held in
    subst P (sym stays) (confirmed m p (reads old) n held (kept.all_good (reads old) (reads_left old)) names.else_nothing mapped (honest.not_modified same))
held_records m p n held (Some a) asked after faults faults_asked old new kept names mapped honest (inr is) quiet leaves =
    sent m p a held asked after old new mapped (honest.sent is.0) is.0 is.1 quiet leaves
