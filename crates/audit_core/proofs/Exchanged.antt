-- One exchange, and what is kept all the time.
use Rattle.std.proofs.Common.{◌≡◌, ◌≢◌, inl, ℕ, List, [], ◌∷◌, ◌++◌, Option, Some, None, Result, Ok, Err, refl, sym, ap, ◌∙◌, subst, append_assoc}
use Rattle.std.specs.Prelude.{IfOk, IfSome, OnOk, IsSomeAnd}
use Rattle.std.proofs.lemmas.List.{append-nil}
use Rattle.tame_names.specs.declared.errors.NoMemory.{NoMemory}
use Rattle.tame_entry.specs.ServerMaps.{Maps, ServerMap}
use Rattle.tame_entry.specs.declared.revisions.OwnedRevision.{OwnedRevision}
use Rattle.tame_cache.specs.Disk.{reads}
use Rattle.tame_cache.specs.Kept.{Disk, IsKept, Keeps}
use Rattle.tame_cache.proofs.KeptLemmas.{keeps_none, keeps_same, keeps_then}
use Rattle.tame_sparse.specs.Exchanges.{crates_io_index, crates_io_uri}
use Rattle.tame_sparse.specs.Honest.{AreHonest, IsHonest, IsHonestAnswer, IsMapped}
use Rattle.tame_sparse.specs.declared.network.Exchange.{Exchange}
use Rattle.tame_sparse.specs.declared.network.Representation.{Representation}
use Rattle.tame_sparse.specs.declared.network.WireAnswer.{WireAnswer}
use Rattle.audit_core.specs.Answers.{IsAnswer, IsNotModified}
use Rattle.tame_sparse.specs.ResponseResults.{IsToStore, StoresUnlessFailed, entry_of}
use Rattle.audit_core.specs.Blamed.{BlamesStore}
use Rattle.audit_core.specs.Turns.{AddsPart, DiskAt, IsExchanged, StaysKept, LeavesFile, index_file}
use Rattle.audit_core.specs.declared.answers.PathAnswer.{PathAnswer}
use Rattle.audit_core.specs.declared.answers.PathAnswer.TheVariants.{Settled}
use Rattle.audit_core.specs.declared.verdicts.Cause.TheVariants as cause
use Rattle.audit_core.specs.Sent.{KeepsSent}
use Rattle.audit_core.proofs.Lists.{cons_tail}
use Rattle.audit_core.proofs.SentLemmas.{holds_same, sent_from, sent_none, sent_same, sent_then}

-- ---- lists of exchanges

pub cancel : (xs ys zs : List Exchange) → xs ++ ys ≡ xs ++ zs → ys ≡ zs
cancel [] ys zs h = h
cancel (x ∷ xs) ys zs h = cancel xs ys zs (cons_tail x x (xs ++ ys) (xs ++ zs) h)

pub honest_front : (m : ServerMap) (xs ys : List Exchange) → AreHonest m (xs ++ ys) → AreHonest m xs
honest_front m [] ys h = tt
honest_front m (x ∷ xs) ys h = (h.0, honest_front m xs ys h.1)

pub honest_back : (m : ServerMap) (xs ys : List Exchange) → AreHonest m (xs ++ ys) → AreHonest m ys
honest_back m [] ys h = h
honest_back m (x ∷ xs) ys h = honest_back m xs ys h.1

-- ---- kept all the time

pub keeps_nothing : (before now : List Exchange) (old : Disk) → StaysKept before now old old
keeps_nothing before now old = record {
  kept = λ m added is honest kept. keeps_none m crates_io_index [] old kept;
  sent = λ es added is holds. sent_none es added old holds;
}

pub keeps_unchanged : (before now : List Exchange) (old new : Disk) → ((q : List ℕ) → new q ≡ old q) → StaysKept before now old new
keeps_unchanged before now old new same = record {
  kept = λ m added is honest kept. keeps_same m crates_io_index [] old new same kept;
  sent = λ es added is holds. sent_same es added old new same holds;
}

pub keeps_more : (before mid now : List Exchange) (old between new : Disk) (es fs : List Exchange) → mid ≡ before ++ es → now ≡ mid ++ fs → StaysKept before mid old between → StaysKept mid now between new → StaysKept before now old new
keeps_more before mid now old between new es fs first second one two =
    let whole : (added : List Exchange) → now ≡ before ++ added → added ≡ es ++ fs = λ added is. cancel before added (es ++ fs) (sym is ∙ second ∙ ap (λ (xs : List Exchange). xs ++ fs) first ∙ append_assoc before es fs) in
    record {
      kept = λ m added is honest kept.
          let P : List Exchange → Type 0 = λ xs. AreHonest m xs in
          let both = subst P (whole added is) honest in
          keeps_then m crates_io_index [] old between new (one.kept m es first (honest_front m es fs both) kept) (two.kept m fs second (honest_back m es fs both));
      sent = λ xs added is holds.
          let Q : List Exchange → Type 0 = λ ys. KeepsSent ys old new in
          let all : (xs ++ es) ++ fs ≡ xs ++ added = append_assoc xs es fs ∙ ap (λ (ys : List Exchange). xs ++ ys) (sym (whole added is)) in
          subst Q all (sent_then (xs ++ es) fs old between new (one.sent xs es first holds) (two.sent (xs ++ es) fs second));
    }

-- ---- an honest answer carries what the map gives

mapped_body : (m : ServerMap) (p : List ℕ) (h : Representation) (a : WireAnswer) → IsMapped m p h → a.revision ≡ h.revision → a.body ≡ h.body → IfSome a.revision (λ r. Maps m p r a.body)
mapped_body m p h a mapped revision body =
    let P : Option OwnedRevision → Type 0 = λ o. IfSome o (λ r. Maps m p r a.body) in
    subst P (sym revision) (go h.revision mapped)
  where
    go : (o : Option OwnedRevision) → IfSome o (λ r. Maps m p r h.body) → IfSome o (λ r. Maps m p r a.body)
    go None is = tt
    go (Some r) is = subst (λ (bytes : List ℕ). Maps m p r bytes) (sym body) is

sent_body : (m : ServerMap) (p : List ℕ) (o : Option Representation) (a : WireAnswer) → IfSome o (IsMapped m p) → IsSomeAnd o (λ h. (a.revision ≡ h.revision) × (a.body ≡ h.body)) → IfSome a.revision (λ r. Maps m p r a.body)
sent_body m p None a mapped is = absurd is
sent_body m p (Some h) a mapped is = mapped_body m p h a mapped is.0 is.1

pub honest_sent : (m : ServerMap) (p : List ℕ) (named : Option OwnedRevision) (held : Option Representation) (a : WireAnswer) → IfSome held (IsMapped m p) → IsHonestAnswer named held a → a.status ≡ 200 → IfSome a.revision (λ r. Maps m p r a.body)
honest_sent m p named held a mapped honest is = sent_body m p held a mapped (honest.sent is)

-- ---- one exchange

pub answered_ok : (told : Type 0) (r : Result PathAnswer NoMemory) (asked after : ℕ) (old new : DiskAt) (before now : List Exchange) (path : List ℕ) (named : Option OwnedRevision) (e : Exchange) (c : WireAnswer)
    → now ≡ before ++ e ∷ [] → e.path ≡ path → e.named ≡ named → e.url ≡ crates_io_uri e.path → e.answer ≡ Some c
    → ((IsNotModified e.answer → told) → IfOk r (IsAnswer (reads (old.files (index_file e.path))) e.answer))
    → (told → OnOk r (LeavesFile e.answer asked after (old.files (index_file e.path)) (new.files (index_file e.path))))
    → (told → (q : List ℕ) → q ≢ index_file e.path → new.files q ≡ old.files q)
    → (told → (m : ServerMap) → IsHonest m e → IsKept m crates_io_index [] old.files → Keeps m crates_io_index [] old.files new.files)
    → (told → IsToStore crates_io_index c → OnOk r (StoresUnlessFailed (entry_of crates_io_index c) (index_file e.path) (new.files (index_file e.path)) old.failed new.failed))
    → IfOk r (BlamesStore (index_file e.path) old.failed new.failed)
    → ((IsToStore crates_io_index c → ⊥) → IfOk r (λ a. a ≢ Settled cause.Store → new.failed ≡ old.failed))
    → IfOk r (λ a. (x : Exchange) × (now ≡ before ++ x ∷ []) × (x.path ≡ path) × (x.named ≡ named) × (x.url ≡ crates_io_uri x.path) × IsExchanged told asked after old new x a)
answered_ok told (Ok a) asked after old new before now path named e c follows at names url came answer leaves others keeps stored blames unfailed =
    let P : Option WireAnswer → Type 0 = λ o. IfSome o (λ w. IsToStore crates_io_index w → StoresUnlessFailed (entry_of crates_io_index w) (index_file e.path) (new.files (index_file e.path)) old.failed new.failed) in
    let Q : Option WireAnswer → Type 0 = λ o. (IsSomeAnd o (IsToStore crates_io_index) → ⊥) → a ≢ Settled cause.Store → new.failed ≡ old.failed in
    (e, follows, at, names, url, record { answer = answer; leaves = leaves; others = others; keeps = keeps; stored = λ t. subst P (sym came) (stored t); blames = blames; unfailed = subst Q (sym came) unfailed })
answered_ok told (Err x) asked after old new before now path named e c follows at names url came answer leaves others keeps stored blames unfailed = tt

-- a failed exchange
pub answered_none : (told : Type 0) (asked after : ℕ) (old : DiskAt) (e : Exchange) → e.answer ≡ None → IsExchanged told asked after old old e (Settled cause.Wire)
answered_none told asked after old e none =
    let P : Option WireAnswer → Type 0 = λ o. IsAnswer (reads (old.files (index_file e.path))) o (Settled cause.Wire) in
    let Q : Option WireAnswer → Type 0 = λ o. LeavesFile o asked after (old.files (index_file e.path)) (old.files (index_file e.path)) in
    let R : Option WireAnswer → Type 0 = λ o. IfSome o (λ w. IsToStore crates_io_index w → StoresUnlessFailed (entry_of crates_io_index w) (index_file e.path) (old.files (index_file e.path)) old.failed old.failed) in
    record {
      answer = λ told. subst P (sym none) (inl refl);
      leaves = λ told. subst Q (sym none) (record { stored = tt; unstored = λ other. refl });
      others = λ told q other. refl;
      keeps = λ told m honest kept. keeps_none m crates_io_index [] old.files kept;
      stored = λ told. subst R (sym none) tt;
      blames = record { store = λ is. absurd (cc is); else_writing = λ other. inl refl };
      unfailed = λ other quiet. refl;
    }

-- an exchange of this path is a part of what is asked
pub part_one : (path : List ℕ) (before now : List Exchange) (e : Exchange) → now ≡ before ++ e ∷ [] → e.path ≡ path → e.url ≡ crates_io_uri e.path → AddsPart (path ∷ []) before now
part_one path before now e follows at url = (e ∷ [], 1, follows, ap (λ (q : List ℕ). q ∷ []) at, (url, tt))

pub part_none : (paths : List (List ℕ)) (before now : List Exchange) → now ≡ before → AddsPart paths before now
part_none paths before now same = ([], 0, same ∙ sym (append-nil before), refl, tt)

-- from a disk that is the same
pub keeps_from : (before now : List Exchange) (old mid new : Disk) → ((q : List ℕ) → mid q ≡ old q) → StaysKept before now mid new → StaysKept before now old new
keeps_from before now old mid new same h = record {
  kept = λ m added is honest kept. keeps_then m crates_io_index [] old mid new (keeps_same m crates_io_index [] old mid same kept) (λ k. h.kept m added is honest k);
  sent = λ es added is holds. sent_from (es ++ added) old mid new same (h.sent es added is (holds_same es old mid same holds));
}
