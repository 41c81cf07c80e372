-- The files of a history are of what the server held and sent in its exchanges.
use Rattle.std.proofs.Common.{◌≡◌, inl, inr, ℕ, List, [], ◌∷◌, ◌++◌, length, Bool, true, false, cond, Option, Some, None, Result, Ok, Err, IsTrue, refl, sym, ap, ◌∙◌, subst, arith}
use Rattle.std.specs.Prelude.{IfSome, IsErr, IsSomeAnd, bytes_eq, flat_map}
use Rattle.tame_names.specs.Names.{IsIndexPath}
use Rattle.tame_names.specs.declared.errors.CacheError.{CacheError}
use Rattle.tame_records.specs.Lines.{lines}
use Rattle.tame_entry.specs.Entry.{ReadEntry, pair_bytes, pairs, read_entry}
use Rattle.tame_entry.specs.Lines.{valid}
use Rattle.tame_entry.specs.ServerMaps.{ServerMap, body_at}
use Rattle.tame_entry.specs.Revision.{IsRevision, is_honest_text, revision_text}
use Rattle.tame_entry.specs.VersionStatuses.{version_flags}
use Rattle.tame_entry.specs.declared.revisions.OwnedRevision.{OwnedRevision}
use Rattle.tame_entry.proofs.EntryLemmas.{body_read, lines_back, plain_valid}
use Rattle.tame_cache.specs.Disk.{EachMoment, File, Step, Synced, content, may_leave, reads}
use Rattle.tame_cache.specs.Gate.{IsOrderly}
use Rattle.tame_cache.specs.Kept.{AreRefused, Disk, IsRefused, IsUnbelieved, IsWithoutFiles, cache_file}
use Rattle.tame_cache.proofs.Moments.{reads_left, started}
use Rattle.tame_sparse.specs.Exchanges.{crates_io_index}
use Rattle.tame_sparse.specs.Honest.{AreHonest, IsHonestAnswer, IsMapped}
use Rattle.tame_sparse.specs.ResponseResults.{entry_of, stored_under}
use Rattle.tame_sparse.specs.declared.network.Exchange.{Exchange}
use Rattle.tame_sparse.specs.declared.network.Representation.{Representation}
use Rattle.tame_sparse.specs.declared.network.WireAnswer.{WireAnswer}
use Rattle.audit_lock.specs.declared.resolving.Package.{Package}
use Rattle.audit_core.specs.Answers.{body_answer, file_answer, read_answer}
use Rattle.audit_core.specs.Histories.{AuditHistory, audits, begins, crashes}
use Rattle.audit_core.specs.Recalled.{AreUnasked, IsFileAnswer, IsFileVerdict, IsVerdictByCacheAt}
use Rattle.audit_core.specs.Remembered.{IsRemembered, IsRememberedAt, IsVerdictByRemembered, WasHeld, exchanges_in}
use Rattle.audit_core.specs.Sent.{HoldsSent, IsEntryOf, IsSentFile, WasSent}
use Rattle.audit_core.specs.Turns.{index_file}
use Rattle.audit_core.specs.Verdicts.{AreVerdicts, turn_of}
use Rattle.audit_core.specs.declared.answers.PathAnswer.{PathAnswer}
use Rattle.audit_core.specs.declared.answers.PathAnswer.TheVariants.{Lines, Settled}
use Rattle.audit_core.specs.declared.asking.Turn.{Turn}
use Rattle.audit_core.specs.declared.verdicts.Cause.TheVariants as cause
use Rattle.audit_core.specs.declared.verdicts.Judged.{Judged}
use Rattle.audit_core.specs.declared.verdicts.Verdict.{Verdict}
use Rattle.audit_core.proofs.Lists.{same_bytes}
use Rattle.audit_core.proofs.SentLemmas.{holds_after}
use Rattle.audit_core.proofs.Sound.{formed, index_whole}

-- ---- histories

honest_both : (m : ServerMap) (xs ys : List Exchange) → AreHonest m xs → AreHonest m ys → AreHonest m (xs ++ ys)
honest_both m [] ys h k = k
honest_both m (x ∷ xs) ys h k = (h.0, honest_both m xs ys h.1 k)

pub all_honest : (m : ServerMap) (began now : Disk) (history : AuditHistory m began now) → AreHonest m (exchanges_in m began now history)
all_honest m began now (begins disk unbelieved) = tt
all_honest m began now (audits start mid next before after added earlier follow honest keeps) = honest_both m (exchanges_in m start mid earlier) added (all_honest m start mid earlier) honest
all_honest m began now (crashes start mid next earlier crash) = all_honest m start mid earlier

-- each file is of what these exchanges sent, and was at each moment since the last call began
record SoFar (es : List Exchange) (began now : Disk) : Type 0 where
  holds : HoldsSent es now
  since : (p : List ℕ) → IsIndexPath p → EachMoment (began (cache_file [] p)) (now (cache_file [] p)) (IsSentFile es p)

at_rest : (es : List Exchange) (disk : Disk) → HoldsSent es disk → SoFar es disk disk
at_rest es disk holds = record { holds = holds; since = λ p is. started (disk (cache_file [] p)) (IsSentFile es p) (holds p is).all }

holds_empty : (disk : Disk) → IsWithoutFiles [] disk → HoldsSent [] disk
holds_empty disk none p is = record {
  orderly = λ absent file now. omega (arith, ap (λ (f : File). length (content f)) (none p is file now));
  all = λ file now. inl (subst (IsRefused crates_io_index) (sym (none p is file now)) tt);
}

holds_refused : (disk : Disk) → AreRefused crates_io_index [] disk → HoldsSent [] disk
holds_refused disk refused p is =
    let there = refused p is in
    record {
      orderly = λ absent file now. omega (arith, ap (λ (f : File). length (content f)) (there.0 file now ∙ absent));
      all = λ file now. inl (subst (IsRefused crates_io_index) (sym (there.0 file now)) there.1);
    }

holds_unbelieved : (disk : Disk) → IsUnbelieved crates_io_index [] disk → HoldsSent [] disk
holds_unbelieved disk (inl none) = holds_empty disk none
holds_unbelieved disk (inr refused) = holds_refused disk refused

synced_orderly : (past : List Step) (file : File) → past ≡ Synced file ∷ [] → IsOrderly past
synced_orderly past file is none left now =
    let same : left ≡ file = subst (λ (l : List Step). may_leave l left) is now in
    let absent : file ≡ None = sym (ap reads is) ∙ none in
    omega (arith, ap (λ (f : File). length (content f)) (same ∙ absent))

so_far : (m : ServerMap) (began now : Disk) (history : AuditHistory m began now) → SoFar (exchanges_in m began now history) began now
so_far m began now (begins disk unbelieved) = at_rest [] disk (holds_unbelieved disk unbelieved)
so_far m began now (audits start mid next before after added earlier follow honest keeps) =
    let es = exchanges_in m start mid earlier in
    let last = keeps.sent es added follow (so_far m start mid earlier).holds in
    record { holds = holds_after (es ++ added) mid next last; since = λ p is. (last p is).any_moment }
so_far m began now (crashes start mid next earlier crash) =
    let es = exchanges_in m start mid earlier in
    let sofar = so_far m start mid earlier in
    at_rest es next (λ p is.
    let at = crash (cache_file [] p) in
    record {
      orderly = synced_orderly (next (cache_file [] p)) at.0 at.2;
      all = λ file now.
          let same : file ≡ at.0 = subst (λ (l : List Step). may_leave l file) at.2 now in
          subst (IsSentFile es p) (sym same) ((sofar.since p is).each at.0 at.1);
    })

-- ---- what a file says

revised : (o p : Option OwnedRevision) → o ≡ p → (body : List ℕ) (m : ServerMap) (q : List ℕ) → IfSome p (λ r. IsTrue (is_honest_text (revision_text r)) × (body_at m q r ≡ Some body)) → IsRevision (stored_under o)
revised o p same body m q mapped = subst (λ (x : Option OwnedRevision). IsRevision (stored_under x)) (sym same) (go p mapped)
  where
    go : (x : Option OwnedRevision) → IfSome x (λ r. IsTrue (is_honest_text (revision_text r)) × (body_at m q r ≡ Some body)) → IsRevision (stored_under x)
    go None h = tt
    go (Some r) h = formed r h.0

entry_says : (a : WireAnswer) (file : File) → IsEntryOf file a → IsRevision (stored_under a.revision) → file_answer file ≡ body_answer a.body
entry_says a file entry revision =
    let read : read_entry crates_io_index (entry_of crates_io_index a) ≡ Ok (record { revision = stored_under a.revision; versions = flat_map pair_bytes (pairs a.body) }) =
    body_read crates_io_index (stored_under a.revision) a.body index_whole revision entry.0.storable entry.0.plain in
    let right : valid a.body ≡ true = plain_valid a.body entry.0.plain in
    let says : Lines (version_flags (lines a.body)) ≡ body_answer a.body = rw right refl in
    ap file_answer entry.1 ∙ ap read_answer read ∙ ap (λ ls. Lines (version_flags ls)) (lines_back a.body entry.0.plain) ∙ says

held_says : (m : ServerMap) (q : List ℕ) (a : WireAnswer) (held : Option Representation) (file : File) → IfSome held (IsMapped m q) → IsSomeAnd held (λ h. (a.revision ≡ h.revision) × (a.body ≡ h.body)) → IsEntryOf file a
    → IsSomeAnd held (λ h. file_answer file ≡ body_answer h.body)
held_says m q a None file mapped sent entry = absurd sent
held_says m q a (Some h) file mapped sent entry =
    entry_says a file entry (revised a.revision h.revision sent.0 h.body m q mapped) ∙ ap body_answer sent.1

one_held : (m : ServerMap) (q : List ℕ) (n : Option OwnedRevision) (o : Option WireAnswer) (held : Option Representation) (file : File) → IfSome held (IsMapped m q) → IfSome o (IsHonestAnswer n held) → IsSomeAnd o (IsEntryOf file)
    → IsSomeAnd o (λ a. a.status ≡ 200) × IsSomeAnd held (λ h. file_answer file ≡ body_answer h.body)
one_held m q n None held file mapped honest entry = absurd entry
one_held m q n (Some a) held file mapped honest entry = (entry.0.sent, held_says m q a held file mapped (honest.sent entry.0.sent) entry)

was_held : (m : ServerMap) (es : List Exchange) (q : List ℕ) (file : File) → AreHonest m es → WasSent es q file → WasHeld (λ body. file_answer file ≡ body_answer body) es q
was_held m [] q file honest is = absurd is
was_held m (e ∷ es) q file honest (inl is) = inl (is.0, one_held m e.path e.named e.answer e.held file honest.0.mapped honest.0.answered is.1)
was_held m (e ∷ es) q file honest (inr is) = inr (was_held m es q file honest.1 is)

refused_read : (o : Result ReadEntry CacheError) → IsErr o → read_answer o ≡ Settled cause.Absent
refused_read (Ok e) h = cc
refused_read (Err f) h = refl

refused_says : (file : File) → IsRefused crates_io_index file → file_answer file ≡ Settled cause.Absent
refused_says None h = refl
refused_says (Some bytes) h = refused_read (read_entry crates_io_index bytes) h

-- ---- verdicts

some_more : {T : Type 0} (o : Option T) (P Q : T → Type 0) → ((x : T) → o ≡ Some x → P x → Q x) → IsSomeAnd o P → IsSomeAnd o Q
some_more None P Q f is = is
some_more (Some x) P Q f is = f x refl is

remembers : (m : ServerMap) (es : List Exchange) (q : List ℕ) (file : File) (t : Turn) (a : PathAnswer) → AreHonest m es → IsSentFile es q file → IsFileAnswer file t a → IsRemembered es q t a
remembers m es q file t a honest is (inl says) = go is
  where
    go : IsSentFile es q file → IsRemembered es q t a
    go (inl refused) = inl (says ∙ refused_says file refused)
    go (inr sent) = inr (inl (subst (λ (x : PathAnswer). WasHeld (λ body. x ≡ body_answer body) es q) (sym says) (was_held m es q file honest sent)))
remembers m es q file t a honest is (inr store) = inr (inr store)

turn_case : (b : Bool) (q : List ℕ) (t u : Turn) (o : Option Turn) → bytes_eq t.path q ≡ b → IsIndexPath t.path → (o ≡ Some u → IsIndexPath q) → cond b (Some t) o ≡ Some u → IsIndexPath q
turn_case true q t u o tests there more is = subst IsIndexPath (same_bytes t.path q tests) there
turn_case false q t u o tests there more is = more is

turn_place : (q : List ℕ) (ts : List Turn) (u : Turn) → AreUnasked ts → turn_of q ts ≡ Some u → IsIndexPath q
turn_place q [] u unasked is = cc
turn_place q (t ∷ ts) u unasked is = turn_case (bytes_eq t.path q) q t u _ refl unasked.0.place (turn_place q ts u unasked.1) is

one : (told : Type 0) (t : told) (m : ServerMap) (es : List Exchange) (disk : Disk) (turns : List Turn) (version : List ℕ) (o : Option (List ℕ)) (v : Verdict) → AreHonest m es → HoldsSent es disk → AreUnasked turns → IsVerdictByCacheAt told (λ q. reads (disk (index_file q))) turns version o v
    → IsRememberedAt es turns version o v
one told t m es disk turns version None v honest holds unasked is = is
one told t m es disk turns version (Some q) v honest holds unasked is =
    let f = reads (disk (index_file q)) in
    some_more (turn_of q turns) (λ u. told → IsFileVerdict f u version v) (λ u. IsVerdictByRemembered es q u version v)
    (λ u at says.
    let said = says t in
    (said.0, remembers m es q f u said.0 honest ((holds q (turn_place q turns u unasked at)).all f (reads_left (disk (index_file q)))) said.1, said.2)) is

verdicts_more : (Is Js : List ℕ → Option (List ℕ) → Verdict → Type 0) → ((version : List ℕ) (o : Option (List ℕ)) (v : Verdict) → Is version o v → Js version o v) → (ps : List (ℕ × Package)) (js : List Judged) → AreVerdicts Is ps js → AreVerdicts Js ps js
verdicts_more Is Js f [] [] h = tt
verdicts_more Is Js f [] (j ∷ js) h = absurd h
verdicts_more Is Js f (p ∷ ps) [] h = absurd h
verdicts_more Is Js f (p ∷ ps) (j ∷ js) h = (h.0, f p.1.version _ j.verdict h.1, verdicts_more Is Js f ps js h.2)

-- what an offline audit says over files of what these exchanges sent
pub all_remembered : (told : Type 0) (t : told) (m : ServerMap) (es : List Exchange) (disk : Disk) (turns : List Turn) (ps : List (ℕ × Package)) (js : List Judged) → AreHonest m es → HoldsSent es disk → AreUnasked turns
    → AreVerdicts (IsVerdictByCacheAt told (λ q. reads (disk (index_file q))) turns) ps js → AreVerdicts (IsRememberedAt es turns) ps js
all_remembered told t m es disk turns ps js honest holds unasked h =
    verdicts_more (IsVerdictByCacheAt told (λ q. reads (disk (index_file q))) turns) (IsRememberedAt es turns) (λ version o v is. one told t m es disk turns version o v honest holds unasked is) ps js h

-- in a history
pub history_sent : (m : ServerMap) (began now : Disk) (history : AuditHistory m began now) → HoldsSent (exchanges_in m began now history) now
history_sent m began now history = (so_far m began now history).holds

pub remembered : (m : ServerMap) (began now : Disk) (history : AuditHistory m began now) (turns : List Turn) (ps : List (ℕ × Package)) (js : List Judged) → AreUnasked turns → AreVerdicts (IsVerdictByCacheAt (Unit {0}) (λ q. reads (now (index_file q))) turns) ps js
    → AreVerdicts (IsRememberedAt (exchanges_in m began now history) turns) ps js
remembered m began now history turns ps js unasked h =
    all_remembered (Unit {0}) tt m (exchanges_in m began now history) now turns ps js (all_honest m began now history) (history_sent m began now history) unasked h
