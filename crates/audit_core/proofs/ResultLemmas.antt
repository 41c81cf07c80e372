-- What an index made of a response is the answer of the table.
use Rattle.std.proofs.Common.{◌≡◌, ◌≢◌, ◌⊎◌, inl, inr, ℕ, List, [], ◌∷◌, map, Bool, true, false, cond, Option, Some, None, option_map, Result, Ok, Err, refl, sym, ap, ◌∙◌, subst, arith}
use Rattle.std.specs.Prelude.{◌==◌, IfOk, IfErr, IfSome, OnOk, is_none}
use Rattle.std.proofs.lemmas.Bool.Decides.{nat_tests}
use Rattle.tame_names.specs.Counts.{CountStayed}
use Rattle.tame_names.specs.declared.errors.CacheError.{CacheError}
use Rattle.tame_names.specs.declared.errors.Error.TheVariants as error
use Rattle.tame_names.specs.declared.errors.InvalidJsonLines.{InvalidJsonLines}
use Rattle.tame_names.specs.declared.errors.IoKind.TheVariants as io_kind
use Rattle.tame_records.specs.Lines.{lines}
use Rattle.tame_entry.specs.Entry.{ReadEntry, read_entry, second_pieces}
use Rattle.tame_entry.proofs.EntryLemmas.{plain_valid}
use Rattle.tame_entry.specs.ServerMaps.{Maps, ServerMap}
use Rattle.tame_entry.specs.JsonLines.{lines_of}
use Rattle.tame_entry.specs.Krates.{Item, items_of_file, paired, unpaired}
use Rattle.tame_entry.specs.Lines.{invalid}
use Rattle.tame_entry.specs.Revision.{http_value}
use Rattle.tame_entry.specs.VersionStatuses.{version_flags}
use Rattle.tame_entry.specs.declared.index_entries.IndexEntry.{IndexEntry}
use Rattle.tame_entry.specs.declared.index_entries.IndexEntry.TheVariants.{Remote, Cache, Local}
use Rattle.tame_cache.specs.CacheFiles.{HandsOut}
use Rattle.tame_cache.specs.Disk.{File}
use Rattle.tame_cache.specs.FailedCalls.{FailedDiskCalls, AddsFailedBut, FailedReading}
use Rattle.tame_cache.specs.Kept.{Disk, cache_file_of}
use Rattle.tame_sparse.specs.Exchanges.{crates_io_index}
use Rattle.tame_sparse.specs.ResponseResults.{AreSentLines, FailedAtMostWriting, FailsFor, IsBodyResult, IsHeldBody, IsStatusFault, IsResponseResult, IsToStore, Stores, StoresUnlessFailed, StoresWhole, ResponseResult, came, entry_of}
use Rattle.tame_sparse.specs.Honest.{SaysAbsent}
use Rattle.tame_sparse.specs.declared.network.WireAnswer.{WireAnswer}
use Rattle.tame_sparse.specs.declared.responses.Response.{Response}
use Rattle.audit_core.specs.Answers.{IsAnswer, IsNotModified, answer_of, body_answer, entry_answer, file_answer, items_answer, read_answer, status_says_absent}
use Rattle.audit_core.specs.Blamed.{BlamesRead, BlamesStore}
use Rattle.audit_core.specs.ResultAnswers.{IsAnswerOfResult}
use Rattle.audit_core.specs.Turns.{LeavesFile}
use Rattle.audit_core.specs.declared.answers.PathAnswer.{PathAnswer}
use Rattle.audit_core.specs.declared.answers.PathAnswer.TheVariants.{Settled, Lines}
use Rattle.audit_core.specs.declared.verdicts.Cause.TheVariants as cause

-- ---- by the status

abbrev pub choose : {X : Type 0} → ℕ → X → X → X → X → X
choose status absent sent same other = cond (status_says_absent status) absent (cond (status == 200) sent (cond (status == 304) same other))

unequal : (a b : ℕ) → (a ≡ b → ⊥) → (a == b) ≡ false
unequal a b h = grind (arith, nat_tests)

pub choose_absent : {X : Type 0} (s : ℕ) (x y z w : X) → SaysAbsent s → choose s x y z w ≡ x
choose_absent s x y z w (inl is) = rw is refl
choose_absent s x y z w (inr (inl is)) = rw is refl
choose_absent s x y z w (inr (inr is)) = rw is refl

pub choose_sent : {X : Type 0} (s : ℕ) (x y z w : X) → s ≡ 200 → choose s x y z w ≡ y
choose_sent s x y z w is = rw is refl

pub choose_same : {X : Type 0} (s : ℕ) (x y z w : X) → s ≡ 304 → choose s x y z w ≡ z
choose_same s x y z w is = rw is refl

pub choose_other : {X : Type 0} (s : ℕ) (x y z w : X) → (SaysAbsent s → ⊥) → s ≢ 200 → s ≢ 304 → choose s x y z w ≡ w
choose_other s x y z w present sent same =
    let a = unequal s 404 (λ is. present (inl is)) in
    let b = unequal s 410 (λ is. present (inr (inl is))) in
    let c = unequal s 451 (λ is. present (inr (inr is))) in
    let d = unequal s 200 sent in
    let e = unequal s 304 same in
    rw (a, b, c, d, e) refl

pub equal_or : (a b : ℕ) → (a ≡ b) ⊎ (a ≢ b)
equal_or a b = go (a == b) refl
  where
    go : (t : Bool) → (a == b) ≡ t → (a ≡ b) ⊎ (a ≢ b)
    go true e = inl (grind (arith, nat_tests))
    go false e = inr (λ is. cc (e, same is))
      where
        same : a ≡ b → (a == b) ≡ true
        same is = grind (arith, nat_tests)

-- a status is absent, sent, not modified, or another
pub data Kind (s : ℕ) : Type 0 where
  IsAbsent : SaysAbsent s → Kind s
  IsSent : s ≡ 200 → Kind s
  IsSame : s ≡ 304 → Kind s
  IsOther : (SaysAbsent s → ⊥) → s ≢ 200 → s ≢ 304 → Kind s

absent_or : (s : ℕ) → SaysAbsent s ⊎ (SaysAbsent s → ⊥)
absent_or s = go (equal_or s 404) (equal_or s 410) (equal_or s 451)
  where
    go : (s ≡ 404) ⊎ (s ≢ 404) → (s ≡ 410) ⊎ (s ≢ 410) → (s ≡ 451) ⊎ (s ≢ 451) → SaysAbsent s ⊎ (SaysAbsent s → ⊥)
    go (inl a) b c = inl (inl a)
    go (inr a) (inl b) c = inl (inr (inl b))
    go (inr a) (inr b) (inl c) = inl (inr (inr c))
    go (inr a) (inr b) (inr c) = inr none
      where
        none : SaysAbsent s → ⊥
        none (inl x) = a x
        none (inr (inl x)) = b x
        none (inr (inr x)) = c x

pub kind_of : (s : ℕ) → Kind s
kind_of s = go (absent_or s) (equal_or s 200) (equal_or s 304)
  where
    go : SaysAbsent s ⊎ (SaysAbsent s → ⊥) → (s ≡ 200) ⊎ (s ≢ 200) → (s ≡ 304) ⊎ (s ≢ 304) → Kind s
    go (inl a) b c = IsAbsent a
    go (inr a) (inl b) c = IsSent b
    go (inr a) (inr b) (inl c) = IsSame c
    go (inr a) (inr b) (inr c) = IsOther a b c

-- ---- lines

second_items : (ps : List (List ℕ)) → map (λ (i : Item). i.1) (paired ps) ≡ second_pieces ps
second_items [] = refl
second_items (version ∷ []) = refl
second_items (version ∷ line ∷ more) = ap (λ (ls : List (List ℕ)). line ∷ ls) (second_items more)

plain_items : (ls : List (List ℕ)) → map (λ (i : Item). i.1) (unpaired ls) ≡ ls
plain_items [] = refl
plain_items (l ∷ ls) = ap (λ (xs : List (List ℕ)). l ∷ xs) (plain_items ls)

read_same : (r : Result ReadEntry CacheError) → items_answer (items_of_file r) ≡ read_answer r
read_same (Ok e) = ap (λ ls. Lines (version_flags ls)) (second_items _)
read_same (Err f) = refl

-- what a read of the cache returned says what the file says
handed_answer : (o : Option IndexEntry) (file : File) (a : PathAnswer) → HandsOut crates_io_index o file → ((e : IndexEntry) → o ≡ Some e → a ≡ entry_answer e) → (o ≡ None → a ≡ Settled cause.Absent) → a ≡ file_answer file
handed_answer None file a is some none = none refl ∙ ap file_answer (sym is)
handed_answer (Some (Cache bytes url)) file a is some none =
    some (Cache bytes url) refl ∙ read_same (read_entry url bytes) ∙ ap (λ (u : List ℕ). read_answer (read_entry u bytes)) is.1 ∙ ap file_answer (sym is.0)
handed_answer (Some (Remote json_lines)) file a is some none = absurd is
handed_answer (Some (Local bytes)) file a is some none = absurd is

body_right : (body : List ℕ) → invalid body ≡ None → body_answer body ≡ Lines (version_flags (lines body))
body_right body right = ap (λ o. cond (is_none o) (Lines (version_flags (lines body))) (Settled cause.JsonLines)) right

body_wrong : (body : List ℕ) {why : Option InvalidJsonLines} → invalid body ≡ why → is_none why ≡ false → body_answer body ≡ Settled cause.JsonLines
body_wrong body {why} is wrong = ap (λ o. cond (is_none o) (Lines (version_flags (lines body))) (Settled cause.JsonLines)) is ∙ ap (λ b. cond b (Lines (version_flags (lines body))) (Settled cause.JsonLines)) wrong

sent_lines : (body : List ℕ) (o : Option IndexEntry) (a : PathAnswer) → AreSentLines body o → ((e : IndexEntry) → o ≡ Some e → a ≡ entry_answer e) → a ≡ body_answer body
sent_lines body None a is some = absurd is
sent_lines body (Some (Remote json_lines)) a is some =
    some (Remote json_lines) refl ∙ ap (λ ls. Lines (version_flags ls)) (plain_items (lines_of json_lines) ∙ is.0) ∙ sym (body_right body is.1)
sent_lines body (Some (Cache bytes url)) a is some = absurd is
sent_lines body (Some (Local bytes)) a is some = absurd is

sent_answer : (body : List ℕ) (taken : ResponseResult) (a : PathAnswer) → IsBodyResult body taken → IsAnswerOfResult taken a → a ≡ body_answer body
sent_answer body (Ok o) a is h = sent_lines body o a is.lines (λ e same. h.lines e (ap Ok same))
sent_answer body (Err e) a is h = elim is.refused [
  | inl memory ↦ absurd (h.memory (ap Err memory))
  | inr other ↦ h.invalid other.0 (ap Err other.1) ∙ sym (body_wrong body other.2 refl)
]

pub same_answer : (file : File) (taken : ResponseResult) (a : PathAnswer) → IfOk taken (λ o. HandsOut crates_io_index o file) → IfErr taken (λ e. (e ≡ error.NoMemory) ⊎ (e ≡ error.Io io_kind.Failed)) → IsAnswerOfResult taken a
    → (a ≡ file_answer file) ⊎ (a ≡ Settled cause.Store)
same_answer file (Ok o) a handed failed h = inl (handed_answer o file a handed (λ e same. h.lines e (ap Ok same)) (λ same. h.absent (ap Ok same)))
same_answer file (Err e) a handed failed h = elim failed [
  | inl memory ↦ absurd (h.memory (ap Err memory))
  | inr io ↦ inr (h.failed (ap Err io))
]

status_answer : (s : ℕ) (text : List ℕ) (taken : ResponseResult) (a : PathAnswer) → IsStatusFault s text taken → IsAnswerOfResult taken a → a ≡ Settled (cause.Status s)
status_answer s text taken a is h = h.status is.0 s text is.1 is.2

-- ---- the answer

pub taken_answer : (file : File) (response : Response) (taken : ResponseResult) (came : WireAnswer) (a : PathAnswer) → response.status_code ≡ came.status → response.body.now ≡ came.body → IsResponseResult response taken
    → (response.status_code ≡ 304 → IfOk taken (λ o. HandsOut crates_io_index o file)) → IsAnswerOfResult taken a → IsAnswer file (Some came) a
taken_answer file response taken came a status body is handed h = go (kind_of came.status)
  where
    by_choice : {x : PathAnswer} → a ≡ x → choose came.status (Settled cause.Absent) (body_answer came.body) (file_answer file) (Settled (cause.Status came.status)) ≡ x → a ≡ answer_of (file_answer file) (Some came)
    by_choice one other = one ∙ sym other

    other_status : (s : ℕ) → came.status ≡ s → (s ≡ 401) ⊎ (s ≢ 401) → (SaysAbsent response.status_code → ⊥) → response.status_code ≢ 200 → response.status_code ≢ 304 → a ≡ Settled (cause.Status s)
    other_status s same (inl known) present sent modified = status_answer 401 _ taken a (is.unauthorized (status ∙ same ∙ known)) h ∙ ap (λ n. Settled (cause.Status n)) (sym known)
    other_status s same (inr unlike) present sent modified =
        status_answer response.status_code _ taken a (is.other present sent modified (λ known. unlike (sym same ∙ sym status ∙ known))) h ∙ ap (λ n. Settled (cause.Status n)) (status ∙ same)

    go : Kind came.status → IsAnswer file (Some came) a
    go (IsAbsent absent) =
        let P : ℕ → Type 0 = λ s. SaysAbsent s in
        inl (by_choice (h.absent (is.absent (subst P (sym status) absent))) (choose_absent came.status _ _ _ _ absent))
    go (IsSent sent) = inl (by_choice (sent_answer response.body.now taken a (is.sent (status ∙ sent)) h ∙ ap body_answer body) (choose_sent came.status _ _ _ _ sent))
    go (IsSame same) = elim (same_answer file taken a (handed (status ∙ same)) (is.not_modified (status ∙ same)) h) [
      | inl kept ↦ inl (by_choice kept (choose_same came.status _ _ _ _ same))
      | inr store ↦ inr (same, store)
    ]
    go (IsOther present sent modified) =
        let P : ℕ → Type 0 = λ s. SaysAbsent s in
        inl (by_choice (other_status came.status refl (equal_or came.status 401) (λ absent. present (subst P status absent)) (λ known. sent (sym status ∙ known)) (λ known. modified (sym status ∙ known)))
        (choose_other came.status _ _ _ _ present sent modified))

-- the file counts only at not-modified
pub answer_moved : (f g : File) (came : Option WireAnswer) (a : PathAnswer) → (IsNotModified came → f ≡ g) → IsAnswer f came a → IsAnswer g came a
answer_moved f g None a same (inl is) = inl is
answer_moved f g (Some w) a same (inl is) = inl (is ∙ go (kind_of w.status))
  where
    go : Kind w.status → answer_of (file_answer f) (Some w) ≡ answer_of (file_answer g) (Some w)
    go (IsAbsent absent) = choose_absent w.status _ _ _ _ absent ∙ sym (choose_absent w.status _ _ _ _ absent)
    go (IsSent sent) = choose_sent w.status _ _ _ _ sent ∙ sym (choose_sent w.status _ _ _ _ sent)
    go (IsSame unchanged) = ap (λ x. answer_of (file_answer x) (Some w)) (same unchanged)
    go (IsOther present sent modified) = choose_other w.status _ _ _ _ present sent modified ∙ sym (choose_other w.status _ _ _ _ present sent modified)
answer_moved f g came a same (inr store) = inr store

-- ---- what is kept of it

-- a response that is an answer of the wire
pub came_is : (response : Response) (answer : WireAnswer) → response.status_code ≡ answer.status → option_map http_value response.revision ≡ answer.revision → response.body.now ≡ answer.body → came response ≡ answer
came_is response answer status revision body = λ i. record { status = status i; revision = revision i; body = body i }

none_of : (o : Option InvalidJsonLines) → is_none o ≡ true → o ≡ None
none_of None h = refl
none_of (Some x) h = cc

-- a valid body that was sent is taken, unless out of memory
sent_ok : (body : List ℕ) (taken : ResponseResult) (a : PathAnswer) {P : Type 0} → IsBodyResult body taken → invalid body ≡ None → IsAnswerOfResult taken a → OnOk taken P → P
sent_ok body (Ok o) a is right h p = p
sent_ok body (Err e) a is right h p = elim is.refused [
  | inl memory ↦ absurd (h.memory (ap Err memory))
  | inr other ↦ absurd (cc (right, other.2))
]

pub left_file : (name q : List ℕ) (response : Response) (taken : ResponseResult) (answer : WireAnswer) (a : PathAnswer) (asked after : ℕ) (old new : Disk) → came response ≡ answer
    → IsResponseResult response taken → IsAnswerOfResult taken a → Stores crates_io_index [] name (came response) true old new → (CountStayed asked after → IsToStore crates_io_index (came response) → OnOk taken (StoresWhole crates_io_index [] name (came response) new))
    → cache_file_of [] name ≡ Some q → LeavesFile (Some answer) asked after (old q) (new q)
left_file name q response taken answer a asked after old new same is h stores stored place =
    let P : WireAnswer → Type 0 = λ w. LeavesFile (Some w) asked after (old q) (new q) in
    subst P same (record {
      stored = λ store quiet. sent_ok response.body.now taken a (is.sent store.sent) (none_of (invalid response.body.now) (plain_valid response.body.now store.plain)) h (stored quiet store) q place;
      unstored = λ other. stores.unstored other q;
    })

pub held_body : (m : ServerMap) (p : List ℕ) (response : Response) (answer : WireAnswer) → came response ≡ answer → (answer.status ≡ 200 → IfSome answer.revision (λ r. Maps m p r answer.body)) → IsHeldBody m p (came response)
held_body m p response answer same held =
    let P : WireAnswer → Type 0 = λ w. IsHeldBody m p w in
    subst P (sym same) held

-- ---- which call on the disk failed

pub blames_taken : (q : List ℕ) (before now : FailedDiskCalls) (taken : ResponseResult) (a : PathAnswer) → AddsFailedBut error.NoMemory (FailedReading q) before now taken
    → IfErr taken (λ e. (e ≡ error.NoMemory) ⊎ (e ≡ error.Io io_kind.Failed)) → IsAnswerOfResult taken a → BlamesRead q before now a
blames_taken q before now (Ok x) a adds only h = record { store = λ is. absurd (let bad = h.store is in cc bad); quiet = λ other. adds }
blames_taken q before now (Err e) a adds (inl memory) h = record { store = λ is. absurd (h.memory (ap (λ f. Err f) memory)); quiet = λ other. adds.0 memory }
blames_taken q before now (Err e) a adds (inr failed) h = record {
  store = λ is. adds.1 (λ memory. cc (memory, failed));
  quiet = λ other. absurd (other (h.failed (ap (λ f. Err f) failed)));
}

pub blamed_store : (q : List ℕ) (before now : FailedDiskCalls) (response : Response) (taken : ResponseResult) (a : PathAnswer) → FailsFor crates_io_index q (came response) true before now taken
    → IsResponseResult response taken → (taken ≡ Err (error.Io io_kind.Failed) → response.status_code ≡ 304) → IsAnswerOfResult taken a → BlamesStore q before now a
blamed_store q before now response taken a fails is same h = record {
  store = λ blamed.
      let io = h.store blamed in
      let P : ResponseResult → Type 0 = λ t. AddsFailedBut error.NoMemory (FailedReading q) before now t in
      (subst P io (fails.not_modified (same io))).1 (λ memory. cc memory);
  else_writing = λ other. go other (equal_or response.status_code 304);
}
  where
    go : a ≢ Settled cause.Store → (response.status_code ≡ 304) ⊎ (response.status_code ≢ 304) → FailedAtMostWriting q before now
    go other (inl kept) = inl ((blames_taken q before now taken a (fails.not_modified kept) (is.not_modified kept) h).quiet other)
    go other (inr different) = fails.sent different

pub blamed_none : (q : List ℕ) (before now : FailedDiskCalls) (response : Response) (taken : ResponseResult) (a : PathAnswer) → FailsFor crates_io_index q (came response) true before now taken
    → IsResponseResult response taken → IsAnswerOfResult taken a → (IsToStore crates_io_index (came response) → ⊥) → a ≢ Settled cause.Store → now ≡ before
blamed_none q before now response taken a fails is h unstored other = go (equal_or response.status_code 304)
  where
    go : (response.status_code ≡ 304) ⊎ (response.status_code ≢ 304) → now ≡ before
    go (inl same) = (blames_taken q before now taken a (fails.not_modified same) (is.not_modified same) h).quiet other
    go (inr different) = fails.unstored different unstored

pub stored_unless : (q : List ℕ) (before now : FailedDiskCalls) (response : Response) (taken : ResponseResult) (a : PathAnswer) (new : Disk) → IsResponseResult response taken → IsAnswerOfResult taken a
    → IsToStore crates_io_index (came response) → OnOk taken (StoresUnlessFailed (entry_of crates_io_index (came response)) q (new q) before now)
    → StoresUnlessFailed (entry_of crates_io_index (came response)) q (new q) before now
stored_unless q before now response taken a new is h store stored =
    sent_ok response.body.now taken a (is.sent store.sent) (none_of (invalid response.body.now) (plain_valid response.body.now store.plain)) h stored
