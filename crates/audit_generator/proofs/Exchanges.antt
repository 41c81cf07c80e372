-- The exchanges of the two audits.
use Rattle.std.proofs.Common.{◌≡◌, ℕ, zero, suc, ◌+◌, ◌<◌, ◌≤◌, ◌^◌, true, false, List, [], ◌∷◌, map, Option, Some, None, option_map, bytes_eq, refl, ap, ◌∙◌, subst, inl, inr, ◌⊎◌, arith}
use Rattle.std.specs.List.{range_with_len}
use Rattle.std.proofs.lemmas.Bool.{cases_eq}
use Rattle.std.proofs.lemmas.Slice.Eq.{bytes_eq-Decides}
use Rattle.tame_names.specs.Counts.{CountStayed}
use Rattle.tame_entry.specs.declared.revisions.OwnedRevision.{OwnedRevision}
use Rattle.tame_entry.specs.declared.revisions.OwnedRevision.TheVariants.{Etag}
use Rattle.tame_cache.specs.Disk.{reads}
use Rattle.tame_cache.specs.Kept.{Disk}
use Rattle.tame_sparse.specs.Exchanges.{crates_io_index, crates_io_uri}
use Rattle.tame_sparse.specs.Named.{named_file}
use Rattle.tame_sparse.specs.Serving.{AreServed, IsServed, answer_of, held_at, not_modified, representation_of}
use Rattle.tame_sparse.specs.declared.network.Exchange.{Exchange}
use Rattle.tame_sparse.specs.declared.network.Representation.{Representation}
use Rattle.tame_sparse.specs.declared.network.WireAnswer.{WireAnswer}
use Rattle.tame_sparse.specs.declared.serving.Held.{Held}
use Rattle.audit_core.specs.Audits.{TurnNamesAndLeaves, TurnsNameAndLeave}
use Rattle.audit_core.specs.Turns.{AreAddressed, index_file}
use Rattle.audit_core.specs.declared.asking.Turn.{Turn}
use Rattle.audit_core.proofs.Lists.{cons_head, cons_tail}
use Rattle.audit_generator.specs.Hosted.{etag_at, held_for, hosted, path_at}
use Rattle.audit_generator.specs.Outcomes.{confirmed, entry_at, sent}
use Rattle.audit_generator.proofs.Names.{path_injective}
use Rattle.audit_generator.proofs.Resolved.{differs}
use Rattle.audit_generator.proofs.Stored.{entry_named}

-- ---- what is held

pub same_bytes : (xs : List ℕ) → bytes_eq xs xs ≡ true
same_bytes xs = (bytes_eq-Decides xs xs).1 refl

found_first : (n a : ℕ) → held_at (map held_for (range_with_len a (suc n))) (path_at a) ≡ Some (held_for a)
found_first n a = rw (same_bytes (path_at a)) refl

found_at : (k n a : ℕ) → a + n < 2 ^ 64 → a ≤ k → k < a + n → held_at (map held_for (range_with_len a n)) (path_at k) ≡ Some (held_for k)
found_at k zero a small low high = absurd (omega arith)
found_at k (suc n) a small low high =
    elim (cases_eq a k) [
      | inl here ↦ subst (λ (j : ℕ). held_at (map held_for (range_with_len a (suc n))) (path_at j) ≡ Some (held_for j)) here (found_first n a)
      | inr later ↦
          let other : bytes_eq (path_at a) (path_at k) ≡ false = differs (path_at a) (path_at k) (λ same. later (path_injective a k (omega arith) (omega arith) same)) in
          rw other (found_at k n (a + 1) (omega arith) (omega (arith, later)) (omega arith))
    ]

pub held_here : (n k : ℕ) → n < 2 ^ 64 → k < n → held_at (hosted n) (path_at k) ≡ Some (held_for k)
held_here n k small h = found_at k n 0 (omega arith) (omega arith) (omega arith)

-- ---- one exchange

same_exchange : (a b : Exchange) → a.url ≡ b.url → a.path ≡ b.path → a.named ≡ b.named → a.held ≡ b.held → a.answer ≡ b.answer → a ≡ b
same_exchange a b url path named held answer =
    ap (λ (u : List ℕ). record { url = u; path = a.path; named = a.named; held = a.held; answer = a.answer }) url
    ∙ ap (λ (p : List ℕ). record { url = b.url; path = p; named = a.named; held = a.held; answer = a.answer }) path
    ∙ ap (λ (r : Option OwnedRevision). record { url = b.url; path = b.path; named = r; held = a.held; answer = a.answer }) named
    ∙ ap (λ (h : Option Representation). record { url = b.url; path = b.path; named = b.named; held = h; answer = a.answer }) held
    ∙ ap (λ (w : Option WireAnswer). record { url = b.url; path = b.path; named = b.named; held = b.held; answer = w }) answer

-- what is held at the path of package k, and the answer under what is named
served_held : (n k : ℕ) (e : Exchange) → n < 2 ^ 64 → k < n → e.path ≡ path_at k → IsServed (hosted n) e → e.held ≡ Some (representation_of (held_for k))
served_held n k e small below at served =
    served.shown ∙ ap (λ (p : List ℕ). option_map representation_of (held_at (hosted n) p)) at ∙ ap (option_map representation_of) (held_here n k small below)

served_answer : (n k : ℕ) (e : Exchange) → n < 2 ^ 64 → k < n → e.path ≡ path_at k → IsServed (hosted n) e → e.answer ≡ Some (answer_of e.named (Some (held_for k)))
served_answer n k e small below at served =
    served.answered ∙ ap (λ (p : List ℕ). Some (answer_of e.named (held_at (hosted n) p))) at ∙ ap (λ (o : Option Held). Some (answer_of e.named o)) (held_here n k small below)

none_named : (n : Option OwnedRevision) → (n ≡ None) ⊎ (n ≡ named_file crates_io_index None) → n ≡ None
none_named n (inl h) = h
none_named n (inr h) = h

is_sent : (n k : ℕ) (old new : Disk) (e : Exchange) (t : Turn) → n < 2 ^ 64 → k < n → e.path ≡ path_at k → e.url ≡ crates_io_uri e.path → TurnNamesAndLeaves old new e t → IsServed (hosted n) e
    → reads (old (index_file e.path)) ≡ None → e ≡ sent k
is_sent n k old new e t small below at url turn served nothing =
    let none : e.named ≡ None = none_named e.named (rw nothing at turn.named.else_nothing) in
    same_exchange e (sent k) (url ∙ ap crates_io_uri at) at none (served_held n k e small below at served)
    (served_answer n k e small below at served ∙ ap (λ (r : Option OwnedRevision). Some (answer_of r (Some (held_for k)))) none)

confirmed_answer : (k : ℕ) → answer_of (Some (Etag (etag_at k))) (Some (held_for k)) ≡ not_modified (held_for k)
confirmed_answer k = rw (same_bytes (etag_at k)) refl

is_confirmed : (n k : ℕ) (old new : Disk) (e : Exchange) (t : Turn) → n < 2 ^ 64 → k < n → e.path ≡ path_at k → e.url ≡ crates_io_uri e.path → TurnNamesAndLeaves old new e t → IsServed (hosted n) e
    → CountStayed t.disk_before t.disk_asked → reads (old (index_file e.path)) ≡ Some (entry_at k) → e ≡ confirmed k
is_confirmed n k old new e t small below at url turn served quiet kept =
    let named : e.named ≡ Some (Etag (etag_at k)) = turn.named.quiet quiet ∙ ap (named_file crates_io_index) kept ∙ entry_named k (omega arith) in
    same_exchange e (confirmed k) (url ∙ ap crates_io_uri at) at named (served_held n k e small below at served)
    (served_answer n k e small below at served ∙ ap (λ (r : Option OwnedRevision). Some (answer_of r (Some (held_for k)))) named ∙ ap Some (confirmed_answer k))

-- ---- all of them

abbrev pub AllBelow : ℕ → List ℕ → Type 0
AllBelow n [] = Unit {0}
AllBelow n (k ∷ ks) = (k < n) × AllBelow n ks

range_below : (n a m : ℕ) → a + n ≤ m → AllBelow m (range_with_len a n)
range_below zero a m h = tt
range_below (suc n) a m h = (omega arith, range_below n (a + 1) m (omega arith))

pub all_below : (n : ℕ) → AllBelow n (range_with_len 0 n)
all_below n = range_below n 0 n (omega arith)

pub all_sent : (n : ℕ) (ks : List ℕ) (old new : Disk) (es : List Exchange) (ts : List Turn) → n < 2 ^ 64 → AllBelow n ks → map (λ (e : Exchange). e.path) es ≡ map path_at ks → AreAddressed es
    → TurnsNameAndLeave old new es ts → AreServed (hosted n) es → ((q : List ℕ) → reads (old q) ≡ None) → es ≡ map sent ks
all_sent n [] old new [] ts small below paths addressed turned served nothing = refl
all_sent n [] old new (e ∷ es) ts small below paths addressed turned served nothing = cc
all_sent n (k ∷ ks) old new [] ts small below paths addressed turned served nothing = cc
all_sent n (k ∷ ks) old new (e ∷ es) [] small below paths addressed turned served nothing = absurd turned
all_sent n (k ∷ ks) old new (e ∷ es) (t ∷ ts) small below paths addressed turned served nothing =
    let at : e.path ≡ path_at k = cons_head e.path (path_at k) (map (λ (x : Exchange). x.path) es) (map path_at ks) paths in
    let more = cons_tail e.path (path_at k) (map (λ (x : Exchange). x.path) es) (map path_at ks) paths in
    let here = is_sent n k old new e t small below.0 at addressed.0 turned.0 served.0 (nothing (index_file e.path)) in
    ap (λ (x : Exchange). x ∷ es) here ∙ ap (λ (xs : List Exchange). sent k ∷ xs) (all_sent n ks old new es ts small below.1 more addressed.1 turned.1 served.1 nothing)

-- each turn's counts of the disk stayed
abbrev pub AreQuiet : List Turn → Type 0
AreQuiet [] = Unit {0}
AreQuiet (t ∷ ts) = (CountStayed t.disk_before t.disk_asked × CountStayed t.disk_asked t.disk_after) × AreQuiet ts

pub all_confirmed : (n : ℕ) (ks : List ℕ) (old new : Disk) (es : List Exchange) (ts : List Turn) → n < 2 ^ 64 → AllBelow n ks → map (λ (e : Exchange). e.path) es ≡ map path_at ks → AreAddressed es
    → TurnsNameAndLeave old new es ts → AreServed (hosted n) es → AreQuiet ts → ((k : ℕ) → k < n → reads (old (index_file (path_at k))) ≡ Some (entry_at k)) → es ≡ map confirmed ks
all_confirmed n [] old new [] ts small below paths addressed turned served quiet kept = refl
all_confirmed n [] old new (e ∷ es) ts small below paths addressed turned served quiet kept = cc
all_confirmed n (k ∷ ks) old new [] ts small below paths addressed turned served quiet kept = cc
all_confirmed n (k ∷ ks) old new (e ∷ es) [] small below paths addressed turned served quiet kept = absurd turned
all_confirmed n (k ∷ ks) old new (e ∷ es) (t ∷ ts) small below paths addressed turned served quiet kept =
    let at : e.path ≡ path_at k = cons_head e.path (path_at k) (map (λ (x : Exchange). x.path) es) (map path_at ks) paths in
    let more = cons_tail e.path (path_at k) (map (λ (x : Exchange). x.path) es) (map path_at ks) paths in
    let file : reads (old (index_file e.path)) ≡ Some (entry_at k) = ap (λ (p : List ℕ). reads (old (index_file p))) at ∙ kept k below.0 in
    let here = is_confirmed n k old new e t small below.0 at addressed.0 turned.0 served.0 quiet.0.0 file in
    ap (λ (x : Exchange). x ∷ es) here ∙ ap (λ (xs : List Exchange). confirmed k ∷ xs) (all_confirmed n ks old new es ts small below.1 more addressed.1 turned.1 served.1 quiet.1 kept)
