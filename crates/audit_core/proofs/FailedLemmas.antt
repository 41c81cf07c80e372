-- Which calls on the disk failed in each turn, by the verdicts of its packages.
use Rattle.std.proofs.Common.{◌≡◌, ◌≢◌, ℕ, List, [], ◌∷◌, ◌++◌, map, Bool, true, false, cond, Option, Some, refl, sym, ap, ◌∙◌, subst}
use Rattle.std.specs.Prelude.{bytes_eq, ◌||◌, IfSome, IsSomeAnd}
use Rattle.tame_cache.specs.Disk.{Step, reads}
use Rattle.tame_cache.specs.FailedCalls.{FailedDiskCalls}
use Rattle.tame_cache.specs.Kept.{Disk}
use Rattle.tame_sparse.specs.Exchanges.{crates_io_index}
use Rattle.tame_sparse.specs.Named.{NamesUnlessFailed}
use Rattle.tame_sparse.specs.ResponseResults.{IsToStore, StoresUnlessFailed, entry_of}
use Rattle.tame_sparse.specs.declared.network.Exchange.{Exchange}
use Rattle.tame_sparse.specs.declared.network.WireAnswer.{WireAnswer}
use Rattle.audit_lock.specs.declared.resolving.Package.{Package}
use Rattle.audit_core.specs.AnsweredTurns.{IsAnsweredAt, answered_turn_of}
use Rattle.audit_core.specs.Blamed.{BlamesStore}
use Rattle.audit_core.specs.FailedReads.{BlameReads, TurnsFail}
use Rattle.audit_core.specs.FailedTurns.{InSteps, IsAnswerFor, IsAskedTurn, IsReadTurn, IsTurnByCalls, Verdicts, verdicts_of}
use Rattle.audit_core.specs.Paths.{is_among}
use Rattle.audit_core.specs.Turns.{AddsTurns, DiskAt, TurnsInOrder, index_file}
use Rattle.audit_core.specs.Verdicts.{AreVerdicts, verdict_by}
use Rattle.audit_core.specs.declared.answers.PathAnswer.TheVariants.{Settled}
use Rattle.audit_core.specs.declared.asking.AnsweredTurn.{AnsweredTurn}
use Rattle.audit_core.specs.declared.verdicts.Cause.TheVariants as cause
use Rattle.audit_core.specs.declared.verdicts.Judged.{Judged}
use Rattle.audit_core.proofs.Apart.{Apart, Avoids, Distinct, asked_apart, turned_others}
use Rattle.audit_core.proofs.Exchanged.{cancel}
use Rattle.audit_core.proofs.Lists.{bytes_same, same_bytes, somes}
use Rattle.audit_core.proofs.Steps.{turned_paths}
use Rattle.audit_core.proofs.Table.{all_verdicts}
use Rattle.audit_core.proofs.Whole.{IsDone, some_paths}

-- ---- each turn is the one of its path

abbrev pub FoundIn : List AnsweredTurn → List AnsweredTurn → Type 0
FoundIn hs [] = Unit {0}
FoundIn hs (k ∷ ks) = (answered_turn_of k.turn.path hs ≡ Some k) × FoundIn hs ks

neither_left : (a b : Bool) → (a || b) ≡ false → a ≡ false
neither_left true b h = h
neither_left false b h = refl

neither_right : (a b : Bool) → (a || b) ≡ false → b ≡ false
neither_right true b h = cc
neither_right false b h = h

passed_over : (b : Bool) (x k : AnsweredTurn) (o : Option AnsweredTurn) → (b ≡ true → ⊥) → o ≡ Some k → cond b (Some x) o ≡ Some k
passed_over true x k o other is = absurd (other refl)
passed_over false x k o other is = is

found_more : (x : AnsweredTurn) (hs ks : List AnsweredTurn) → is_among x.turn.path (map (λ (h : AnsweredTurn). h.turn.path) ks) ≡ false → FoundIn hs ks → FoundIn (x ∷ hs) ks
found_more x hs [] other found = tt
found_more x hs (k ∷ ks) other found =
    let unlike = neither_left (bytes_eq k.turn.path x.turn.path) (is_among x.turn.path (map (λ (h : AnsweredTurn). h.turn.path) ks)) other in
    let rest = neither_right (bytes_eq k.turn.path x.turn.path) (is_among x.turn.path (map (λ (h : AnsweredTurn). h.turn.path) ks)) other in (
      passed_over (bytes_eq x.turn.path k.turn.path) x k (answered_turn_of k.turn.path hs)
          (λ same. let back = ap (bytes_eq k.turn.path) (same_bytes x.turn.path k.turn.path same) ∙ bytes_same k.turn.path in cc (unlike, back)) found.0,
      found_more x hs ks rest found.1,
    )

pub all_found : (hs : List AnsweredTurn) → Distinct (map (λ (h : AnsweredTurn). h.turn.path) hs) → FoundIn hs hs
all_found [] distinct = tt
all_found (x ∷ hs) distinct =
    (ap (λ b. cond b (Some x) (answered_turn_of x.turn.path hs)) (bytes_same x.turn.path), found_more x hs hs distinct.0 (all_found hs distinct.1))

-- ---- the packages of a path are judged by the answer of its turn

answer_for : (hs : List AnsweredTurn) (v : Verdicts) (q : List ℕ) (h : AnsweredTurn) → answered_turn_of q hs ≡ Some h → AreVerdicts (IsAnsweredAt hs) v.packages v.verdicts → IsAnswerFor v q h.answer
answer_for hs v q h found judged =
    all_verdicts (λ version o verdict. o ≡ Some q → verdict ≡ verdict_by h.answer version) hs (λ version is. absurd (cc is))
    (λ p version k at same.
    let here : p ≡ q = cc same in
    let both : Some k ≡ Some h = sym at ∙ ap (λ (x : List ℕ). answered_turn_of x hs) here ∙ found in
    let mine : k ≡ h = cc both in
    ap (λ (x : AnsweredTurn). verdict_by x.answer version) mine)
    v.packages v.verdicts judged

-- ---- turns that ask, over the files at the entry and at the exit

record PairFails (old new : Disk) (before now : FailedDiskCalls) (e : Exchange) (h : AnsweredTurn) : Type 0 where
  path : e.path ≡ h.turn.path
  asked : FailedDiskCalls
  named : NamesUnlessFailed crates_io_index (index_file e.path) (reads (old (index_file e.path))) before asked e.named
  blames : BlamesStore (index_file e.path) asked now h.answer
  stored : IfSome e.answer (λ c. IsToStore crates_io_index c → StoresUnlessFailed (entry_of crates_io_index c) (index_file e.path) (new (index_file e.path)) asked now)
  unfailed : (IsSomeAnd e.answer (IsToStore crates_io_index) → ⊥) → h.answer ≢ Settled cause.Store → now ≡ asked

abbrev PairsFail : Disk → Disk → FailedDiskCalls → List Exchange → List AnsweredTurn → FailedDiskCalls → Type 0
PairsFail old new before [] [] now = now ≡ before
PairsFail old new before (e ∷ es) (h ∷ hs) now = (mid : FailedDiskCalls) × PairFails old new before mid e h × PairsFail old new mid es hs now
PairsFail old new before _ _ now = ⊥

pairs_from : (old mid new : Disk) (f : List ℕ) (before now : FailedDiskCalls) (es : List Exchange) (hs : List AnsweredTurn) → Avoids f es → ((q : List ℕ) → q ≢ f → mid q ≡ old q) → PairsFail mid new before es hs now → PairsFail old new before es hs now
pairs_from old mid new f before now [] [] other same x = x
pairs_from old mid new f before now [] (h ∷ hs) other same x = absurd x
pairs_from old mid new f before now (e ∷ es) [] other same x = absurd x
pairs_from old mid new f before now (e ∷ es) (h ∷ hs) other same x =
    let here : mid (index_file e.path) ≡ old (index_file e.path) = same (index_file e.path) (λ is. other.0 (sym is)) in (
      x.0,
      record {
        path = x.1.path;
        asked = x.1.asked;
        named = subst (λ (s : List Step). NamesUnlessFailed crates_io_index (index_file e.path) (reads s) before x.1.asked e.named) here x.1.named;
        blames = x.1.blames;
        stored = x.1.stored;
        unfailed = x.1.unfailed;
      },
      pairs_from old mid new f x.0 now es hs other.1 same x.2,
    )

turned_fails : (told : Type 0) (t : told) (old new : DiskAt) (es : List Exchange) (hs : List AnsweredTurn) → TurnsInOrder told old es hs new → Apart es → PairsFail old.files new.files old.failed es hs new.failed
turned_fails told t old new [] [] x distinct = x.1
turned_fails told t old new [] (h ∷ hs) x distinct = absurd x
turned_fails told t old new (e ∷ es) [] x distinct = absurd x
turned_fails told t old new (e ∷ es) (h ∷ hs) x distinct =
    let f = index_file e.path in
    let turn = x.1 in
    let after : new.files f ≡ x.0.files f = turned_others told t x.0 new f es hs x.2 distinct.0 in
    let P : List Step → Type 0 = λ s. IfSome e.answer (λ c. IsToStore crates_io_index c → StoresUnlessFailed (entry_of crates_io_index c) f s turn.asked x.0.failed) in (
      x.0.failed,
      record {
        path = turn.path;
        asked = turn.asked;
        named = turn.named_unless_failed t;
        blames = turn.exchanged.blames;
        stored = subst P (sym after) (turn.exchanged.stored t);
        unfailed = turn.exchanged.unfailed;
      },
      pairs_from old.files x.0.files new.files f x.0.failed new.failed es hs distinct.0 (turn.exchanged.others t) (turned_fails told t x.0 new es hs x.2 distinct.1),
    )

pairs_done : (all : List AnsweredTurn) (v : Verdicts) (old new : Disk) (before now : FailedDiskCalls) (es : List Exchange) (hs : List AnsweredTurn) → AreVerdicts (IsAnsweredAt all) v.packages v.verdicts → FoundIn all hs
    → PairsFail old new before es hs now → InSteps (IsTurnByCalls old new v) before es now
pairs_done all v old new before now [] [] judged found x = x
pairs_done all v old new before now [] (h ∷ hs) judged found x = absurd x
pairs_done all v old new before now (e ∷ es) [] judged found x = absurd x
pairs_done all v old new before now (e ∷ es) (h ∷ hs) judged found x = (
  x.0,
  record {
    asked = x.1.asked;
    named = x.1.named;
    answer = h.answer;
    judged = answer_for all v e.path h (ap (λ (q : List ℕ). answered_turn_of q all) x.1.path ∙ found.0) judged;
    blames = x.1.blames;
    stored = x.1.stored;
    unfailed = x.1.unfailed;
  },
  pairs_done all v old new x.0 now es hs judged found.1 x.2,
)

done_found : (paths : List (List ℕ)) (packages : List (ℕ × Package)) (hs : List AnsweredTurn) (verdicts : List Judged) → IsDone paths packages hs verdicts → FoundIn hs hs
done_found paths packages hs verdicts d = all_found hs (subst Distinct (sym d.answered_turns) d.distinct)

pub exchanged_done : (told : Type 0) (t : told) (paths : List (List ℕ)) (packages : List (ℕ × Package)) (hs : List AnsweredTurn) (verdicts : List Judged) (before now : List Exchange) (old new : DiskAt) → IsDone paths packages hs verdicts
    → AddsTurns told before now old hs new → (added : List Exchange) → now ≡ before ++ added → InSteps (IsTurnByCalls old.files new.files (verdicts_of packages verdicts)) old.failed added new.failed
exchanged_done told t paths packages hs verdicts before now old new d x added is =
    let same : added ≡ x.0 = cancel before added x.0 (sym is ∙ x.1) in
    let asked : map (λ (e : Exchange). e.path) x.0 ≡ paths = somes (λ (e : Exchange). e.path) x.0 paths (turned_paths told old new x.0 hs x.2 ∙ some_paths hs paths d.answered_turns) in
    let P : List Exchange → Type 0 = λ es. InSteps (IsTurnByCalls old.files new.files (verdicts_of packages verdicts)) old.failed es new.failed in
    subst P (sym same)
    (pairs_done hs (verdicts_of packages verdicts) old.files new.files old.failed new.failed x.0 hs d.judged (done_found paths packages hs verdicts d)
    (turned_fails told t old new x.0 hs x.2 (asked_apart told old new x.0 hs paths x.2 asked d.distinct)))

-- ---- turns alone

asked_steps : (all : List AnsweredTurn) (v : Verdicts) (before now : FailedDiskCalls) (hs : List AnsweredTurn) → AreVerdicts (IsAnsweredAt all) v.packages v.verdicts → FoundIn all hs → TurnsFail before hs now
    → InSteps (IsAskedTurn v) before (map (λ h. h.turn) hs) now
asked_steps all v before now [] judged found x = x
asked_steps all v before now (h ∷ hs) judged found x = (
  x.0,
  record { asked = x.1.0; read = x.1.1; answer = h.answer; judged = answer_for all v h.turn.path h found.0 judged; blames = x.1.2 },
  asked_steps all v x.0 now hs judged found.1 x.2,
)

read_steps : (all : List AnsweredTurn) (v : Verdicts) (before now : FailedDiskCalls) (hs : List AnsweredTurn) → AreVerdicts (IsAnsweredAt all) v.packages v.verdicts → FoundIn all hs → BlameReads before hs now
    → InSteps (IsReadTurn v) before (map (λ h. h.turn) hs) now
read_steps all v before now [] judged found x = x
read_steps all v before now (h ∷ hs) judged found x = (
  x.0,
  record { answer = h.answer; judged = answer_for all v h.turn.path h found.0 judged; blames = x.1 },
  read_steps all v x.0 now hs judged found.1 x.2,
)

pub asked_done : (paths : List (List ℕ)) (packages : List (ℕ × Package)) (hs : List AnsweredTurn) (verdicts : List Judged) (before now : FailedDiskCalls) → IsDone paths packages hs verdicts → TurnsFail before hs now
    → InSteps (IsAskedTurn (verdicts_of packages verdicts)) before (map (λ h. h.turn) hs) now
asked_done paths packages hs verdicts before now d x = asked_steps hs (verdicts_of packages verdicts) before now hs d.judged (done_found paths packages hs verdicts d) x

pub read_done : (paths : List (List ℕ)) (packages : List (ℕ × Package)) (hs : List AnsweredTurn) (verdicts : List Judged) (before now : FailedDiskCalls) → IsDone paths packages hs verdicts → BlameReads before hs now
    → InSteps (IsReadTurn (verdicts_of packages verdicts)) before (map (λ h. h.turn) hs) now
read_done paths packages hs verdicts before now d x = read_steps hs (verdicts_of packages verdicts) before now hs d.judged (done_found paths packages hs verdicts d) x

-- ---- one after the other

pub steps_more : {A : Type 0} (Step : A → FailedDiskCalls → FailedDiskCalls → Type 0) (a : FailedDiskCalls) (xs ys : List A) (b c : FailedDiskCalls) → InSteps Step a xs b → InSteps Step b ys c → InSteps Step a (xs ++ ys) c
steps_more Step a [] ys b c h k = subst (λ (x : FailedDiskCalls). InSteps Step x ys c) h k
steps_more Step a (x ∷ xs) ys b c h k = (h.0, h.1, steps_more Step h.0 xs ys b c h.2 k)
