-- Distinct paths have distinct files, so what a turn leaves of its file is there at the end.
use Rattle.std.proofs.Common.{◌≡◌, ◌≢◌, ℕ, List, [], ◌∷◌, ◌++◌, map, Bool, true, false, cond, IsTrue, refl, sym, ap, ◌∙◌, subst}
use Rattle.std.specs.Prelude.{bytes_eq}
use Rattle.tame_names.specs.Names.{IsIndexPath}
use Rattle.tame_cache.specs.Disk.{Step, reads}
use Rattle.tame_cache.specs.Kept.{Disk}
use Rattle.tame_cache.proofs.KeptLemmas.{one_file}
use Rattle.tame_sparse.specs.Exchanges.{crates_io_index}
use Rattle.tame_sparse.specs.Named.{NamesKept}
use Rattle.tame_sparse.specs.declared.network.Exchange.{Exchange}
use Rattle.audit_core.specs.Answers.{IsAnswer, IsNotModified}
use Rattle.audit_core.specs.Audits.{TurnsNameAndLeave}
use Rattle.audit_core.specs.Paths.{distinct_after, is_among}
use Rattle.audit_core.specs.Turns.{DiskAt, LeavesFile, TurnsInOrder, index_file}
use Rattle.audit_core.specs.declared.asking.AnsweredTurn.{AnsweredTurn}
use Rattle.audit_core.proofs.Lists.{bytes_same, cons_head, cons_tail, or_left, or_right, same_bytes}
use Rattle.audit_core.proofs.Table.{or_cases}
use Rattle.audit_core.proofs.ResultLemmas.{answer_moved}

-- ---- distinct paths

abbrev pub Distinct : List (List ℕ) → Type 0
Distinct [] = Unit {0}
Distinct (p ∷ ps) = (is_among p ps ≡ false) × Distinct ps

not_both : (b : Bool) → (b ≡ true → ⊥) → b ≡ false
not_both true h = absurd (h refl)
not_both false h = refl

among_more : (q x : List ℕ) (seen : List (List ℕ)) → is_among q seen ≡ true → is_among q (seen ++ x ∷ []) ≡ true
among_more q x [] h = cc
among_more q x (y ∷ ys) h = or_cases (bytes_eq y q) (is_among q ys) h (λ e. or_left _ _ e) (λ e. or_right _ _ (among_more q x ys e))

among_last : (x : List ℕ) (seen : List (List ℕ)) → is_among x (seen ++ x ∷ []) ≡ true
among_last x [] = or_left _ _ (bytes_same x)
among_last x (y ∷ ys) = or_right _ _ (among_last x ys)

pub record IsApartFrom (seen ps : List (List ℕ)) : Type 0 where
  pub distinct : Distinct ps
  pub unseen : (p : List ℕ) → is_among p ps ≡ true → is_among p seen ≡ false

apart_case : (b : Bool) (seen : List (List ℕ)) (x : List ℕ) (xs : List (List ℕ)) → is_among x seen ≡ b → IsApartFrom seen (distinct_after seen xs) → IsApartFrom (seen ++ x ∷ []) (distinct_after (seen ++ x ∷ []) xs)
    → IsApartFrom seen (cond b (distinct_after seen xs) (x ∷ distinct_after (seen ++ x ∷ []) xs))
apart_case true seen x xs is here more = here
apart_case false seen x xs is here more = record {
  distinct = (not_both (is_among x (distinct_after (seen ++ x ∷ []) xs)) (λ e. cc (more.unseen x e, among_last x seen)), more.distinct);
  unseen = λ p h. or_cases (bytes_eq x p) (is_among p (distinct_after (seen ++ x ∷ []) xs)) h
      (λ same. ap (λ (q : List ℕ). is_among q seen) (sym (same_bytes x p same)) ∙ is)
      (λ rest. not_both (is_among p seen) (λ e. cc (more.unseen p rest, among_more p x seen e)));
}

apart : (seen qs : List (List ℕ)) → IsApartFrom seen (distinct_after seen qs)
apart seen [] = record { distinct = tt; unseen = λ p h. cc }
apart seen (x ∷ xs) = apart_case (is_among x seen) seen x xs refl (apart seen xs) (apart (seen ++ x ∷ []) xs)

-- ---- distinct files

-- this is the file of none of these exchanges
abbrev pub Avoids : List ℕ → List Exchange → Type 0
Avoids q [] = Unit {0}
Avoids q (e ∷ es) = (q ≢ index_file e.path) × Avoids q es

abbrev pub Apart : List Exchange → Type 0
Apart [] = Unit {0}
Apart (e ∷ es) = Avoids (index_file e.path) es × Apart es

abbrev Placed : List Exchange → Type 0
Placed [] = Unit {0}
Placed (e ∷ es) = IsIndexPath e.path × Placed es

pub turned_placed : (told : Type 0) (old new : DiskAt) (es : List Exchange) (hs : List AnsweredTurn) → TurnsInOrder told old es hs new → Placed es
turned_placed told old new [] [] x = tt
turned_placed told old new [] (h ∷ hs) x = absurd x
turned_placed told old new (e ∷ es) [] x = absurd x
turned_placed told old new (e ∷ es) (h ∷ hs) x = (x.1.place, turned_placed told x.0 new es hs x.2)

avoids_others : (p : List ℕ) (ps : List (List ℕ)) (es : List Exchange) → IsIndexPath p → Placed es → map (λ (e : Exchange). e.path) es ≡ ps → is_among p ps ≡ false → Avoids (index_file p) es
avoids_others p ps [] hp placed is other = tt
avoids_others p [] (e ∷ es) hp placed is other = cc
avoids_others p (x ∷ ps) (e ∷ es) hp placed is other =
    let head : e.path ≡ x = cons_head e.path x (map (λ (e : Exchange). e.path) es) ps is in
    let tail = cons_tail e.path x (map (λ (e : Exchange). e.path) es) ps is in (
      λ same. cc (other, or_left (bytes_eq x p) (is_among p ps) (ap (λ (q : List ℕ). bytes_eq q p) (sym (one_file [] p e.path hp placed.0 same ∙ head)) ∙ bytes_same p)),
      avoids_others p ps es hp placed.1 tail (not_both (is_among p ps) (λ e. cc (other, or_right (bytes_eq x p) (is_among p ps) e))),
    )

all_apart : (ps : List (List ℕ)) (es : List Exchange) → Placed es → map (λ (e : Exchange). e.path) es ≡ ps → Distinct ps → Apart es
all_apart ps [] placed is distinct = tt
all_apart [] (e ∷ es) placed is distinct = cc
all_apart (x ∷ ps) (e ∷ es) placed is distinct =
    let head : e.path ≡ x = cons_head e.path x (map (λ (e : Exchange). e.path) es) ps is in
    let tail = cons_tail e.path x (map (λ (e : Exchange). e.path) es) ps is in
    (avoids_others e.path ps es placed.0 placed.1 tail (ap (λ (q : List ℕ). is_among q ps) head ∙ distinct.0), all_apart ps es placed.1 tail distinct.1)

pub asked_distinct : (qs : List (List ℕ)) → Distinct (distinct_after [] qs)
asked_distinct qs = (apart [] qs).distinct

pub asked_apart : (told : Type 0) (old new : DiskAt) (es : List Exchange) (hs : List AnsweredTurn) (ps : List (List ℕ)) → TurnsInOrder told old es hs new → map (λ (e : Exchange). e.path) es ≡ ps → Distinct ps → Apart es
asked_apart told old new es hs ps x is distinct = all_apart ps es (turned_placed told old new es hs x) is distinct

-- no file of another path changes
pub avoids_asked : (q : List ℕ) (ps : List (List ℕ)) (es : List Exchange) → map (λ (e : Exchange). e.path) es ≡ ps → ((p : List ℕ) → IsTrue (is_among p ps) → q ≢ index_file p) → Avoids q es
avoids_asked q ps [] is other = tt
avoids_asked q [] (e ∷ es) is other = cc
avoids_asked q (x ∷ ps) (e ∷ es) is other =
    let head : e.path ≡ x = cons_head e.path x (map (λ (e : Exchange). e.path) es) ps is in
    let tail = cons_tail e.path x (map (λ (e : Exchange). e.path) es) ps is in (
      other e.path (or_left (bytes_eq x e.path) (is_among e.path ps) (ap (λ (q : List ℕ). bytes_eq q e.path) (sym head) ∙ bytes_same e.path)),
      avoids_asked q ps es tail (λ p among. other p (or_right (bytes_eq x p) (is_among p ps) among)),
    )

-- ---- what the turns leave

pub turned_others : (told : Type 0) (t : told) (old new : DiskAt) (q : List ℕ) (es : List Exchange) (hs : List AnsweredTurn) → TurnsInOrder told old es hs new → Avoids q es → new.files q ≡ old.files q
turned_others told t old new q [] [] x other = x.0 t q
turned_others told t old new q [] (h ∷ hs) x other = absurd x
turned_others told t old new q (e ∷ es) [] x other = absurd x
turned_others told t old new q (e ∷ es) (h ∷ hs) x other = turned_others told t x.0 new q es hs x.2 other.1 ∙ x.1.exchanged.others t q other.0

-- a turn over the files at the entry and at the exit
pub record IsWhole (old new : Disk) (e : Exchange) (h : AnsweredTurn) : Type 0 where
  pub place : IsIndexPath e.path
  pub path : e.path ≡ h.turn.path
  pub named : NamesKept crates_io_index (reads (old (index_file e.path))) h.turn.disk_before h.turn.disk_asked e.named
  pub answer : IsAnswer (reads (old (index_file e.path))) e.answer h.answer
  pub leaves : LeavesFile e.answer h.turn.disk_asked h.turn.disk_after (old (index_file e.path)) (new (index_file e.path))

abbrev pub Paired : (Exchange → AnsweredTurn → Type 0) → List Exchange → List AnsweredTurn → Type 0
Paired R [] [] = Unit {0}
Paired R (e ∷ es) (h ∷ hs) = R e h × Paired R es hs
Paired R _ _ = ⊥

paired_from : (old mid new : Disk) (f : List ℕ) (es : List Exchange) (hs : List AnsweredTurn) → Avoids f es → ((q : List ℕ) → q ≢ f → mid q ≡ old q) → Paired (IsWhole mid new) es hs → Paired (IsWhole old new) es hs
paired_from old mid new f [] [] other same x = tt
paired_from old mid new f [] (h ∷ hs) other same x = absurd x
paired_from old mid new f (e ∷ es) [] other same x = absurd x
paired_from old mid new f (e ∷ es) (h ∷ hs) other same x =
    let here : mid (index_file e.path) ≡ old (index_file e.path) = same (index_file e.path) (λ is. other.0 (sym is)) in (
      record {
        place = x.0.place;
        path = x.0.path;
        named = subst (λ (s : List Step). NamesKept crates_io_index (reads s) h.turn.disk_before h.turn.disk_asked e.named) here x.0.named;
        answer = subst (λ (s : List Step). IsAnswer (reads s) e.answer h.answer) here x.0.answer;
        leaves = subst (λ (s : List Step). LeavesFile e.answer h.turn.disk_asked h.turn.disk_after s (new (index_file e.path))) here x.0.leaves;
      },
      paired_from old mid new f es hs other.1 same x.1,
    )

pub turned_whole : (told : Type 0) (t : told) (old new : DiskAt) (es : List Exchange) (hs : List AnsweredTurn) → TurnsInOrder told old es hs new → Apart es → Paired (IsWhole old.files new.files) es hs
turned_whole told t old new [] [] x distinct = tt
turned_whole told t old new [] (h ∷ hs) x distinct = absurd x
turned_whole told t old new (e ∷ es) [] x distinct = absurd x
turned_whole told t old new (e ∷ es) (h ∷ hs) x distinct =
    let f = index_file e.path in
    let turn = x.1 in
    let after : new.files f ≡ x.0.files f = turned_others told t x.0 new f es hs x.2 distinct.0 in (
      record {
        place = turn.place;
        path = turn.path;
        named = turn.named t;
        answer = turn.exchanged.answer (λ n. t);
        leaves = subst (λ (s : List Step). LeavesFile e.answer h.turn.disk_asked h.turn.disk_after (old.files f) s) (sym after) (turn.exchanged.leaves t);
      },
      paired_from old.files x.0.files new.files f es hs distinct.0 (turn.exchanged.others t) (turned_whole told t x.0 new es hs x.2 distinct.1),
    )

-- the answer of a turn, over the file at the entry
pub record IsAnsweredOf (told : Type 0) (old : Disk) (e : Exchange) (h : AnsweredTurn) : Type 0 where
  pub path : e.path ≡ h.turn.path
  pub answer : (IsNotModified e.answer → told) → IsAnswer (reads (old (index_file e.path))) e.answer h.answer

answered_from : (told : Type 0) (old mid : Disk) (f : List ℕ) (es : List Exchange) (hs : List AnsweredTurn) → Avoids f es → (told → (q : List ℕ) → q ≢ f → mid q ≡ old q) → Paired (IsAnsweredOf told mid) es hs → Paired (IsAnsweredOf told old) es hs
answered_from told old mid f [] [] other same x = tt
answered_from told old mid f [] (h ∷ hs) other same x = absurd x
answered_from told old mid f (e ∷ es) [] other same x = absurd x
answered_from told old mid f (e ∷ es) (h ∷ hs) other same x = (
  record {
    path = x.0.path;
    answer = λ t. answer_moved (reads (mid (index_file e.path))) (reads (old (index_file e.path))) e.answer h.answer (λ n. ap reads (same (t n) (index_file e.path) (λ is. other.0 (sym is)))) (x.0.answer t);
  },
  answered_from told old mid f es hs other.1 same x.1,
)

pub turned_answered : (told : Type 0) (old new : DiskAt) (es : List Exchange) (hs : List AnsweredTurn) → TurnsInOrder told old es hs new → Apart es → Paired (IsAnsweredOf told old.files) es hs
turned_answered told old new [] [] x distinct = tt
turned_answered told old new [] (h ∷ hs) x distinct = absurd x
turned_answered told old new (e ∷ es) [] x distinct = absurd x
turned_answered told old new (e ∷ es) (h ∷ hs) x distinct =
    (record { path = x.1.path; answer = x.1.exchanged.answer }, answered_from told old.files x.0.files (index_file e.path) es hs distinct.0 x.1.exchanged.others (turned_answered told x.0 new es hs x.2 distinct.1))

pub all_turned : (old new : Disk) (es : List Exchange) (hs : List AnsweredTurn) → Paired (IsWhole old new) es hs → TurnsNameAndLeave old new es (map (λ (h : AnsweredTurn). h.turn) hs)
all_turned old new [] [] x = tt
all_turned old new [] (h ∷ hs) x = absurd x
all_turned old new (e ∷ es) [] x = absurd x
all_turned old new (e ∷ es) (h ∷ hs) x = (record { place = x.0.place; path = x.0.path; named = x.0.named; leaves = x.0.leaves }, all_turned old new es hs x.1)
