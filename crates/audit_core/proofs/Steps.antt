-- One more turn.
use Rattle.std.proofs.Common.{◌≡◌, ℕ, zero, suc, ◌+◌, ◌<◌, List, [], ◌∷◌, ◌++◌, length, take, get_or, map, Option, Some, Bool, true, false, refl, sym, ap, ◌∙◌, subst, append_assoc, arith, ◌⊎◌, inl, inr}
use Rattle.std.specs.List.{list_all}
use Rattle.std.proofs.lemmas.List.{append-nil, map-append}
use Rattle.std.proofs.lemmas.List.Folds.{list_all_at}
use Rattle.std.proofs.Math.Seq.{take-suc}
use Rattle.tame_names.specs.Names.{is_name, path}
use Rattle.tame_cache.specs.Disk.{Step, reads}
use Rattle.tame_cache.specs.FailedCalls.{FailedDiskCalls, FailedReading}
use Rattle.tame_cache.specs.Kept.{Disk}
use Rattle.tame_cache.proofs.KeptLemmas.{keeps_same, keeps_then}
use Rattle.tame_sparse.specs.Exchanges.{crates_io_index}
use Rattle.tame_sparse.specs.Named.{NamesKept, NamesUnlessFailed}
use Rattle.tame_sparse.specs.declared.network.Exchange.{Exchange}
use Rattle.audit_core.proofs.ResultLemmas.{answer_moved}
use Rattle.audit_core.proofs.Lists.{cons_head, cons_tail, somes}
use Rattle.audit_core.specs.FailedReads.{TurnsFail}
use Rattle.audit_core.specs.Turns.{AddsTurns, AddsNamed, AddsPart, AreAddressed, AreCaused, Chains, DiskAt, IsExchanged, LeavesFile, TurnsInOrder, disk_at, index_file}
use Rattle.audit_core.specs.declared.answers.PathAnswer.{PathAnswer}
use Rattle.audit_core.specs.declared.asking.AnsweredTurn.{AnsweredTurn}
use Rattle.audit_core.specs.declared.asking.Turn.{Turn}

-- ---- from a disk that is the same

pub exchanged_from : (told : Type 0) (asked after : ℕ) (old mid : Disk) (failed : FailedDiskCalls) (new : DiskAt) (e : Exchange) (a : PathAnswer) → (told → (q : List ℕ) → mid q ≡ old q) → IsExchanged told asked after (disk_at mid failed) new e a → IsExchanged told asked after (disk_at old failed) new e a
exchanged_from told asked after old mid failed new e a same x = record {
  answer = λ t. answer_moved (reads (mid (index_file e.path))) (reads (old (index_file e.path))) e.answer a (λ n. ap reads (same (t n) (index_file e.path))) (x.answer t);
  leaves = λ t. subst (λ (s : List Step). LeavesFile e.answer asked after s (new.files (index_file e.path))) (same t (index_file e.path)) (x.leaves t);
  others = λ t q other. x.others t q other ∙ same t q;
  keeps = λ t m honest kept. keeps_then m crates_io_index [] old mid new.files (keeps_same m crates_io_index [] old mid (same t) kept) (λ k. x.keeps t m honest k);
  stored = x.stored;
  blames = x.blames;
  unfailed = x.unfailed;
}

turned_from : (told : Type 0) (old mid new : DiskAt) (es : List Exchange) (hs : List AnsweredTurn) → (told → (q : List ℕ) → mid.files q ≡ old.files q) → mid.failed ≡ old.failed → TurnsInOrder told mid es hs new → TurnsInOrder told old es hs new
turned_from told old mid new [] [] same calls x = (λ t q. x.0 t q ∙ same t q, x.1 ∙ calls)
turned_from told old mid new [] (h ∷ hs) same calls x = absurd x
turned_from told old mid new (e ∷ es) [] same calls x = absurd x
turned_from told old mid new (e ∷ es) (h ∷ hs) same calls x =
    let f = index_file e.path in (
      x.0,
      record {
        place = x.1.place;
        url = x.1.url;
        path = x.1.path;
        named = λ t. subst (λ (s : List Step). NamesKept crates_io_index (reads s) h.turn.disk_before h.turn.disk_asked e.named) (same t f) (x.1.named t);
        asked = x.1.asked;
        named_unless_failed = λ t.
            subst (λ (s : List Step). NamesUnlessFailed crates_io_index f (reads s) old.failed x.1.asked e.named) (same t f)
            (subst (λ (b : FailedDiskCalls). NamesUnlessFailed crates_io_index f (reads (mid.files f)) b x.1.asked e.named) calls (x.1.named_unless_failed t));
        exchanged = exchanged_from told h.turn.disk_asked h.turn.disk_after old.files mid.files x.1.asked x.0 e h.answer same x.1.exchanged;
      },
      x.2,
    )

-- ---- one after another

pub turned_more : (told : Type 0) (old mid new : DiskAt) (es fs : List Exchange) (hs ks : List AnsweredTurn) → TurnsInOrder told old es hs mid → TurnsInOrder told mid fs ks new → TurnsInOrder told old (es ++ fs) (hs ++ ks) new
turned_more told old mid new [] fs [] ks x y = turned_from told old mid new fs ks x.0 x.1 y
turned_more told old mid new [] fs (h ∷ hs) ks x y = absurd x
turned_more told old mid new (e ∷ es) fs [] ks x y = absurd x
turned_more told old mid new (e ∷ es) fs (h ∷ hs) ks x y = (x.0, x.1, turned_more told x.0 mid new es fs hs ks x.2 y)

pub AddsTurns-more : (told : Type 0) (a b c : List Exchange) (old mid new : DiskAt) (hs ks : List AnsweredTurn) → AddsTurns told a b old hs mid → AddsTurns told b c mid ks new → AddsTurns told a c old (hs ++ ks) new
AddsTurns-more told a b c old mid new hs ks h k =
    (h.0 ++ k.0, k.1 ∙ ap (λ (xs : List Exchange). xs ++ k.0) h.1 ∙ append_assoc a h.0 k.0, turned_more told old mid new h.0 k.0 hs ks h.2 k.2)

pub Chains-more : (wire disk : ℕ) (ts us : List Turn) (mid_wire mid_disk last_wire last_disk : ℕ) → Chains wire disk ts mid_wire mid_disk → Chains mid_wire mid_disk us last_wire last_disk → Chains wire disk (ts ++ us) last_wire last_disk
Chains-more wire disk [] us mw md lw ld h k =
    let P : ℕ → ℕ → Type 0 = λ w d. Chains w d us lw ld in
    subst (λ (w : ℕ). P w disk) h.0 (subst (λ (d : ℕ). P mw d) h.1 k)
Chains-more wire disk (t ∷ ts) us mw md lw ld h k = (h.0, h.1, h.2, h.3, h.4, Chains-more t.wire_after t.disk_after ts us mw md lw ld h.5 k)

pub AreCaused-more : (hs ks : List AnsweredTurn) → AreCaused hs → AreCaused ks → AreCaused (hs ++ ks)
AreCaused-more [] ks h k = k
AreCaused-more (x ∷ hs) ks h k = (h.0, AreCaused-more hs ks h.1 k)

-- ---- paths and names

pub turned_paths : (told : Type 0) (old new : DiskAt) (es : List Exchange) (hs : List AnsweredTurn) → TurnsInOrder told old es hs new → map (λ (e : Exchange). Some e.path) es ≡ map (λ (h : AnsweredTurn). Some h.turn.path) hs
turned_paths told old new [] [] x = refl
turned_paths told old new [] (h ∷ hs) x = absurd x
turned_paths told old new (e ∷ es) [] x = absurd x
turned_paths told old new (e ∷ es) (h ∷ hs) x =
    ap (λ (q : List ℕ). Some q ∷ map (λ (e : Exchange). Some e.path) es) x.1.path ∙ ap (λ (qs : List (Option (List ℕ))). Some h.turn.path ∷ qs) (turned_paths told x.0 new es hs x.2)

pub turned_addressed : (told : Type 0) (old new : DiskAt) (es : List Exchange) (hs : List AnsweredTurn) → TurnsInOrder told old es hs new → AreAddressed es
turned_addressed told old new [] [] x = tt
turned_addressed told old new [] (h ∷ hs) x = absurd x
turned_addressed told old new (e ∷ es) [] x = absurd x
turned_addressed told old new (e ∷ es) (h ∷ hs) x = (x.1.url, turned_addressed told x.0 new es hs x.2)

both_addressed : (es fs : List Exchange) → AreAddressed es → AreAddressed fs → AreAddressed (es ++ fs)
both_addressed [] fs h k = k
both_addressed (e ∷ es) fs h k = (h.0, both_addressed es fs h.1 k)

pub map_take : {A B : Type 0} (f : A → B) (n : ℕ) (xs : List A) → map f (take n xs) ≡ take n (map f xs)
map_take f zero xs = refl
map_take f (suc n) [] = refl
map_take f (suc n) (x ∷ xs) = ap (λ ys. f x ∷ ys) (map_take f n xs)

next_names : (names : List (List ℕ)) (i : ℕ) (name : List ℕ) → i < length names → name ≡ get_or names i name → map path (take (suc i) names) ≡ map path (take i names) ++ path name ∷ []
next_names names i name low is =
    ap (map path) (take-suc names i name low ∙ ap (λ (n : List ℕ). take i names ++ n ∷ []) (sym is)) ∙ map-append path (take i names) (name ∷ [])

pub paths_more : (names : List (List ℕ)) (i : ℕ) (name : List ℕ) (hs : List AnsweredTurn) (h : AnsweredTurn) → i < length names → name ≡ get_or names i name → map (λ (h : AnsweredTurn). Some h.turn.path) hs ≡ map path (take i names) → path name ≡ Some h.turn.path
    → map (λ (h : AnsweredTurn). Some h.turn.path) (hs ++ h ∷ []) ≡ map path (take (i + 1) names)
paths_more names i name hs h low is same at =
    let next : suc i ≡ i + 1 = omega arith in
    map-append (λ (h : AnsweredTurn). Some h.turn.path) hs (h ∷ []) ∙ ap (λ (qs : List (Option (List ℕ))). qs ++ Some h.turn.path ∷ []) same
    ∙ ap (λ (q : Option (List ℕ)). map path (take i names) ++ q ∷ []) (sym at) ∙ sym (next_names names i name low is) ∙ ap (λ n. map path (take n names)) next

take_none : {A : Type 0} (n : ℕ) → take n (let xs : List A = [] in xs) ≡ []
take_none zero = refl
take_none (suc n) = refl

part_case : (names : List (List ℕ)) (i : ℕ) (name : List ℕ) (es fs : List Exchange) (k : ℕ) → i < length names → name ≡ get_or names i name → map (λ (e : Exchange). Some e.path) es ≡ map path (take i names)
    → map (λ (e : Exchange). Some e.path) fs ≡ take k (path name ∷ []) → (n : ℕ) × (map (λ (e : Exchange). Some e.path) (es ++ fs) ≡ take n (map path names))
part_case names i name es fs zero low is same more =
    (i, map-append (λ (e : Exchange). Some e.path) es fs ∙ ap (λ (qs : List (Option (List ℕ))). map (λ (e : Exchange). Some e.path) es ++ qs) more ∙ append-nil _ ∙ same ∙ map_take path i names)
part_case names i name es fs (suc k) low is same more = (
  suc i,
  map-append (λ (e : Exchange). Some e.path) es fs ∙ ap (λ (qs : List (Option (List ℕ))). map (λ (e : Exchange). Some e.path) es ++ qs) (more ∙ ap (λ (qs : List (Option (List ℕ))). path name ∷ qs) (take_none k))
      ∙ ap (λ (qs : List (Option (List ℕ))). qs ++ path name ∷ []) same ∙ sym (next_names names i name low is) ∙ map_take path (suc i) names,
)

pub AddsNamed-more : (names : List (List ℕ)) (i : ℕ) (name : List ℕ) (a b c : List Exchange) (es : List Exchange) → i < length names → name ≡ get_or names i name → b ≡ a ++ es → map (λ (e : Exchange). Some e.path) es ≡ map path (take i names)
    → AreAddressed es → AddsNamed (name ∷ []) b c → AddsNamed names a c
AddsNamed-more names i name a b c es low is first same addressed k =
    let n = part_case names i name es k.0 k.1 low is same k.3 in
    (es ++ k.0, n.0, k.2 ∙ ap (λ (xs : List Exchange). xs ++ k.0) first ∙ append_assoc a es k.0, n.1, both_addressed es k.0 addressed k.4)

-- what was asked for a path is a part of what is asked by its name
pub part_named : (name q : List ℕ) (before now : List Exchange) → path name ≡ Some q → AddsPart (q ∷ []) before now → AddsNamed (name ∷ []) before now
part_named name q before now at k = (k.0, k.1, k.2, go k.0 k.1 k.3, k.4)
  where
    some : (es : List Exchange) (qs : List (List ℕ)) → map (λ (e : Exchange). e.path) es ≡ qs → map (λ (e : Exchange). Some e.path) es ≡ map (λ q. Some q) qs
    some [] [] h = refl
    some [] (q ∷ qs) h = cc
    some (e ∷ es) [] h = cc
    some (e ∷ es) (p ∷ qs) h =
        let head : e.path ≡ p = cons_head e.path p (map (λ (e : Exchange). e.path) es) qs h in
        let tail : map (λ (e : Exchange). e.path) es ≡ qs = cons_tail e.path p (map (λ (e : Exchange). e.path) es) qs h in
        ap (λ (x : List ℕ). Some x ∷ map (λ (e : Exchange). Some e.path) es) head ∙ ap (λ (os : List (Option (List ℕ))). Some p ∷ os) (some es qs tail)

    go : (es : List Exchange) (n : ℕ) → map (λ (e : Exchange). e.path) es ≡ take n (q ∷ []) → map (λ (e : Exchange). Some e.path) es ≡ take n (path name ∷ [])
    go es zero h = some es [] h
    go es (suc n) h = some es (q ∷ take n []) h ∙ ap (λ (o : Option (List ℕ)). o ∷ map (λ q. Some q) (take n [])) (sym at) ∙ ap (λ (qs : List (Option (List ℕ))). path name ∷ qs) (map_take (λ q. Some q) n [])

-- a turn that was taken
pub AddsTurns-named : (told : Type 0) (name : List ℕ) (h : AnsweredTurn) (before now : List Exchange) (old new : DiskAt) → path name ≡ Some h.turn.path → AddsTurns told before now old (h ∷ []) new → AddsNamed (name ∷ []) before now
AddsTurns-named told name h before now old new at x = (x.0, 1, x.1, turned_paths told old new x.0 (h ∷ []) x.2 ∙ ap (λ (o : Option (List ℕ)). o ∷ []) (sym at), turned_addressed told old new x.0 (h ∷ []) x.2)

-- ---- names

some_test : (b : Bool) → (b ≡ false → ⊥) → b ≡ true
some_test true h = refl
some_test false h = absurd (h refl)

pub name_at : (names : List (List ℕ)) (i : ℕ) (name : List ℕ) → i < length names → name ≡ get_or names i name → list_all is_name names ≡ true → is_name name ≡ true
name_at names i name low is whole =
    ap is_name is ∙ some_test (is_name (get_or names i name)) (λ e. cc (whole, list_all_at is_name names i name low e))

take_all : (xs : List (List ℕ)) → take (length xs) xs ≡ xs
take_all [] = refl
take_all (x ∷ xs) = ap (λ ys. x ∷ ys) (take_all xs)

-- all of the paths are a part of them
pub AddsTurns-part : (told : Type 0) (paths : List (List ℕ)) (hs : List AnsweredTurn) (before now : List Exchange) (old new : DiskAt) → map (λ (h : AnsweredTurn). Some h.turn.path) hs ≡ map (λ q. Some q) paths → AddsTurns told before now old hs new → AddsPart paths before now
AddsTurns-part told paths hs before now old new same x =
    (x.0, length paths, x.1, somes (λ (e : Exchange). e.path) x.0 paths (turned_paths told old new x.0 hs x.2 ∙ same) ∙ sym (take_all paths), turned_addressed told old new x.0 hs x.2)

-- ---- which calls on the disk failed

pub named_fails : {P Q : Type 0} (q : List ℕ) (before now : FailedDiskCalls) → (P × (now ≡ before)) ⊎ (Q × FailedReading q before now) → (now ≡ before) ⊎ FailedReading q before now
named_fails q before now (inl same) = inl same.1
named_fails q before now (inr failed) = inr failed.1

pub fails_more : (a : FailedDiskCalls) (hs ks : List AnsweredTurn) (b c : FailedDiskCalls) → TurnsFail a hs b → TurnsFail b ks c → TurnsFail a (hs ++ ks) c
fails_more a [] ks b c h k = subst (λ (x : FailedDiskCalls). TurnsFail x ks c) h k
fails_more a (x ∷ hs) ks b c h k = (h.0, h.1, fails_more h.0 hs ks b c h.2 k)
