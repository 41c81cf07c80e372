-- What two audits leave in their caches, for what reads them afterwards.
use Rattle.std.proofs.Common.{◌≡◌, ◌≢◌, ◌⊎◌, inl, inr, ◌≤◌, ◌<◌, ℕ, List, [], ◌∷◌, ◌++◌, Bool, true, false, cond, IsTrue, Option, Some, None, refl, sym, ap, ◌∙◌, subst, arith}
use Rattle.std.specs.Prelude.{IsSomeAnd, bytes_eq, map, slice_get, ◌||◌, ◌-◌, ◌^◌}
use Rattle.std.specs.List.{AllByRecursion}
use Rattle.std.proofs.lemmas.Slice.Eq.{bytes_eq-Decides}
use Rattle.tame_names.specs.Counts.{CountStayed}
use Rattle.tame_names.specs.Names.{path}
use Rattle.tame_entry.specs.Entry.{has_no_zero}
use Rattle.tame_entry.specs.Lines.{plain}
use Rattle.tame_entry.specs.Revision.{entry_text}
use Rattle.tame_cache.specs.Disk.{File, Step, reads}
use Rattle.tame_cache.specs.Kept.{Disk}
use Rattle.tame_sparse.specs.Exchanges.{crates_io_index}
use Rattle.tame_sparse.specs.ResponseResults.{IsToStore, stored_under}
use Rattle.tame_sparse.specs.declared.network.Exchange.{Exchange}
use Rattle.tame_sparse.specs.declared.network.WireAnswer.{WireAnswer}
use Rattle.audit_lock.specs.declared.resolving.Package.{Package}
use Rattle.audit_core.specs.Alike.{AreAllAlike}
use Rattle.audit_core.specs.Audits.{KeepsOthers, TurnsNameAndLeave}
use Rattle.audit_core.specs.Paths.{is_among, is_default}
use Rattle.audit_core.specs.Turns.{Chains, LeavesFile, index_file}
use Rattle.audit_core.specs.Verdicts.{exchange_of, turn_of}
use Rattle.audit_core.specs.declared.asking.Turn.{Turn}
use Rattle.audit_core.proofs.ResultLemmas.{equal_or}
use Rattle.upgrade_plan.specs.HeldPlans.{ConfirmsOrSends}
use Rattle.upgrade_plan.specs.Recorded.{file_records}
use Rattle.audit_program.specs.AgreeingRuns.{AreAllSame}

-- the caches have the same records of each package of the default registry
abbrev pub StockSame : Disk → Disk → List Package → Type 0
StockSame files files_too packages =
    (place : ℕ) (p : Package) → slice_get packages place ≡ Some p → is_default p ≡ true → (q : List ℕ) → path p.name ≡ Some q
    → file_records crates_io_index (reads (files (index_file q))) ≡ file_records crates_io_index (reads (files_too (index_file q)))

-- so it is if they read the same
pub read_stock : (files files_too : Disk) (packages : List Package) → ((q : List ℕ) → reads (files q) ≡ reads (files_too q)) → StockSame files files_too packages
read_stock files files_too packages same place p at default q named = ap (λ (f : File). file_records crates_io_index f) (same (index_file q))

-- ---- quiet turns

abbrev pub AreStayed : List Turn → Type 0
AreStayed [] = Unit {0}
AreStayed (t ∷ ts) = (CountStayed t.disk_before t.disk_after × CountStayed t.disk_asked t.disk_after) × AreStayed ts

chain_last : (wire disk : ℕ) (ts : List Turn) (last_wire last_disk : ℕ) → Chains wire disk ts last_wire last_disk → disk ≤ last_disk
chain_last wire disk [] last_wire last_disk h = let same = h.1 in omega (arith, same)
chain_last wire disk (t ∷ ts) last_wire last_disk h =
    let more = chain_last t.wire_after t.disk_after ts last_wire last_disk h.5 in
    let a = h.2 in
    let b = h.3 in
    let c = h.4 in
    omega (arith, more, a, b, c)

pub chain_stayed : (wire disk : ℕ) (ts : List Turn) (last_wire last_disk : ℕ) → Chains wire disk ts last_wire last_disk → CountStayed disk last_disk → AreStayed ts
chain_stayed wire disk [] last_wire last_disk h stayed = tt
chain_stayed wire disk (t ∷ ts) last_wire last_disk h stayed =
    let more : t.disk_after ≤ last_disk = chain_last t.wire_after t.disk_after ts last_wire last_disk h.5 in
    let begins : t.disk_before ≡ disk = h.2 in
    let asked : t.disk_before ≤ t.disk_asked = h.3 in
    let after : t.disk_asked ≤ t.disk_after = h.4 in
    let same = stayed.0 in
    let low = stayed.1 in
    let rest : last_disk ≡ t.disk_after = omega (arith, more, same, begins, asked, after) in
    let below : t.disk_after < 2 ^ 64 - 1 = omega (arith, rest, same, low) in
    let one : t.disk_after ≡ t.disk_asked = omega (arith, more, same, begins, asked, after) in
    let all : t.disk_after ≡ t.disk_before = omega (arith, more, same, begins, asked, after) in
    let first : t.disk_before < 2 ^ 64 - 1 = omega (arith, all, below) in
    let under : t.disk_asked < 2 ^ 64 - 1 = omega (arith, one, below) in
    (((all, first), (one, under)), chain_stayed t.wire_after t.disk_after ts last_wire last_disk h.5 (rest, below))

-- ---- by the same answers, over caches that read the same

-- an answer is stored, or isn't
true_or : (b : Bool) → IsTrue b ⊎ (IsTrue b → ⊥)
true_or true = inl refl
true_or false = inr (λ is. cc (is))

stored_or : (a : WireAnswer) → IsToStore crates_io_index a ⊎ (IsToStore crates_io_index a → ⊥)
stored_or a = go (equal_or a.status 200) (true_or (plain a.body)) (true_or (has_no_zero (entry_text (stored_under a.revision))))
  where
    go : (a.status ≡ 200) ⊎ (a.status ≢ 200) → IsTrue (plain a.body) ⊎ (IsTrue (plain a.body) → ⊥) → IsTrue (has_no_zero (entry_text (stored_under a.revision))) ⊎ (IsTrue (has_no_zero (entry_text (stored_under a.revision))) → ⊥)
        → IsToStore crates_io_index a ⊎ (IsToStore crates_io_index a → ⊥)
    go (inl w) (inl x) (inl y) = inl (record { sent = w; plain = x; storable = y; named = refl })
    go (inr w) x y = inr (λ is. w is.sent)
    go w (inr x) y = inr (λ is. x is.plain)
    go w x (inr y) = inr (λ is. y is.storable)

one_left : (came : Option WireAnswer) (asked after asked_too after_too : ℕ) (old new old_too new_too : List Step) → LeavesFile came asked after old new → LeavesFile came asked_too after_too old_too new_too
    → CountStayed asked after → CountStayed asked_too after_too → reads old ≡ reads old_too → reads new ≡ reads new_too
one_left None asked after asked_too after_too old new old_too new_too h k stayed stayed_too same =
    ap (λ (x : List Step). reads x) (h.unstored (λ none. none)) ∙ same ∙ sym (ap (λ (x : List Step). reads x) (k.unstored (λ none. none)))
one_left (Some a) asked after asked_too after_too old new old_too new_too h k stayed stayed_too same = go (stored_or a)
  where
    go : IsToStore crates_io_index a ⊎ (IsToStore crates_io_index a → ⊥) → reads new ≡ reads new_too
    go (inl store) = (h.stored store stayed).whole ∙ sym (k.stored store stayed_too).whole
    go (inr not_so) = ap (λ (x : List Step). reads x) (h.unstored not_so) ∙ same ∙ sym (ap (λ (x : List Step). reads x) (k.unstored not_so))

abbrev IsOther : List ℕ → List Exchange → Type 0
IsOther f es = (p : List ℕ) → IsTrue (is_among p (map (λ (e : Exchange). e.path) es)) → f ≢ index_file p

other_more : (f : List ℕ) (e : Exchange) (es : List Exchange) → (f ≢ index_file e.path) → IsOther f es → IsOther f (e ∷ es)
other_more f e es first rest p among is = go (bytes_eq e.path p) refl among
  where
    go : (b : Bool) → bytes_eq e.path p ≡ b → IsTrue (bytes_eq e.path p || is_among p (map (λ (x : Exchange). x.path) es)) → ⊥
    go true at found = first (is ∙ ap (λ (x : List ℕ). index_file x) (sym ((bytes_eq-Decides e.path p).0 at)))
    go false at found = rest p (subst (λ (b : Bool). IsTrue (b || is_among p (map (λ (x : Exchange). x.path) es))) at found) is

-- the file is that of an exchange's path, or of none
left_case : (f : List ℕ) (old new old_too new_too : Disk) (es fs : List Exchange) (ts us : List Turn) → TurnsNameAndLeave old new es ts → TurnsNameAndLeave old_too new_too fs us → AreAllSame es fs → AreStayed ts → AreStayed us
    → reads (old f) ≡ reads (old_too f) → (reads (new f) ≡ reads (new_too f)) ⊎ (IsOther f es × IsOther f fs)
left_case f old new old_too new_too [] [] ts us h k alike quiet quiet_too same = inr ((λ p among is. cc (among)), (λ p among is. cc (among)))
left_case f old new old_too new_too [] (x ∷ fs) ts us h k alike quiet quiet_too same = absurd alike
left_case f old new old_too new_too (e ∷ es) [] ts us h k alike quiet quiet_too same = absurd alike
left_case f old new old_too new_too (e ∷ es) (x ∷ fs) [] us h k alike quiet quiet_too same = absurd h
left_case f old new old_too new_too (e ∷ es) (x ∷ fs) (t ∷ ts) [] h k alike quiet quiet_too same = absurd k
left_case f old new old_too new_too (e ∷ es) (x ∷ fs) (t ∷ ts) (u ∷ us) h k alike quiet quiet_too same =
    go (bytes_eq (index_file e.path) f) refl (left_case f old new old_too new_too es fs ts us h.1 k.1 alike.1 quiet.1 quiet_too.1 same)
  where
    paths : index_file x.path ≡ index_file e.path
    paths = ap (λ (p : List ℕ). index_file p) (sym alike.0.path)

    go : (b : Bool) → bytes_eq (index_file e.path) f ≡ b → (reads (new f) ≡ reads (new_too f)) ⊎ (IsOther f es × IsOther f fs) → (reads (new f) ≡ reads (new_too f)) ⊎ (IsOther f (e ∷ es) × IsOther f (x ∷ fs))
    go true at more =
        let is : index_file e.path ≡ f = (bytes_eq-Decides (index_file e.path) f).0 at in
        let one : LeavesFile e.answer t.disk_asked t.disk_after (old f) (new f) = subst (λ (g : List ℕ). LeavesFile e.answer t.disk_asked t.disk_after (old g) (new g)) is h.0.leaves in
        let two : LeavesFile x.answer u.disk_asked u.disk_after (old_too f) (new_too f) = subst (λ (g : List ℕ). LeavesFile x.answer u.disk_asked u.disk_after (old_too g) (new_too g)) (paths ∙ is) k.0.leaves in
        inl (one_left e.answer t.disk_asked t.disk_after u.disk_asked u.disk_after (old f) (new f) (old_too f) (new_too f) one
        (subst (λ (a : Option WireAnswer). LeavesFile a u.disk_asked u.disk_after (old_too f) (new_too f)) (sym alike.0.answer) two) quiet.0.1 quiet_too.0.1 same)
    go false at (inl is) = inl is
    go false at (inr more) =
        let differs : f ≢ index_file e.path = λ is. let yes : bytes_eq (index_file e.path) f ≡ true = (bytes_eq-Decides (index_file e.path) f).1 (sym is) in cc (yes, at) in
        inr (other_more f e es differs more.0, other_more f x fs (λ is. differs (is ∙ paths)) more.1)

pub left_same : (old new old_too new_too : Disk) (es fs : List Exchange) (ts us : List Turn) (ps qs : List (List ℕ)) → TurnsNameAndLeave old new es ts → TurnsNameAndLeave old_too new_too fs us → AreAllSame es fs → AreStayed ts → AreStayed us
    → map (λ (e : Exchange). e.path) es ≡ ps → map (λ (e : Exchange). e.path) fs ≡ qs → KeepsOthers ps old new → KeepsOthers qs old_too new_too
    → ((f : List ℕ) → reads (old f) ≡ reads (old_too f)) → (f : List ℕ) → reads (new f) ≡ reads (new_too f)
left_same old new old_too new_too es fs ts us ps qs h k alike quiet quiet_too paths paths_too others others_too same f =
    go (left_case f old new old_too new_too es fs ts us h k alike quiet quiet_too (same f))
  where
    go : (reads (new f) ≡ reads (new_too f)) ⊎ (IsOther f es × IsOther f fs) → reads (new f) ≡ reads (new_too f)
    go (inl is) = is
    go (inr none) =
        let mine : new f ≡ old f = others f (λ p among. none.0 p (subst (λ (xs : List (List ℕ)). IsTrue (is_among p xs)) (sym paths) among)) in
        let other : new_too f ≡ old_too f = others_too f (λ p among. none.1 p (subst (λ (xs : List (List ℕ)). IsTrue (is_among p xs)) (sym paths_too) among)) in
        ap (λ (x : List Step). reads x) mine ∙ same f ∙ sym (ap (λ (x : List Step). reads x) other)

-- ---- the exchange of a path and its turn

-- of lists that pair up one by one, both have the path or none
pub turn_there : {X : Type 0} (old new : Disk) (q : List ℕ) (es : List Exchange) (ts : List Turn) (e : Exchange) → TurnsNameAndLeave old new es ts → exchange_of q es ≡ Some e → ((t : Turn) → turn_of q ts ≡ Some t → X) → X
turn_there old new q [] [] e h is f = cc (is)
turn_there old new q [] (t ∷ ts) e h is f = absurd h
turn_there old new q (x ∷ es) [] e h is f = absurd h
turn_there {X} old new q (x ∷ es) (t ∷ ts) e h is f = go (bytes_eq x.path q) (bytes_eq t.path q) refl refl (ap (λ (p : List ℕ). bytes_eq p q) h.0.path) is f (λ there g. turn_there old new q es ts e h.1 there g)
  where
    go : (a b : Bool) → bytes_eq x.path q ≡ a → bytes_eq t.path q ≡ b → bytes_eq x.path q ≡ bytes_eq t.path q → cond a (Some x) (exchange_of q es) ≡ Some e
        → ((u : Turn) → cond b (Some t) (turn_of q ts) ≡ Some u → X) → (exchange_of q es ≡ Some e → ((u : Turn) → turn_of q ts ≡ Some u → X) → X) → X
    go true true at on same there g more = g t refl
    go false false at on same there g more = more there g
    go true false at on same there g more = cc (at, on, same)
    go false true at on same there g more = cc (at, on, same)

stayed_case : (b : Bool) (t u : Turn) (o : Option Turn) → CountStayed t.disk_before t.disk_after → (o ≡ Some u → CountStayed u.disk_before u.disk_after) → cond b (Some t) o ≡ Some u → CountStayed u.disk_before u.disk_after
stayed_case true t u o mine f is = let same : t ≡ u = cc (is) in subst (λ (k : Turn). CountStayed k.disk_before k.disk_after) same mine
stayed_case false t u o mine f is = f is

pub stayed_turn : (q : List ℕ) (ts : List Turn) (u : Turn) → AreStayed ts → turn_of q ts ≡ Some u → CountStayed u.disk_before u.disk_after
stayed_turn q [] u stayed is = cc (is)
stayed_turn q (t ∷ ts) u stayed is = stayed_case (bytes_eq t.path q) t u _ stayed.0.0 (stayed_turn q ts u stayed.1) is

confirmed_case : (b : Bool) (x e : Exchange) (o : Option Exchange) → IsSomeAnd x.answer ConfirmsOrSends → (o ≡ Some e → IsSomeAnd e.answer ConfirmsOrSends) → cond b (Some x) o ≡ Some e → IsSomeAnd e.answer ConfirmsOrSends
confirmed_case true x e o mine more is = let same : x ≡ e = cc (is) in subst (λ (y : Exchange). IsSomeAnd y.answer ConfirmsOrSends) same mine
confirmed_case false x e o mine more is = more is

pub confirmed_at : (q : List ℕ) (es : List Exchange) (e : Exchange) → AllByRecursion (λ x. IsSomeAnd x.answer ConfirmsOrSends) es → exchange_of q es ≡ Some e → IsSomeAnd e.answer ConfirmsOrSends
confirmed_at q [] e h is = cc (is)
confirmed_at q (x ∷ es) e h is = confirmed_case (bytes_eq x.path q) x e _ h.0 (confirmed_at q es e h.1) is

-- the exchange of a path there is one of the same held body here
pub held_there : {X : Type 0} (q : List ℕ) (es fs : List Exchange) (e : Exchange) → AreAllAlike es fs → exchange_of q es ≡ Some e → ((f : Exchange) → exchange_of q fs ≡ Some f → e.held ≡ f.held → X) → X
held_there q [] fs e alike is g = cc (is)
held_there q (x ∷ es) [] e alike is g = absurd alike
held_there {X} q (x ∷ es) (y ∷ fs) e alike is g = go (bytes_eq x.path q) (bytes_eq y.path q) refl refl (ap (λ (p : List ℕ). bytes_eq p q) alike.0.path) is g (λ there f. held_there q es fs e alike.1 there f)
  where
    go : (a b : Bool) → bytes_eq x.path q ≡ a → bytes_eq y.path q ≡ b → bytes_eq x.path q ≡ bytes_eq y.path q → cond a (Some x) (exchange_of q es) ≡ Some e
        → ((f : Exchange) → cond b (Some y) (exchange_of q fs) ≡ Some f → e.held ≡ f.held → X) → (exchange_of q es ≡ Some e → ((f : Exchange) → exchange_of q fs ≡ Some f → e.held ≡ f.held → X) → X) → X
    go true true at on same there f more = let one : x ≡ e = cc (there) in f y refl (ap (λ (z : Exchange). z.held) (sym one) ∙ alike.0.held)
    go false false at on same there f more = more there f
    go true false at on same there f more = cc (at, on, same)
    go false true at on same there f more = cc (at, on, same)
