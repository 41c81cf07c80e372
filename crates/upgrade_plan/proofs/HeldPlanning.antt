-- Each item of a plan over an honest server follows from what the server held.
use Rattle.std.proofs.Common.{◌≡◌, ◌⊎◌, inl, inr, ◌≤◌, ◌<◌, ◌^◌, ◌-◌, ℕ, zero, suc, ◌+◌, List, [], ◌∷◌, ◌++◌, Bool, true, false, cond, Option, Some, None, option_map, refl, sym, ap, ◌∙◌, subst, arith, rules}
use Rattle.std.specs.Prelude.{IfSome, IsSomeAnd, bytes_eq, slice_get}
use Rattle.std.specs.List.{AllByRecursion, enumerate_from, filter}
use Rattle.std.proofs.lemmas.Slice.Eq.{bytes_eq-Decides}
use Rattle.tame_names.specs.Counts.{CountStayed}
use Rattle.tame_names.specs.Names.{path}
use Rattle.tame_entry.specs.ServerMaps.{ServerMap}
use Rattle.tame_cache.specs.Disk.{reads}
use Rattle.tame_cache.specs.Kept.{Disk, IsKept, cache_file}
use Rattle.tame_sparse.specs.Exchanges.{crates_io_index}
use Rattle.tame_sparse.specs.Honest.{AreHonest, IsHonest}
use Rattle.tame_sparse.specs.declared.network.Exchange.{Exchange}
use Rattle.tame_sparse.specs.declared.network.Representation.{Representation}
use Rattle.audit_lock.specs.declared.resolving.Package.{Package}
use Rattle.audit_advisory.specs.Hits.{is_from_default}
use Rattle.audit_advisory.specs.declared.advisories.Advisory.{Advisory}
use Rattle.audit_advisory.specs.declared.settings.Settings.{Settings}
use Rattle.audit_core.specs.Audits.{AuditSays, Moment, TurnNamesAndLeaves, TurnsNameAndLeave}
use Rattle.audit_core.specs.Checks.{asked_of, judged_of}
use Rattle.audit_core.specs.Paths.{is_default}
use Rattle.audit_core.specs.Turns.{Chains, index_file}
use Rattle.audit_core.specs.Verdicts.{AreVerdicts, IsVerdictByHeldAt, exchange_of, turn_of}
use Rattle.audit_core.specs.declared.asking.Turn.{Turn}
use Rattle.audit_core.specs.declared.auditing.Audited.{Audited}
use Rattle.audit_core.specs.declared.auditors.Auditor.{Auditor}
use Rattle.audit_core.specs.declared.checking.Checks.{Checks}
use Rattle.audit_core.specs.declared.checking.Checks.TheVariants.{Online}
use Rattle.audit_core.specs.declared.verdicts.Judged.{Judged}
use Rattle.audit_core.specs.declared.verdicts.Verdict.{Verdict}
use Rattle.upgrade_plan.specs.HeldPlans.{ArePlannedByHeld, IsHeldOutcome, IsHeldPlan, IsHonestAudit, IsPathHeldPlan, LeavesHeld, IsSourceHeldPlan}
use Rattle.upgrade_plan.specs.Plans.{IsOutcome, IsPathOutcome, IsPlanBy, IsPlanOf, IsPlannedAt, IsSourceOutcome, crates_io_cache}
use Rattle.upgrade_plan.specs.Recorded.{file_records}
use Rattle.upgrade_plan.specs.declared.records.NoRecord.TheVariants as why
use Rattle.upgrade_plan.specs.declared.plans.PlanItem.{PlanItem}
use Rattle.upgrade_plan.specs.declared.plans.PlanOutcome.{PlanOutcome}
use Rattle.upgrade_plan.specs.declared.plans.PlanOutcome.TheVariants as outcome
use Rattle.upgrade_plan.proofs.Held.{HasHeldRecords, held_records}

same_bytes : (xs ys : List ℕ) → bytes_eq xs ys ≡ true → xs ≡ ys
same_bytes xs ys h = search (rules, bytes_eq-Decides)

-- ---- the exchange of a path, and its turn

honest_case : (m : ServerMap) (b : Bool) (x e : Exchange) (o : Option Exchange) → IsHonest m x → (o ≡ Some e → IsHonest m e) → cond b (Some x) o ≡ Some e → IsHonest m e
honest_case m true x e o mine more is = let same : x ≡ e = cc in subst (IsHonest m) same mine
honest_case m false x e o mine more is = more is

honest_at : (m : ServerMap) (q : List ℕ) (es : List Exchange) (e : Exchange) → AreHonest m es → exchange_of q es ≡ Some e → IsHonest m e
honest_at m q [] e h is = cc
honest_at m q (x ∷ es) e h is = honest_case m (bytes_eq x.path q) x e _ h.0 (honest_at m q es e h.1) is

abbrev pub InOrder : Turn → Type 0
InOrder t = (t.disk_before ≤ t.disk_asked) × (t.disk_asked ≤ t.disk_after)

order_case : (b : Bool) (x t : Turn) (o : Option Turn) → InOrder x → (o ≡ Some t → InOrder t) → cond b (Some x) o ≡ Some t → InOrder t
order_case true x t o mine more is = let same : x ≡ t = cc in subst InOrder same mine
order_case false x t o mine more is = more is

-- within a turn the disk's count never falls
pub order_at : (q : List ℕ) (wire disk last_wire last_disk : ℕ) (ts : List Turn) (t : Turn) → Chains wire disk ts last_wire last_disk → turn_of q ts ≡ Some t → InOrder t
order_at q wire disk last_wire last_disk [] t h is = cc
order_at q wire disk last_wire last_disk (x ∷ ts) t h is =
    order_case (bytes_eq x.path q) x t _ (h.3, h.4) (order_at q x.wire_after x.disk_after last_wire last_disk ts t h.5) is

-- a turn with the exchange of the path
record IsTurned (old new : Disk) (q : List ℕ) (e : Exchange) (t : Turn) : Type 0 where
  pub path : e.path ≡ q
  pub whole : TurnNamesAndLeaves old new e t

turned_case : (old new : Disk) (q : List ℕ) (a b : Bool) (x e : Exchange) (u t : Turn) (o : Option Exchange) (s : Option Turn) → bytes_eq x.path q ≡ a → a ≡ b → TurnNamesAndLeaves old new x u
    → (o ≡ Some e → s ≡ Some t → IsTurned old new q e t) → cond a (Some x) o ≡ Some e → cond b (Some u) s ≡ Some t → IsTurned old new q e t
turned_case old new q true true x e u t o s at same mine more is_e is_t =
    let one : x ≡ e = cc in
    let other : u ≡ t = cc in
    let turned : IsTurned old new q x u = record { path = same_bytes x.path q at; whole = mine } in
    subst (λ y. IsTurned old new q y t) one (subst (λ y. IsTurned old new q x y) other turned)
turned_case old new q false false x e u t o s at same mine more is_e is_t = more is_e is_t
turned_case old new q true false x e u t o s at same mine more is_e is_t = cc
turned_case old new q false true x e u t o s at same mine more is_e is_t = cc

turned_at : (old new : Disk) (q : List ℕ) (es : List Exchange) (ts : List Turn) (e : Exchange) (t : Turn) → TurnsNameAndLeave old new es ts → exchange_of q es ≡ Some e → turn_of q ts ≡ Some t → IsTurned old new q e t
turned_at old new q [] [] e t h is_e is_t = cc
turned_at old new q [] (u ∷ ts) e t h is_e is_t = absurd h
turned_at old new q (x ∷ es) [] e t h is_e is_t = absurd h
turned_at old new q (x ∷ es) (u ∷ ts) e t h is_e is_t =
    turned_case old new q (bytes_eq x.path q) (bytes_eq u.path q) x e u t _ _ refl (ap (λ (p : List ℕ). bytes_eq p q) h.0.path) h.0 (turned_at old new q es ts e t h.1) is_e is_t

-- ---- a package that is judged

verdict_case : (Is : List ℕ → Option (List ℕ) → Verdict → Type 0) (n : ℕ) (p : Package) (rest : List (ℕ × Package)) (js : List Judged) → AreVerdicts Is ((n, p) ∷ rest) js → (v : Verdict) × Is p.version (path p.name) v
verdict_case Is n p rest [] h = absurd h
verdict_case Is n p rest (j ∷ js) h = (j.verdict, h.1)

passed_case : (Is : List ℕ → Option (List ℕ) → Verdict → Type 0) (n : ℕ) (p : Package) (b : Bool) (rest : List (ℕ × Package)) (js : List Judged) {P : Type 0} → AreVerdicts Is (cond b ((n, p) ∷ rest) rest) js
    → ((more : List Judged) → AreVerdicts Is rest more → P) → P
passed_case Is n p true rest [] h f = absurd h
passed_case Is n p true rest (j ∷ js) h f = f js h.2
passed_case Is n p false rest js h f = f js h

pub judged_at : (Is : List ℕ → Option (List ℕ) → Verdict → Type 0) (n : ℕ) (packages : List Package) (js : List Judged) (place : ℕ) (p : Package) → AreVerdicts Is (filter (λ x. is_default x.1) (enumerate_from n packages)) js
    → slice_get packages place ≡ Some p → is_default p ≡ true → (v : Verdict) × Is p.version (path p.name) v
judged_at Is n [] js place p h at is = cc
judged_at Is n (x ∷ xs) js zero p h at is =
    let same : x ≡ p = cc in
    let test : is_default x ≡ true = ap (λ y. is_default y) same ∙ is in
    let rest = filter (λ y. is_default y.1) (enumerate_from (n + 1) xs) in
    let P : Bool → Type 0 = λ b. AreVerdicts Is (cond b ((n, x) ∷ rest) rest) js in
    let Q : Package → Type 0 = λ y. (v : Verdict) × Is y.version (path y.name) v in
    subst Q same (verdict_case Is n x rest js (subst P test h))
judged_at Is n (x ∷ xs) js (suc place) p h at is =
    passed_case Is n x (is_default x) (filter (λ y. is_default y.1) (enumerate_from (n + 1) xs)) js h (λ more k. judged_at Is (n + 1) xs more place p k at is)

-- ---- one package

-- the disk of an audit at its entry and at its exit, its exchanges and its turns
pub record IsHonestly (m : ServerMap) (old new : Disk) (es : List Exchange) (ts : List Turn) : Type 0 where
  pub honest : AreHonest m es
  pub kept : IsKept m crates_io_index [] old
  pub turned : TurnsNameAndLeave old new es ts
  pub order : (q : List ℕ) (t : Turn) → turn_of q ts ≡ Some t → InOrder t

stayed_since : (before asked after : ℕ) → before ≤ asked → asked ≤ after → CountStayed before after → CountStayed asked after
stayed_since before asked after first second quiet =
    let same = quiet.0 in
    let low = quiet.1 in
    let one : asked ≡ before = omega (arith, first, second, same) in
    (same ∙ sym one, subst (λ n. n < 2 ^ 64 - 1) (sym one) low)

pub file_held : (m : ServerMap) (old new : Disk) (es : List Exchange) (ts : List Turn) (q : List ℕ) (e : Exchange) (t : Turn) → IsHonestly m old new es ts → exchange_of q es ≡ Some e → turn_of q ts ≡ Some t → LeavesHeld e t
    → HasHeldRecords (reads (new (index_file q))) e.held
file_held m old new es ts q e t h is_e is_t leaves =
    let pair = turned_at old new q es ts e t h.turned is_e is_t in
    let honest = honest_at m q es e h.honest is_e in
    let order = h.order q t is_t in
    let left = held_records m e.path e.named e.held e.answer t.disk_asked t.disk_after t.disk_before t.disk_asked (old (index_file e.path)) (new (index_file e.path))
    (h.kept e.path pair.whole.place) pair.whole.named honest.mapped honest.answered leaves.answer (stayed_since t.disk_before t.disk_asked t.disk_after order.0 order.1 leaves.stayed) pair.whole.leaves in
    let P : List ℕ → Type 0 = λ p. HasHeldRecords (reads (new (index_file p))) e.held in
    subst P pair.path left

held_outcome : (settings : Settings) (advisories : List Advisory) (p : Package) (file : Option (List ℕ)) (held : Option Representation) (o : PlanOutcome) → HasHeldRecords file held
    → IsOutcome settings advisories p (file_records crates_io_index file) o ⊎ (o ≡ outcome.NoRecord why.Store) → IsHeldOutcome settings advisories p held o
held_outcome settings advisories p file None o h is = absurd h
held_outcome settings advisories p file (Some r) o h (inl is) = inl (subst (λ x. IsOutcome settings advisories p x o) h is)
held_outcome settings advisories p file (Some r) o h (inr is) = inr is

found_case : (settings : Settings) (advisories : List Advisory) (m : ServerMap) (old new : Disk) (es : List Exchange) (ts : List Turn) (p : Package) (q : List ℕ) (o : PlanOutcome) (oe : Option Exchange) (ot : Option Turn)
    → exchange_of q es ≡ oe → turn_of q ts ≡ ot → IsHonestly m old new es ts → IsSomeAnd oe (λ e. IsSomeAnd ot (λ t. Unit {0}))
    → IsOutcome settings advisories p (file_records crates_io_index (reads (new (index_file q)))) o ⊎ (o ≡ outcome.NoRecord why.Store)
    → IsSomeAnd oe (λ e. IsSomeAnd ot (λ t. LeavesHeld e t → IsHeldOutcome settings advisories p e.held o))
found_case settings advisories m old new es ts p q o None ot is_e is_t h there is = absurd there
found_case settings advisories m old new es ts p q o (Some e) None is_e is_t h there is = absurd there
found_case settings advisories m old new es ts p q o (Some e) (Some t) is_e is_t h there is =
    λ leaves. held_outcome settings advisories p (reads (new (index_file q))) e.held o (file_held m old new es ts q e t h is_e is_t leaves) is

stands : (P : Exchange → Turn → Type 0) (oe : Option Exchange) (ot : Option Turn) → IsSomeAnd oe (λ e. IsSomeAnd ot (λ t. P e t)) → IsSomeAnd oe (λ e. IsSomeAnd ot (λ t. Unit {0}))
stands P None ot h = absurd h
stands P (Some e) None h = absurd h
stands P (Some e) (Some t) h = tt

path_case : (told : Type 0) (t : told) (settings : Settings) (advisories : List Advisory) (m : ServerMap) (old new : Disk) (es : List Exchange) (ts : List Turn) (p : Package) (r : Option (List ℕ)) (v : Verdict) (o : PlanOutcome)
    → IsHonestly m old new es ts → IsVerdictByHeldAt es ts p.version r v
    → IsPathOutcome told settings advisories crates_io_index (λ f. reads (new f)) p (option_map (cache_file []) r) o
    → IsPathHeldPlan settings advisories es ts p r o
path_case told t settings advisories m old new es ts p None v o h judged is = is
path_case told t settings advisories m old new es ts p (Some q) v o h judged is =
    found_case settings advisories m old new es ts p q o (exchange_of q es) (turn_of q ts) refl refl h (stands _ (exchange_of q es) (turn_of q ts) judged) (is.by_file t)

source_case : (told : Type 0) (t : told) (settings : Settings) (advisories : List Advisory) (m : ServerMap) (old new : Disk) (es : List Exchange) (ts : List Turn) (p : Package) (b : Bool) (o : PlanOutcome)
    → is_from_default p.source ≡ b → IsHonestly m old new es ts → (is_default p ≡ true → (v : Verdict) × IsVerdictByHeldAt es ts p.version (path p.name) v)
    → IsSourceOutcome told settings advisories crates_io_cache (λ f. reads (new f)) p b o → IsSourceHeldPlan settings advisories es ts p b o
source_case told t settings advisories m old new es ts p false o at h judged is = is
source_case told t settings advisories m old new es ts p true o at h judged is =
    let v = judged at in
    path_case told t settings advisories m old new es ts p (path p.name) v.0 o h v.1 is

-- ---- all items

place_case : (A B : Package → PlanOutcome → Type 0) (packages : List Package) (place : ℕ) (r : Option Package) (o : PlanOutcome) → slice_get packages place ≡ r → ((p : Package) → slice_get packages place ≡ Some p → A p o → B p o)
    → IfSome r (λ p. A p o) → IfSome r (λ p. B p o)
place_case A B packages place None o at f h = tt
place_case A B packages place (Some p) o at f h = f p at h

all_items : (A B : Package → PlanOutcome → Type 0) (packages : List Package) (items : List PlanItem) → ((place : ℕ) (p : Package) (o : PlanOutcome) → slice_get packages place ≡ Some p → A p o → B p o)
    → AllByRecursion (IsPlannedAt A packages) items → AllByRecursion (IsPlannedAt B packages) items
all_items A B packages [] f h = tt
all_items A B packages (item ∷ items) f h =
    (place_case A B packages item.«package» (slice_get packages item.«package») item.outcome refl (λ p at is. f item.«package» p item.outcome at is) h.0, all_items A B packages items f h.1)

pub online_says : (wire disk : Type 0) (checks : Checks) (began left : Moment) (packages : List Package) (turns : List Turn) (verdicts : List Judged) → checks ≡ Online
    → AuditSays checks wire disk began left (asked_of checks packages) (judged_of checks packages) turns verdicts
    → AuditSays Online wire disk began left (asked_of Online packages) (judged_of Online packages) turns verdicts
online_says wire disk checks began left packages turns verdicts online says =
    let P : Checks → Type 0 = λ c. AuditSays c wire disk began left (asked_of c packages) (judged_of c packages) turns verdicts in
    subst P online says

cons_tail : (x : Exchange) (xs ys : List Exchange) → x ∷ xs ≡ x ∷ ys → xs ≡ ys
cons_tail x xs ys h = cc

cancel : (xs ys zs : List Exchange) → xs ++ ys ≡ xs ++ zs → ys ≡ zs
cancel [] ys zs h = h
cancel (x ∷ xs) ys zs h = cancel xs ys zs (cons_tail x (xs ++ ys) (xs ++ zs) h)

pub planned_by_held : (wire disk : Type 0) (auditor : Auditor) (began left : Moment) (added : List Exchange) (text : List ℕ) (audited : Audited) (advisories : List Advisory) (faults : ℕ) (items : List PlanItem)
    → IsHonestAudit auditor wire disk began left added text audited → IsPlanBy disk advisories audited left.files left.disk_faults faults items → ArePlannedByHeld advisories audited added items
planned_by_held wire disk auditor began left added text audited advisories faults items a by =
    let says = online_says wire disk auditor.checks began left audited.lockfile audited.turns audited.verdicts a.online a.audit.says in
    let between = says.audited refl a.wire_tells in
    let same : added ≡ between.0 = cancel began.exchanges added between.0 (sym a.follow ∙ between.1) in
    let P : List Exchange → Type 0 = λ es. TurnsNameAndLeave began.files left.files es audited.turns in
    let here : IsHonestly a.server began.files left.files added audited.turns = record {
      honest = a.honest;
      kept = a.kept;
      turned = subst P (sym same) (between.2.turned a.disk_tells);
      order = λ q t is. order_at q began.wire_faults began.disk_faults left.wire_faults left.disk_faults audited.turns t says.counted.counts is;
    } in
    let judged = says.headline refl a.wire_tells a.disk_tells a.server added a.follow a.honest a.kept in
    let settings = audited.report.settings in
    all_items (IsPlanOf disk settings advisories crates_io_cache (λ f. reads (left.files f))) (IsHeldPlan settings advisories added audited.turns) audited.lockfile items
    (λ place p o at is. source_case disk a.disk_tells settings advisories a.server began.files left.files added audited.turns p (is_from_default p.source) o refl here
    (λ listed. judged_at (IsVerdictByHeldAt added audited.turns) 0 audited.lockfile audited.verdicts place p judged at listed) is)
    by.planned
