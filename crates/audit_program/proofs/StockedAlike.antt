-- What a plan or a registry reads after the audits of two runs is the same.
use Rattle.std.proofs.Common.{◌≡◌, ◌⊎◌, inl, inr, ℕ, List, ◌++◌, Option, Some, None, refl, sym, ap, ◌∙◌, subst}
use Rattle.std.specs.Prelude.{IsSomeAnd}
use Rattle.tame_names.specs.Counts.{CountStayed}
use Rattle.tame_names.specs.Names.{path}
use Rattle.tame_cache.specs.Disk.{File, Step, reads}
use Rattle.tame_sparse.specs.Exchanges.{crates_io_index}
use Rattle.tame_sparse.specs.declared.network.Exchange.{Exchange}
use Rattle.tame_sparse.specs.declared.network.Representation.{Representation}
use Rattle.audit_asked.specs.declared.asking.Asked.{Asked}
use Rattle.audit_core.specs.Alike.{AreAllAlike}
use Rattle.audit_core.specs.Auditors.{auditor_of}
use Rattle.audit_core.specs.Audits.{IsAuditOf, Moment, TurnsNameAndLeave}
use Rattle.audit_core.specs.Checks.{asked_of, checks_of}
use Rattle.audit_core.specs.Turns.{index_file}
use Rattle.audit_core.specs.Verdicts.{IsVerdictByHeldAt, exchange_of, turn_of}
use Rattle.audit_core.specs.declared.asking.Turn.{Turn}
use Rattle.audit_core.specs.declared.auditing.Audited.{Audited}
use Rattle.audit_core.specs.declared.auditors.Auditor.{Auditor}
use Rattle.audit_core.specs.declared.checking.Checks.{Checks}
use Rattle.audit_core.specs.declared.checking.Checks.TheVariants.{Online, Offline, Off}
use Rattle.audit_core.specs.declared.verdicts.Verdict.{Verdict}
use Rattle.audit_core.proofs.Exchanged.{cancel}
use Rattle.audit_remedies.specs.Makings.{IsReadSince}
use Rattle.audit_remedies.specs.declared.remedies.Remedy.{Remedy}
use Rattle.audit_remedies.specs.declared.remedies.Remedy.TheVariants.{Report, Fix, Plan, Baseline, WriteBaseline, Vendor}
use Rattle.upgrade_plan.specs.HeldPlans.{IsHonestServing}
use Rattle.upgrade_plan.specs.Recorded.{file_records}
use Rattle.upgrade_plan.proofs.Held.{HasHeldRecords}
use Rattle.upgrade_plan.proofs.HeldPlanning.{IsHonestly, file_held, judged_at, online_says, order_at}
use Rattle.audit_program.specs.AgreeingRuns.{AllTell, AreAllSame, AreConfirmed, AuditAlike, CheckAlike, StockAlike}
use Rattle.audit_program.specs.Worlds.{Telling, World, moment_of}
use Rattle.audit_program.proofs.LeftAlike.{AreStayed, StockSame, chain_stayed, confirmed_at, held_there, left_same, read_stock, stayed_turn, turn_there}
use Rattle.audit_program.proofs.SaidAlike.{audit_told}

-- ---- the weaker premise of those that read no cache afterwards

stock_check : (c : Checks) (tells tells_too : Telling) (before now before_too now_too : World) → StockAlike c tells tells_too before now before_too now_too → CheckAlike c tells tells_too before now before_too now_too
stock_check Online tells tells_too before now before_too now_too (inl stocked) = inl stocked.served
stock_check Online tells tells_too before now before_too now_too (inr answered) = inr answered
stock_check Offline tells tells_too before now before_too now_too caches = caches
stock_check Off tells tells_too before now before_too now_too caches = tt

pub audit_check : (remedy : Remedy) (c : Checks) (tells tells_too : Telling) (before now before_too now_too : World) → AuditAlike remedy c tells tells_too before now before_too now_too → CheckAlike c tells tells_too before now before_too now_too
audit_check Plan c tells tells_too before now before_too now_too h = stock_check c tells tells_too before now before_too now_too h
audit_check (Vendor more) c tells tells_too before now before_too now_too h = stock_check c tells tells_too before now before_too now_too h
audit_check Report c tells tells_too before now before_too now_too h = h
audit_check (Fix dry_run) c tells tells_too before now before_too now_too h = h
audit_check (Baseline path) c tells tells_too before now before_too now_too h = h
audit_check (WriteBaseline path) c tells tells_too before now before_too now_too h = h

-- ---- over honest servers that confirmed or sent each body

-- what a file has of a held body
held_same : (file file_too : File) (held held_too : Option Representation) → held ≡ held_too → HasHeldRecords file held → HasHeldRecords file_too held_too → file_records crates_io_index file ≡ file_records crates_io_index file_too
held_same file file_too held held_too same h k = go held h (subst (λ (o : Option Representation). HasHeldRecords file_too o) (sym same) k)
  where
    go : (o : Option Representation) → HasHeldRecords file o → HasHeldRecords file_too o → file_records crates_io_index file ≡ file_records crates_io_index file_too
    go None one two = absurd one
    go (Some r) one two = one ∙ sym two

-- the exchange and the turn of a path that is judged
judged_case : {X : Type 0} (q : List ℕ) (es : List Exchange) (ts : List Turn) (version : List ℕ) (v : Verdict) (o : Option (List ℕ)) → o ≡ Some q → IsVerdictByHeldAt es ts version o v
    → ((e : Exchange) (t : Turn) → exchange_of q es ≡ Some e → turn_of q ts ≡ Some t → X) → X
judged_case q es ts version v None named judged f = cc (named)
judged_case {X} q es ts version v (Some r) named judged f = let same : r ≡ q = cc (named) in go _ (exchange_of q es) (turn_of q ts) refl refl (subst (λ (x : List ℕ). IsVerdictByHeldAt es ts version (Some x) v) same judged)
  where
    go : (P : Exchange → Turn → Type 0) (a : Option Exchange) (b : Option Turn) → exchange_of q es ≡ a → turn_of q ts ≡ b → IsSomeAnd a (λ e. IsSomeAnd b (λ t. P e t)) → X
    go P None b at on there = absurd there
    go P (Some e) None at on there = absurd there
    go P (Some e) (Some t) at on there = f e t at on

-- an audit over an honest server, as a plan sees it
record IsServed (wire disk : Type 0) (auditor : Auditor) (began left : Moment) (added : List Exchange) (a : Audited) : Type 0 where
  pub serves : IsHonestServing wire disk began added
  pub here : IsHonestly serves.server began.files left.files added a.turns
  pub stayed : AreStayed a.turns
  pub confirmed : AreConfirmed added

is_served : (wire disk : Type 0) (auditor : Auditor) (began left : Moment) (added : List Exchange) (text : List ℕ) (a : Audited) → auditor.checks ≡ Online → IsHonestServing wire disk began added → IsAuditOf auditor wire disk began left text a
    → left.exchanges ≡ began.exchanges ++ added → CountStayed began.disk_faults left.disk_faults → AreConfirmed added → IsServed wire disk auditor began left added a
is_served wire disk auditor began left added text a online s h follow stayed confirmed =
    let says = online_says wire disk auditor.checks began left a.lockfile a.turns a.verdicts online h.says in
    let between = says.audited refl s.wire_tells in
    let same : added ≡ between.0 = cancel began.exchanges added between.0 (sym follow ∙ between.1) in
    let P : List Exchange → Type 0 = λ es. TurnsNameAndLeave began.files left.files es a.turns in
    record {
      serves = s;
      here = record {
        honest = s.honest;
        kept = s.kept;
        turned = subst P (sym same) (between.2.turned s.disk_tells);
        order = λ q t is. order_at q began.wire_faults began.disk_faults left.wire_faults left.disk_faults a.turns t says.counted.counts is;
      };
      stayed = chain_stayed began.wire_faults began.disk_faults a.turns left.wire_faults left.disk_faults says.counted.counts stayed;
      confirmed = confirmed;
    }

served_file : (wire disk : Type 0) (auditor : Auditor) (began left : Moment) (added : List Exchange) (a : Audited) (q : List ℕ) (e : Exchange) (t : Turn) → IsServed wire disk auditor began left added a
    → exchange_of q added ≡ Some e → turn_of q a.turns ≡ Some t → HasHeldRecords (reads (left.files (index_file q))) e.held
served_file wire disk auditor began left added a q e t h is_e is_t =
    file_held h.serves.server began.files left.files added a.turns q e t h.here is_e is_t (record { answer = confirmed_at q added e h.confirmed is_e; stayed = stayed_turn q a.turns t h.stayed is_t })

served_stock : (auditor : Auditor) (wire disk wire_too disk_too : Type 0) (b e b2 e2 : Moment) (text : List ℕ) (a a2 : Audited) (added added_too : List Exchange) → auditor.checks ≡ Online
    → IsHonestServing wire disk b added → IsHonestServing wire_too disk_too b2 added_too → IsAuditOf auditor wire disk b e text a → IsAuditOf auditor wire_too disk_too b2 e2 text a2
    → e.exchanges ≡ b.exchanges ++ added → e2.exchanges ≡ b2.exchanges ++ added_too → CountStayed b.disk_faults e.disk_faults → CountStayed b2.disk_faults e2.disk_faults
    → AreConfirmed added → AreConfirmed added_too → AreAllAlike added added_too → StockSame e.files e2.files a.lockfile
served_stock auditor wire disk wire_too disk_too b e b2 e2 text a a2 added added_too online s s2 h k follow follow_too stayed stayed_too confirmed confirmed_too alike place p at default q named =
    let one = is_served wire disk auditor b e added text a online s h follow stayed confirmed in
    let two = is_served wire_too disk_too auditor b2 e2 added_too text a2 online s2 k follow_too stayed_too confirmed_too in
    let says = online_says wire disk auditor.checks b e a.lockfile a.turns a.verdicts online h.says in
    let judged = says.headline refl s.wire_tells s.disk_tells s.server added follow s.honest s.kept in
    let v = judged_at (IsVerdictByHeldAt added a.turns) 0 a.lockfile a.verdicts place p judged at default in
    judged_case q added a.turns p.version v.0 (path p.name) named v.1
    (λ x t is_x is_t. held_there q added added_too x alike is_x
    (λ y is_y held. turn_there b2.files e2.files q added_too a2.turns y two.here.turned is_y
    (λ u is_u. held_same (reads (e.files (index_file q))) (reads (e2.files (index_file q))) x.held y.held held
    (served_file wire disk auditor b e added a q x t one is_x is_t) (served_file wire_too disk_too auditor b2 e2 added_too a2 q y u two is_y is_u))))

-- ---- whichever way versions are checked

-- what was read since
since_same : (told told_too : Type 0) (now now_too : World) (left left_too : Moment) → told → told_too → IsReadSince told left (moment_of now) → IsReadSince told_too left_too (moment_of now_too)
    → ((q : List ℕ) → reads (now.cache q) ≡ reads (now_too.cache q)) → (q : List ℕ) → reads (left.files q) ≡ reads (left_too.files q)
since_same told told_too now now_too left left_too t t2 h k alike q = ap (λ (x : List Step). reads x) (sym (h.files t q)) ∙ alike q ∙ ap (λ (x : List Step). reads x) (k.files t2 q)

unchanged_same : (before now before_too now_too : World) → ((q : List ℕ) → now.cache q ≡ before.cache q) → ((q : List ℕ) → now_too.cache q ≡ before_too.cache q)
    → ((q : List ℕ) → reads (before.cache q) ≡ reads (before_too.cache q)) → (q : List ℕ) → reads (now.cache q) ≡ reads (now_too.cache q)
unchanged_same before now before_too now_too h k alike q = ap (λ (x : List Step). reads x) (h q) ∙ alike q ∙ sym (ap (λ (x : List Step). reads x) (k q))

offline_online : Offline ≡ Online → ⊥
offline_online is = cc (is)

off_online : Off ≡ Online → ⊥
off_online is = cc (is)

-- two audits with the same answers, over caches that read the same, leave caches that read the same
pub came_left : (auditor : Auditor) (wire disk wire_too disk_too : Type 0) (b e b2 e2 : Moment) (text text_too : List ℕ) (a a2 : Audited) (added added_too : List Exchange) → wire → disk → wire_too → disk_too → auditor.checks ≡ Online
    → IsAuditOf auditor wire disk b e text a → IsAuditOf auditor wire_too disk_too b2 e2 text_too a2 → CountStayed b.disk_faults e.disk_faults → CountStayed b2.disk_faults e2.disk_faults
    → e.exchanges ≡ b.exchanges ++ added → e2.exchanges ≡ b2.exchanges ++ added_too → AreAllSame added added_too → ((q : List ℕ) → reads (b.files q) ≡ reads (b2.files q)) → (q : List ℕ) → reads (e.files q) ≡ reads (e2.files q)
came_left auditor wire disk wire_too disk_too b e b2 e2 text text_too a a2 added added_too w d w2 d2 online h k stayed stayed_too follow follow_too alike same =
    let one = (audit_told auditor wire disk b e text a w d h).says.audited online tt in
    let two = (audit_told auditor wire_too disk_too b2 e2 text_too a2 w2 d2 k).says.audited online tt in
    let mine : one.0 ≡ added = cancel b.exchanges one.0 added (sym one.1 ∙ follow) in
    let other : two.0 ≡ added_too = cancel b2.exchanges two.0 added_too (sym two.1 ∙ follow_too) in
    let A : List Exchange → Type 0 = λ es. AreAllSame es added_too in
    let B : List Exchange → Type 0 = λ es. AreAllSame one.0 es in
    left_same b.files e.files b2.files e2.files one.0 two.0 a.turns a2.turns (asked_of auditor.checks a.lockfile) (asked_of auditor.checks a2.lockfile) (one.2.turned tt) (two.2.turned tt) (subst B (sym other) (subst A (sym mine) alike))
    (chain_stayed b.wire_faults b.disk_faults a.turns e.wire_faults e.disk_faults h.says.counted.counts stayed)
    (chain_stayed b2.wire_faults b2.disk_faults a2.turns e2.wire_faults e2.disk_faults k.says.counted.counts stayed_too)
    one.2.asked two.2.asked (one.2.others tt) (two.2.others tt) same

pub stock_case : (tells tells_too : Telling) (given : Asked) (before now before_too now_too : World) (left left_too : Moment) (a a2 : Audited) (c : Checks) → checks_of given.config ≡ c → AllTell tells → AllTell tells_too
    → StockAlike c tells tells_too before now before_too now_too → IsReadSince tells.disk left (moment_of now) → IsReadSince tells_too.disk left_too (moment_of now_too)
    → IsAuditOf (auditor_of given.config given.advisories) tells.wire tells.disk (moment_of before) left given.text a
    → IsAuditOf (auditor_of given.config given.advisories) tells_too.wire tells_too.disk (moment_of before_too) left_too given.text a2
    → CountStayed before.disk_faults left.disk_faults → CountStayed before_too.disk_faults left_too.disk_faults
    → ((c ≡ Online → ⊥) → (q : List ℕ) → now.cache q ≡ before.cache q) → ((c ≡ Online → ⊥) → (q : List ℕ) → now_too.cache q ≡ before_too.cache q)
    → StockSame left.files left_too.files a.lockfile
stock_case tells tells_too given before now before_too now_too left left_too a a2 Online is tell tell_too (inl stocked) since since_too h k stayed stayed_too calls calls_too = go stocked.left
  where
    go : (AreConfirmed stocked.served.added × AreConfirmed stocked.served.added_too) ⊎ ((q : List ℕ) → reads (now.cache q) ≡ reads (now_too.cache q)) → StockSame left.files left_too.files a.lockfile
    go (inl confirmed) =
        let s = stocked.served in
        served_stock (auditor_of given.config given.advisories) tells.wire tells.disk tells_too.wire tells_too.disk (moment_of before) left (moment_of before_too) left_too given.text a a2 s.added s.added_too is
        s.honest.serving s.honest_too.serving h k (sym since.exchanges ∙ s.honest.follow) (sym since_too.exchanges ∙ s.honest_too.follow) stayed stayed_too confirmed.0 confirmed.1 s.alike
    go (inr caches) = read_stock left.files left_too.files a.lockfile (since_same tells.disk tells_too.disk now now_too left left_too tell.disk tell_too.disk since since_too caches)
stock_case tells tells_too given before now before_too now_too left left_too a a2 Online is tell tell_too (inr answered) since since_too h k stayed stayed_too calls calls_too =
    read_stock left.files left_too.files a.lockfile
    (came_left (auditor_of given.config given.advisories) tells.wire tells.disk tells_too.wire tells_too.disk (moment_of before) left (moment_of before_too) left_too given.text given.text a a2 answered.added answered.added_too
    tell.wire tell.disk tell_too.wire tell_too.disk is h k stayed stayed_too (sym since.exchanges ∙ answered.follow) (sym since_too.exchanges ∙ answered.follow_too) answered.same answered.caches)
stock_case tells tells_too given before now before_too now_too left left_too a a2 Offline is tell tell_too caches since since_too h k stayed stayed_too calls calls_too =
    read_stock left.files left_too.files a.lockfile
    (since_same tells.disk tells_too.disk now now_too left left_too tell.disk tell_too.disk since since_too (unchanged_same before now before_too now_too (calls offline_online) (calls_too offline_online) caches))
stock_case tells tells_too given before now before_too now_too left left_too a a2 Off is tell tell_too caches since since_too h k stayed stayed_too calls calls_too =
    read_stock left.files left_too.files a.lockfile
    (since_same tells.disk tells_too.disk now now_too left left_too tell.disk tell_too.disk since since_too (unchanged_same before now before_too now_too (calls off_online) (calls_too off_online) caches))
