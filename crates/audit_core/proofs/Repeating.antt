-- An offline audit after an online one says the same.
use Rattle.std.proofs.Common.{◌≡◌, inl, inr, ◌≤◌, ◌<◌, ℕ, List, [], ◌∷◌, ◌++◌, Bool, true, false, cond, Option, Some, None, Ok, refl, sym, ap, ◌∙◌, subst, arith}
use Rattle.std.specs.Prelude.{IsSomeAnd, bytes_eq, flat_map, ◌-◌, ◌^◌}
use Rattle.tame_names.specs.Counts.{CountRose, CountStayed}
use Rattle.tame_names.specs.Names.{path}
use Rattle.tame_records.specs.Lines.{lines}
use Rattle.tame_entry.specs.Entry.{pair_bytes, pairs, read_entry}
use Rattle.tame_entry.specs.Lines.{valid}
use Rattle.tame_entry.specs.Revision.{IsRevision}
use Rattle.tame_entry.specs.VersionStatuses.{version_flags}
use Rattle.tame_entry.proofs.EntryLemmas.{body_read, lines_back, plain_valid}
use Rattle.tame_cache.specs.Disk.{File, Step, reads}
use Rattle.tame_cache.specs.Kept.{Disk}
use Rattle.tame_sparse.specs.Exchanges.{crates_io_index}
use Rattle.tame_sparse.specs.ResponseResults.{IsToStore, entry_of, stored_under}
use Rattle.tame_sparse.specs.declared.network.Exchange.{Exchange}
use Rattle.tame_sparse.specs.declared.network.WireAnswer.{WireAnswer}
use Rattle.audit_lock.specs.declared.resolving.Package.{Package}
use Rattle.audit_core.specs.Answers.{IsAnswer, IsNotModified, answer_of, body_answer, by_status, file_answer, read_answer}
use Rattle.audit_core.specs.Auditors.{audit_exit, audit_report}
use Rattle.audit_core.specs.Audits.{CountRoseFor, IsAuditOf, IsCausedAt, Moment, TurnsNameAndLeave}
use Rattle.audit_core.specs.Checks.{judged_of}
use Rattle.audit_core.specs.Recalled.{IsFileAnswer, IsFileVerdict, IsVerdictByCacheAt}
use Rattle.audit_core.specs.Repeats.{AreKeptAnswers, IsKeptAnswer}
use Rattle.audit_core.specs.Turns.{Chains, LeavesFile, index_file}
use Rattle.audit_core.specs.Verdicts.{AreVerdicts, IsVerdictByAnswer, IsVerdictByAnswerAt, exchange_of, turn_of, verdict_by}
use Rattle.audit_core.specs.declared.answers.PathAnswer.{PathAnswer}
use Rattle.audit_core.specs.declared.answers.PathAnswer.TheVariants.{Lines}
use Rattle.audit_core.specs.declared.asking.Turn.{Turn}
use Rattle.audit_core.specs.declared.auditing.Audited.{Audited}
use Rattle.audit_core.specs.declared.auditors.Auditor.{Auditor}
use Rattle.audit_core.specs.declared.checking.Checks.{Checks}
use Rattle.audit_core.specs.declared.checking.Checks.TheVariants.{Online, Offline}
use Rattle.audit_core.specs.declared.verdicts.Cause.TheVariants as cause
use Rattle.audit_core.specs.declared.verdicts.Judged.{Judged}
use Rattle.audit_core.specs.declared.verdicts.Verdict.{Verdict}
use Rattle.audit_core.specs.declared.verdicts.Verdict.TheVariants.{Unchecked}
use Rattle.audit_core.proofs.Agreeing.{chain_grows}
use Rattle.audit_core.proofs.Exchanged.{cancel}
use Rattle.audit_core.proofs.Lists.{same_bytes}
use Rattle.audit_core.proofs.Sound.{index_whole}

-- ---- quiet turns

abbrev AreStayed : List Turn → Type 0
AreStayed [] = Unit {0}
AreStayed (t ∷ ts) = CountStayed t.disk_asked t.disk_after × AreStayed ts

chain_stayed : (wire disk : ℕ) (ts : List Turn) (last_wire last_disk : ℕ) → Chains wire disk ts last_wire last_disk → last_disk ≡ disk → disk < 2 ^ 64 - 1 → AreStayed ts
chain_stayed wire disk [] last_wire last_disk h same low = tt
chain_stayed wire disk (t ∷ ts) last_wire last_disk h same low =
    let more : t.disk_after ≤ last_disk = chain_grows t.wire_after t.disk_after ts last_wire last_disk h.5 in
    let begins : t.disk_before ≡ disk = h.2 in
    let asked : t.disk_before ≤ t.disk_asked = h.3 in
    let after : t.disk_asked ≤ t.disk_after = h.4 in
    let rest : last_disk ≡ t.disk_after = omega (arith, more, same, begins, asked, after) in
    let below : t.disk_after < 2 ^ 64 - 1 = omega (arith, rest, same, low) in
    let one : t.disk_after ≡ t.disk_asked = omega (arith, more, same, begins, asked, after) in
    let under : t.disk_asked < 2 ^ 64 - 1 = omega (arith, one, below) in
    ((one, under), chain_stayed t.wire_after t.disk_after ts last_wire last_disk h.5 rest below)

stayed_quiet : (asked after : ℕ) → CountStayed asked after → CountRose asked after → ⊥
stayed_quiet asked after stayed rose =
    let same : after ≡ asked = stayed.0 in
    let low : asked < 2 ^ 64 - 1 = stayed.1 in
    omega (arith, same, low, rose)

stayed_case : (b : Bool) (t u : Turn) (o : Option Turn) → CountStayed t.disk_asked t.disk_after → (o ≡ Some u → CountStayed u.disk_asked u.disk_after) → cond b (Some t) o ≡ Some u → CountStayed u.disk_asked u.disk_after
stayed_case true t u o mine f is = let same : t ≡ u = cc in subst (λ (k : Turn). CountStayed k.disk_asked k.disk_after) same mine
stayed_case false t u o mine f is = f is

stayed_turn : (q : List ℕ) (ts : List Turn) (u : Turn) → AreStayed ts → turn_of q ts ≡ Some u → CountStayed u.disk_asked u.disk_after
stayed_turn q [] u stayed is = cc
stayed_turn q (t ∷ ts) u stayed is = stayed_case (bytes_eq t.path q) t u _ stayed.0 (stayed_turn q ts u stayed.1) is

never_rose : (q : List ℕ) (ts : List Turn) (o : Option Turn) → AreStayed ts → turn_of q ts ≡ o → IsSomeAnd o (λ t. CountRose t.disk_asked t.disk_after) → ⊥
never_rose q ts None stayed at is = absurd is
never_rose q ts (Some t) stayed at is = stayed_quiet t.disk_asked t.disk_after (stayed_turn q ts t stayed at) is

-- ---- what the file says after an exchange

entry_says : (a : WireAnswer) → IsToStore crates_io_index a → IsRevision (stored_under a.revision) → file_answer (Some (entry_of crates_io_index a)) ≡ body_answer a.body
entry_says a store revision =
    let read : read_entry crates_io_index (entry_of crates_io_index a) ≡ Ok (record { revision = stored_under a.revision; versions = flat_map pair_bytes (pairs a.body) }) =
    body_read crates_io_index (stored_under a.revision) a.body index_whole revision store.storable store.plain in
    let right : valid a.body ≡ true = plain_valid a.body store.plain in
    let says : Lines (version_flags (lines a.body)) ≡ body_answer a.body = rw right refl in
    ap read_answer read ∙ ap (λ ls. Lines (version_flags ls)) (lines_back a.body store.plain) ∙ says

sent_status : (s : ℕ) (x y : PathAnswer) → s ≡ 200 → by_status s x y ≡ x
sent_status s x y is = rw is refl

same_status : (s : ℕ) (x y : PathAnswer) → s ≡ 304 → by_status s x y ≡ y
same_status s x y is = rw is refl

not_both : (s : ℕ) → s ≡ 304 → s ≡ 200 → ⊥
not_both s a b = omega (arith, a, b)

one_says : (o : Option WireAnswer) (asked after : ℕ) (old new : List Step) → LeavesFile o asked after old new → IsSomeAnd o IsKeptAnswer → CountStayed asked after → file_answer (reads new) ≡ answer_of (file_answer (reads old)) o
one_says None asked after old new leaves kept stayed = absurd kept
one_says (Some a) asked after old new leaves (inl same) stayed =
    let unchanged : new ≡ old = leaves.unstored (λ store. not_both a.status same store.sent) in
    ap (λ (s : List Step). file_answer (reads s)) unchanged ∙ sym (same_status a.status (body_answer a.body) (file_answer (reads old)) same)
one_says (Some a) asked after old new leaves (inr store) stayed =
    let stored = leaves.stored store.0 stayed in
    ap file_answer stored.whole ∙ entry_says a store.0 store.1 ∙ sym (sent_status a.status (body_answer a.body) (file_answer (reads old)) store.0.sent)

found_case : (old new : Disk) (b : Bool) (q : List ℕ) (e k : Exchange) (o : Option Exchange) → bytes_eq e.path q ≡ b → file_answer (reads (new (index_file e.path))) ≡ answer_of (file_answer (reads (old (index_file e.path)))) e.answer
    → (o ≡ Some k → file_answer (reads (new (index_file q))) ≡ answer_of (file_answer (reads (old (index_file q)))) k.answer) → cond b (Some e) o ≡ Some k
    → file_answer (reads (new (index_file q))) ≡ answer_of (file_answer (reads (old (index_file q)))) k.answer
found_case old new true q e k o tests mine more is =
    let same : e ≡ k = cc in
    let P : List ℕ → Type 0 = λ p. file_answer (reads (new (index_file p))) ≡ answer_of (file_answer (reads (old (index_file p)))) e.answer in
    subst (λ (x : Exchange). file_answer (reads (new (index_file q))) ≡ answer_of (file_answer (reads (old (index_file q)))) x.answer) same (subst P (same_bytes e.path q tests) mine)
found_case old new false q e k o tests mine more is = more is

found_says : (old new : Disk) (q : List ℕ) (es : List Exchange) (ts : List Turn) (k : Exchange) → TurnsNameAndLeave old new es ts → AreKeptAnswers es → AreStayed ts → exchange_of q es ≡ Some k
    → file_answer (reads (new (index_file q))) ≡ answer_of (file_answer (reads (old (index_file q)))) k.answer
found_says old new q [] ts k turned kept stayed is = cc
found_says old new q (e ∷ es) [] k turned kept stayed is = absurd turned
found_says old new q (e ∷ es) (t ∷ ts) k turned kept stayed is =
    found_case old new (bytes_eq e.path q) q e k _ refl (one_says e.answer t.disk_asked t.disk_after (old (index_file e.path)) (new (index_file e.path)) turned.0.leaves kept.0 stayed.0)
    (found_says old new q es ts k turned.1 kept.1 stayed.1) is

-- ---- one verdict

online_verdict : (old new : Disk) (q : List ℕ) (es : List Exchange) (ts : List Turn) (version : List ℕ) (v : Verdict) (o : Option Exchange) → TurnsNameAndLeave old new es ts → AreKeptAnswers es → AreStayed ts → exchange_of q es ≡ o
    → IsSomeAnd o (λ e. (IsNotModified e.answer → Unit {0}) → IsVerdictByAnswer e (reads (old (index_file q))) version v) → CountRoseFor ts q v → v ≡ verdict_by (file_answer (reads (new (index_file q)))) version
online_verdict old new q es ts version v None turned kept stayed at is caused = absurd is
online_verdict old new q es ts version v (Some e) turned kept stayed at is caused = let said = is (λ n. tt) in go said.0 said.1 said.2
  where
    go : (a : PathAnswer) → IsAnswer (reads (old (index_file q))) e.answer a → v ≡ verdict_by a version → v ≡ verdict_by (file_answer (reads (new (index_file q)))) version
    go a (inl same) judged = judged ∙ ap (λ (x : PathAnswer). verdict_by x version) (same ∙ sym (found_says old new q es ts e turned kept stayed at))
    go a (inr store) judged =
        let is_store : v ≡ Unchecked cause.Store = judged ∙ ap (λ (x : PathAnswer). verdict_by x version) store.1 in
        absurd (never_rose q ts (turn_of q ts) stayed refl (caused.store is_store))

offline_verdict : (file : File) (q : List ℕ) (us : List Turn) (version : List ℕ) (w : Verdict) (o : Option Turn) → AreStayed us → turn_of q us ≡ o → IsSomeAnd o (λ u. Unit {0} → IsFileVerdict file u version w) → w ≡ verdict_by (file_answer file) version
offline_verdict file q us version w None stayed at is = absurd is
offline_verdict file q us version w (Some u) stayed at is = let said = is tt in go said.0 said.1 said.2
  where
    go : (a : PathAnswer) → IsFileAnswer file u a → w ≡ verdict_by a version → w ≡ verdict_by (file_answer file) version
    go a (inl same) judged = judged ∙ ap (λ (x : PathAnswer). verdict_by x version) same
    go a (inr store) judged = absurd (stayed_quiet u.disk_asked u.disk_after (stayed_turn q us u stayed at) store.0)

one_verdict : (old new : Disk) (es : List Exchange) (ts us : List Turn) (version : List ℕ) (o : Option (List ℕ)) (v w : Verdict) → TurnsNameAndLeave old new es ts → AreKeptAnswers es → AreStayed ts → AreStayed us
    → IsVerdictByAnswerAt (Unit {0}) (λ q. reads (old (index_file q))) es version o v → IsCausedAt ts version o v → IsVerdictByCacheAt (Unit {0}) (λ q. reads (new (index_file q))) us version o w → w ≡ v
one_verdict old new es ts us version None v w turned kept stayed stayed_too is caused too = too ∙ sym is
one_verdict old new es ts us version (Some q) v w turned kept stayed stayed_too is caused too =
    offline_verdict (reads (new (index_file q))) q us version w (turn_of q us) stayed_too refl too ∙ sym (online_verdict old new q es ts version v (exchange_of q es) turned kept stayed refl is caused)

all_same : (old new : Disk) (es : List Exchange) (ts us : List Turn) (ps : List (ℕ × Package)) (js ks : List Judged) → TurnsNameAndLeave old new es ts → AreKeptAnswers es → AreStayed ts → AreStayed us
    → AreVerdicts (IsVerdictByAnswerAt (Unit {0}) (λ q. reads (old (index_file q))) es) ps js → AreVerdicts (IsCausedAt ts) ps js → AreVerdicts (IsVerdictByCacheAt (Unit {0}) (λ q. reads (new (index_file q))) us) ps ks → ks ≡ js
all_same old new es ts us [] [] [] turned kept stayed stayed_too h c k = refl
all_same old new es ts us [] [] (x ∷ ks) turned kept stayed stayed_too h c k = absurd k
all_same old new es ts us [] (j ∷ js) ks turned kept stayed stayed_too h c k = absurd h
all_same old new es ts us (p ∷ ps) [] ks turned kept stayed stayed_too h c k = absurd h
all_same old new es ts us (p ∷ ps) (j ∷ js) [] turned kept stayed stayed_too h c k = absurd k
all_same old new es ts us (p ∷ ps) (j ∷ js) (x ∷ ks) turned kept stayed stayed_too h c k =
    let place : x.«package» ≡ j.«package» = k.0 ∙ sym h.0 in
    let verdict : x.verdict ≡ j.verdict = one_verdict old new es ts us p.1.version (path p.1.name) j.verdict x.verdict turned kept stayed stayed_too h.1 c.1 k.1 in
    let one : x ≡ j = λ i. record { «package» = place i; verdict = verdict i } in
    ap (λ (y : Judged). y ∷ ks) one ∙ ap (λ (ys : List Judged). j ∷ ys) (all_same old new es ts us ps js ks turned kept stayed stayed_too h.2 c.2 k.2)

-- ---- whole audits

pub audits_repeat : (auditor : Auditor) (text : List ℕ) (began mid ended : Moment) (added : List Exchange) (audited again : Audited) → auditor.checks ≡ Online → IsAuditOf auditor (Unit {0}) (Unit {0}) began mid text audited
    → IsAuditOf (record auditor { checks = Offline }) (Unit {0}) (Unit {0}) mid ended text again → mid.exchanges ≡ began.exchanges ++ added → AreKeptAnswers added
    → CountStayed began.disk_faults mid.disk_faults → CountStayed mid.disk_faults ended.disk_faults
    → (again.verdicts ≡ audited.verdicts) × (again.report ≡ audited.report) × (again.exit ≡ audited.exit)
audits_repeat auditor text began mid ended added audited again online one two follow kept quiet quiet_too =
    let packages : again.lockfile ≡ audited.lockfile = let a = one.lockfile in let b = two.lockfile in cc (a, b) in
    let adds = one.says.audited online tt in
    let same : added ≡ adds.0 = cancel began.exchanges added adds.0 (sym follow ∙ adds.1) in
    let mine : AreKeptAnswers adds.0 = subst AreKeptAnswers same kept in
    let stayed : AreStayed audited.turns = chain_stayed began.wire_faults began.disk_faults audited.turns mid.wire_faults mid.disk_faults one.says.counted.counts quiet.0 quiet.1 in
    let stayed_too : AreStayed again.turns = chain_stayed mid.wire_faults mid.disk_faults again.turns ended.wire_faults ended.disk_faults two.says.counted.counts quiet_too.0 quiet_too.1 in
    let J : Checks → Type 0 = λ c. AreVerdicts (IsVerdictByAnswerAt (Unit {0}) (λ q. reads (began.files (index_file q))) adds.0) (judged_of c audited.lockfile) audited.verdicts in
    let judged : J Offline = subst J online adds.2.judged in
    let C : Checks → Type 0 = λ c. AreVerdicts (IsCausedAt audited.turns) (judged_of c audited.lockfile) audited.verdicts in
    let caused : C Offline = subst C online one.says.caused in
    let R : List Package → Type 0 = λ ps. AreVerdicts (IsVerdictByCacheAt (Unit {0}) (λ q. reads (mid.files (index_file q))) again.turns) (judged_of Offline ps) again.verdicts in
    let recalled : R audited.lockfile = subst R packages (two.says.recalled refl).judged in
    let verdicts : again.verdicts ≡ audited.verdicts = all_same began.files mid.files adds.0 audited.turns again.turns (judged_of Offline audited.lockfile) audited.verdicts again.verdicts (adds.2.turned tt) mine stayed stayed_too judged caused recalled in
    let report : again.report ≡ audited.report = two.report ∙ ap (λ (ps : List Package). audit_report auditor ps again.verdicts) packages ∙ ap (λ (js : List Judged). audit_report auditor audited.lockfile js) verdicts ∙ sym one.report in
    let exit : again.exit ≡ audited.exit = two.exit ∙ ap (λ (r : Rattle.audit_advisory.specs.declared.reports.Report.Report). audit_exit auditor r) report ∙ sym one.exit in
    (verdicts, report, exit)
