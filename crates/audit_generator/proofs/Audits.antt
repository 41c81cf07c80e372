-- The two audits, from what an audit of a text says.
use Rattle.std.proofs.Common.{◌≡◌, ℕ, ◌<◌, ◌^◌, true, List, [], ◌∷◌, ◌++◌, map, Some, None, Result, Ok, refl, sym, ap, ◌∙◌, subst, inl, inr, arith}
use Rattle.std.specs.List.{range_with_len}
use Rattle.tame_entry.specs.ServerMaps.{ServerMap}
use Rattle.tame_entry.specs.declared.revisions.OwnedRevision.TheVariants.{Etag}
use Rattle.tame_cache.specs.Disk.{Step, may_leave, reads}
use Rattle.tame_cache.specs.Kept.{Disk, IsKept, cache_file}
use Rattle.tame_cache.proofs.KeptLemmas.{empty_kept, kept_after}
use Rattle.tame_sparse.specs.Exchanges.{crates_io_index, crates_io_uri}
use Rattle.tame_sparse.specs.Honest.{AreHonest, IsHonest}
use Rattle.tame_sparse.specs.Serving.{AreServed, exchange_of, have_honest_tags, map_of}
use Rattle.tame_sparse.proofs.HonestServing.{exchange_honest}
use Rattle.tame_sparse.specs.declared.network.Exchange.{Exchange}
use Rattle.tame_sparse.specs.declared.network.Request.{Request}
use Rattle.tame_sparse.specs.declared.serving.Held.{Held}
use Rattle.audit_lock.specs.Locked.{locked}
use Rattle.audit_lock.specs.declared.resolving.Package.{Package}
use Rattle.audit_core.specs.Alike.{AreAllAlike, IsSoundAudit}
use Rattle.audit_core.specs.Auditors.{audit_exit, audit_report}
use Rattle.audit_core.specs.Audits.{AuditSays, IsAuditOf, Moment, TurnsNameAndLeave}
use Rattle.audit_core.specs.Checks.{asked_of, judged_of}
use Rattle.audit_core.specs.Turns.{StaysKept, index_file}
use Rattle.audit_core.specs.Verdicts.{AreVerdicts, IsVerdictByAnswerAt}
use Rattle.audit_core.specs.declared.auditing.Audited.{Audited}
use Rattle.audit_core.specs.declared.auditors.Auditor.{Auditor}
use Rattle.audit_core.specs.declared.checking.Checks.{Checks}
use Rattle.audit_core.specs.declared.checking.Checks.TheVariants.{Online}
use Rattle.audit_core.specs.declared.verdicts.Judged.{Judged}
use Rattle.audit_core.proofs.Agreeing.{audits_agree}
use Rattle.audit_generator.specs.Packages.{lockfile_text, packages}
use Rattle.audit_generator.specs.Hosted.{etag_at, held_for, hosted, path_at}
use Rattle.audit_generator.specs.Outcomes.{AreStored, SaysOf, confirmed, exchanges_of, sent, turns_of, verdicts_of}
use Rattle.audit_generator.proofs.Asked.{asked_in_order, defaults_numbered, numbered}
use Rattle.audit_generator.proofs.Exchanges.{AllBelow, AreQuiet, all_below, all_confirmed, all_sent, held_here, same_bytes}
use Rattle.audit_generator.proofs.Judged.{all_judged}
use Rattle.audit_generator.proofs.Quiet.{all_quiet, counted_turns, first_stored, second_stored}
use Rattle.audit_generator.proofs.Lines.{AllSmall, numbers_small}
use Rattle.audit_generator.proofs.Resolved.{lockfile_locked}
use Rattle.audit_generator.proofs.Stored.{etag_honest}

-- ---- the packages of an audit of the generated lockfile

ok_same : {A E : Type 0} (r : Result A E) (x y : A) → r ≡ Ok x → r ≡ Ok y → x ≡ y
ok_same r x y one two = cc (one, two)

pub same_packages : (n : ℕ) (text : List ℕ) (ps : List Package) → n < 2 ^ 64 → text ≡ lockfile_text n → locked text ≡ Ok ps → ps ≡ packages n
same_packages n text ps small is read = ok_same (locked text) ps (packages n) read (ap locked is ∙ lockfile_locked n small)

-- what an online audit of these packages says
says_online : (n : ℕ) (auditor : Auditor) (began ended : Moment) (text : List ℕ) (a : Audited) → n < 2 ^ 64 → auditor.checks ≡ Online → text ≡ lockfile_text n → IsAuditOf auditor (Unit {0}) (Unit {0}) began ended text a
    → AuditSays Online (Unit {0}) (Unit {0}) began ended (map path_at (range_with_len 0 n)) (numbered (range_with_len 0 n)) a.turns a.verdicts
says_online n auditor began ended text a small online is audit =
    let here : a.lockfile ≡ packages n = same_packages n text a.lockfile small is audit.lockfile in
    let by_checks = subst (λ (c : Checks). AuditSays c (Unit {0}) (Unit {0}) began ended (asked_of c a.lockfile) (judged_of c a.lockfile) a.turns a.verdicts) online audit.says in
    let by_packages = subst (λ (ps : List Package). AuditSays Online (Unit {0}) (Unit {0}) began ended (asked_of Online ps) (judged_of Online ps) a.turns a.verdicts) here by_checks in
    let by_paths = subst (λ (qs : List (List ℕ)). AuditSays Online (Unit {0}) (Unit {0}) began ended qs (judged_of Online (packages n)) a.turns a.verdicts) (asked_in_order n small) by_packages in
    subst (λ (ps : List (ℕ × Package)). AuditSays Online (Unit {0}) (Unit {0}) began ended (map path_at (range_with_len 0 n)) ps a.turns a.verdicts) (defaults_numbered n) by_paths

-- ---- the first audit

served_back : (held : List Held) (xs ys : List Exchange) → AreServed held (xs ++ ys) → AreServed held ys
served_back held [] ys h = h
served_back held (x ∷ xs) ys h = served_back held xs ys h.1

-- there is no file
abbrev pub IsBare : Disk → Type 0
IsBare files = (q : List ℕ) → files q ≡ []

pub record IsFirst (n : ℕ) (auditor : Auditor) (ended : Moment) (a : Audited) : Type 0 where
  pub exchanges : ended.exchanges ≡ map sent (range_with_len 0 n)
  pub stored : AreStored n ended.files
  pub says : SaysOf n auditor a

says_of : (n : ℕ) (auditor : Auditor) (a : Audited) → a.lockfile ≡ packages n → a.verdicts ≡ verdicts_of n → a.turns ≡ turns_of n → a.report ≡ audit_report auditor a.lockfile a.verdicts → a.exit ≡ audit_exit auditor a.report → SaysOf n auditor a
says_of n auditor a lockfile verdicts turns report exit =
    let made : a.report ≡ audit_report auditor (packages n) (verdicts_of n) = report ∙ ap (λ (ps : List Package). audit_report auditor ps a.verdicts) lockfile ∙ ap (λ (js : List Judged). audit_report auditor (packages n) js) verdicts in
    record {
      lockfile = lockfile;
      verdicts = verdicts;
      turns = turns;
      report = made;
      exit = exit ∙ ap (audit_exit auditor) made;
    }

pub first_done : (n : ℕ) (auditor : Auditor) (began ended : Moment) (text : List ℕ) (a : Audited) → n < 2 ^ 64 → auditor.checks ≡ Online → text ≡ lockfile_text n → IsAuditOf auditor (Unit {0}) (Unit {0}) began ended text a
    → began.exchanges ≡ [] → IsBare began.files → began.wire_faults ≡ 0 → ended.wire_faults ≡ 0 → began.disk_faults ≡ 0 → ended.disk_faults ≡ 0 → AreServed (hosted n) ended.exchanges → IsFirst n auditor ended a
first_done n auditor began ended text a small online is audit none bare whole_before whole_after quiet_before quiet_after served =
    let says = says_online n auditor began ended text a small online is audit in
    let adds = says.audited refl tt in
    let whole : ended.exchanges ≡ adds.0 = adds.1 ∙ ap (λ (xs : List Exchange). xs ++ adds.0) none in
    let mine : AreServed (hosted n) adds.0 = subst (AreServed (hosted n)) whole served in
    let turned = adds.2.turned tt in
    let es : adds.0 ≡ map sent (range_with_len 0 n) = all_sent n (range_with_len 0 n) began.files ended.files adds.0 a.turns small (all_below n) adds.2.asked adds.2.addressed turned mine (λ q. ap reads (bare q)) in
    let quiet : AreQuiet a.turns = all_quiet began.wire_faults began.disk_faults a.turns ended.wire_faults ended.disk_faults says.counted.counts (quiet_after ∙ sym quiet_before) (omega (arith, quiet_before)) in
    let lockfile = same_packages n text a.lockfile small is audit.lockfile in
    let turns : a.turns ≡ turns_of n = counted_turns (range_with_len 0 n) began.wire_faults began.disk_faults a.turns ended.wire_faults ended.disk_faults says.counted.paths says.counted.counts whole_before whole_after quiet_before quiet_after in
    let verdicts : a.verdicts ≡ verdicts_of n = all_judged (Unit {0}) (λ q. reads (began.files (index_file q))) n (range_with_len 0 n) a.verdicts tt small (all_below n) (subst (λ (xs : List Exchange). AreVerdicts (IsVerdictByAnswerAt (Unit {0}) (λ q. reads (began.files (index_file q))) xs) (numbered (range_with_len 0 n)) a.verdicts) es adds.2.judged) in
    record {
      exchanges = whole ∙ es;
      stored = first_stored n began.files ended.files a.turns small (subst (λ (xs : List Exchange). TurnsNameAndLeave began.files ended.files xs a.turns) es turned) quiet;
      says = says_of n auditor a lockfile verdicts turns audit.report audit.exit;
    }

-- ---- the server is honest, and the cache is kept for it

abbrev pub server : ℕ → ServerMap
server n = map_of (hosted n)

tags_honest : (ks : List ℕ) → AllSmall ks → have_honest_tags (map held_for ks) ≡ true
tags_honest [] h = refl
tags_honest (k ∷ ks) h = rw (etag_honest k h.0, tags_honest ks h.1) refl

sent_honest : (n k : ℕ) → n < 2 ^ 64 → k < n → IsHonest (server n) (sent k)
sent_honest n k small below =
    let request : Request = record { uri = crates_io_uri (path_at k); path = path_at k; named = None } in
    let same : exchange_of (hosted n) request ≡ sent k = rw (held_here n k small below) refl in
    subst (IsHonest (server n)) same (exchange_honest (hosted n) request (tags_honest (range_with_len 0 n) (numbers_small n small)))

confirmed_honest : (n k : ℕ) → n < 2 ^ 64 → k < n → IsHonest (server n) (confirmed k)
confirmed_honest n k small below =
    let request : Request = record { uri = crates_io_uri (path_at k); path = path_at k; named = Some (Etag (etag_at k)) } in
    let same : exchange_of (hosted n) request ≡ confirmed k = rw (held_here n k small below, same_bytes (etag_at k)) refl in
    subst (IsHonest (server n)) same (exchange_honest (hosted n) request (tags_honest (range_with_len 0 n) (numbers_small n small)))

all_honest : (n : ℕ) (make : ℕ → Exchange) → ((k : ℕ) → k < n → IsHonest (server n) (make k)) → (ks : List ℕ) → AllBelow n ks → AreHonest (server n) (map make ks)
all_honest n make each [] below = tt
all_honest n make each (k ∷ ks) below = (each k below.0, all_honest n make each ks below.1)

pub sent_are_honest : (n : ℕ) → n < 2 ^ 64 → AreHonest (server n) (map sent (range_with_len 0 n))
sent_are_honest n small = all_honest n sent (λ k below. sent_honest n k small below) (range_with_len 0 n) (all_below n)

confirmed_are_honest : (n : ℕ) → n < 2 ^ 64 → AreHonest (server n) (map confirmed (range_with_len 0 n))
confirmed_are_honest n small = all_honest n confirmed (λ k below. confirmed_honest n k small below) (range_with_len 0 n) (all_below n)

pub bare_kept : (n : ℕ) (files : Disk) → IsBare files → IsKept (server n) crates_io_index [] files
bare_kept n files bare = empty_kept (server n) crates_io_index [] files (λ p is file now. subst (λ (past : List Step). may_leave past file) (bare (cache_file [] p)) now)

-- ---- the second audit

alike : (ks : List ℕ) → AreAllAlike (map confirmed ks) (map sent ks)
alike [] = tt
alike (k ∷ ks) = (record { path = refl; held = refl; answers = inl (inr refl, refl) }, alike ks)

pub record IsSecond (n : ℕ) (auditor : Auditor) (ended : Moment) (a : Audited) : Type 0 where
  pub exchanges : ended.exchanges ≡ exchanges_of n
  pub stored : AreStored n ended.files
  pub says : SaysOf n auditor a

pub second_done : (n : ℕ) (auditor : Auditor) (began middle ended : Moment) (text : List ℕ) (a b : Audited) → n < 2 ^ 64 → auditor.checks ≡ Online → text ≡ lockfile_text n
    → IsAuditOf auditor (Unit {0}) (Unit {0}) began middle text a → IsAuditOf auditor (Unit {0}) (Unit {0}) middle ended text b → began.exchanges ≡ [] → IsBare began.files
    → middle.wire_faults ≡ 0 → ended.wire_faults ≡ 0 → began.disk_faults ≡ 0 → middle.disk_faults ≡ 0 → ended.disk_faults ≡ 0 → StaysKept began.exchanges middle.exchanges began.files middle.files → AreServed (hosted n) ended.exchanges
    → IsFirst n auditor middle a → IsSecond n auditor ended b
second_done n auditor began middle ended text a b small online is audit_a audit_b none bare whole_middle whole_ended quiet_began quiet_middle quiet_ended keeps served first =
    let says = says_online n auditor middle ended text b small online is audit_b in
    let adds = says.audited refl tt in
    let mine : AreServed (hosted n) adds.0 = served_back (hosted n) middle.exchanges adds.0 (subst (AreServed (hosted n)) adds.1 served) in
    let turned = adds.2.turned tt in
    let quiet : AreQuiet b.turns = all_quiet middle.wire_faults middle.disk_faults b.turns ended.wire_faults ended.disk_faults says.counted.counts (quiet_ended ∙ sym quiet_middle) (omega (arith, quiet_middle)) in
    let es : adds.0 ≡ map confirmed (range_with_len 0 n) = all_confirmed n (range_with_len 0 n) middle.files ended.files adds.0 b.turns small (all_below n) adds.2.asked adds.2.addressed turned mine quiet first.stored in
    let before : middle.exchanges ≡ began.exchanges ++ map sent (range_with_len 0 n) = first.exchanges ∙ ap (λ (xs : List Exchange). xs ++ map sent (range_with_len 0 n)) (sym none) in
    let sound_a : IsSoundAudit auditor began middle (map sent (range_with_len 0 n)) text a = record {
      server = server n;
      audit = audit_a;
      follow = before;
      honest = sent_are_honest n small;
      kept = bare_kept n began.files bare;
      disk_faults = (quiet_middle ∙ sym quiet_began, omega (arith, quiet_began));
    } in
    let sound_b : IsSoundAudit auditor middle ended (map confirmed (range_with_len 0 n)) text b = record {
      server = server n;
      audit = audit_b;
      follow = adds.1 ∙ ap (λ (xs : List Exchange). middle.exchanges ++ xs) es;
      honest = confirmed_are_honest n small;
      kept = kept_after (server n) crates_io_index [] began.files middle.files (keeps.kept (server n) (map sent (range_with_len 0 n)) before (sent_are_honest n small) (bare_kept n began.files bare));
      disk_faults = (quiet_ended ∙ sym quiet_middle, omega (arith, quiet_middle));
    } in
    let agree = audits_agree auditor text middle ended began middle (map confirmed (range_with_len 0 n)) (map sent (range_with_len 0 n)) b a online sound_b sound_a (alike (range_with_len 0 n)) in
    let lockfile = same_packages n text b.lockfile small is audit_b.lockfile in
    let turns : b.turns ≡ turns_of n = counted_turns (range_with_len 0 n) middle.wire_faults middle.disk_faults b.turns ended.wire_faults ended.disk_faults says.counted.paths says.counted.counts whole_middle whole_ended quiet_middle quiet_ended in
    record {
      exchanges = adds.1 ∙ ap (λ (xs : List Exchange). xs ++ adds.0) first.exchanges ∙ ap (λ (xs : List Exchange). map sent (range_with_len 0 n) ++ xs) es;
      stored = second_stored n middle.files ended.files b.turns (subst (λ (xs : List Exchange). TurnsNameAndLeave middle.files ended.files xs b.turns) es turned) first.stored;
      says = says_of n auditor b lockfile (agree.0 ∙ first.says.verdicts) turns audit_b.report audit_b.exit;
    }
