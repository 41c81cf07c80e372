-- An offline audit says what the last online audit of its packages saw.
use Rattle.std.proofs.Common.{◌≡◌, ◌⊎◌, inl, inr, ◌≤◌, ◌<◌, ℕ, suc, List, [], ◌∷◌, ◌++◌, length, map, Bool, true, false, cond, IsTrue, Option, Some, None, Ok, Err, refl, sym, ap, ◌∙◌, subst, arith}
use Rattle.std.specs.Prelude.{IsSomeAnd, bytes_eq, flat_map, ◌||◌}
use Rattle.std.proofs.lemmas.Slice.Eq.{bytes_eq-Decides}
use Rattle.tame_names.specs.Counts.{CountStayed}
use Rattle.tame_records.specs.Lines.{lines}
use Rattle.tame_entry.specs.Entry.{pair_bytes, pairs, read_entry}
use Rattle.tame_entry.specs.Lines.{valid}
use Rattle.tame_entry.specs.Revision.{IsRevision}
use Rattle.tame_entry.specs.VersionStatuses.{version_flags}
use Rattle.tame_entry.proofs.EntryLemmas.{body_read, lines_back, plain_valid}
use Rattle.tame_cache.specs.Disk.{File, IsAlone, Step, Synced, left_since, may_leave, reads}
use Rattle.tame_cache.specs.Kept.{Disk, IsCrash}
use Rattle.tame_sparse.specs.Exchanges.{crates_io_index}
use Rattle.tame_sparse.specs.ResponseResults.{IsToStore, entry_of, stored_under}
use Rattle.tame_sparse.specs.declared.network.Exchange.{Exchange}
use Rattle.tame_sparse.specs.declared.network.WireAnswer.{WireAnswer}
use Rattle.audit_lock.specs.declared.resolving.Package.{Package}
use Rattle.audit_core.specs.Answers.{IsNotModified, answer_of, body_answer, by_status, file_answer, read_answer}
use Rattle.audit_core.specs.Audits.{IsAuditOf, IsCausedAt, Moment, TurnsNameAndLeave}
use Rattle.audit_core.specs.Checks.{asked_of, judged_of}
use Rattle.audit_core.specs.Paths.{is_among}
use Rattle.audit_core.specs.Recalled.{IsVerdictByCacheAt}
use Rattle.audit_core.specs.Repeats.{AreKeptAnswers, IsKeptAnswer}
use Rattle.audit_core.specs.Turns.{LeavesFile, index_file}
use Rattle.audit_core.specs.Verdicts.{AreVerdicts, IsVerdictByAnswer, IsVerdictByAnswerAt, exchange_of, turn_of, verdict_by}
use Rattle.audit_core.specs.declared.answers.PathAnswer.{PathAnswer}
use Rattle.audit_core.specs.declared.answers.PathAnswer.TheVariants.{Lines}
use Rattle.audit_core.specs.declared.asking.Turn.{Turn}
use Rattle.audit_core.specs.declared.auditing.Audited.{Audited}
use Rattle.audit_core.specs.declared.auditors.Auditor.{Auditor}
use Rattle.audit_core.specs.declared.checking.Checks.{Checks}
use Rattle.audit_core.specs.declared.checking.Checks.TheVariants.{Online, Offline}
use Rattle.audit_core.specs.declared.verdicts.Verdict.{Verdict}
use Rattle.audit_core.proofs.Exchanged.{cancel}
use Rattle.audit_core.proofs.Lists.{same_bytes}
use Rattle.audit_core.proofs.Sound.{index_whole}
use Rattle.audit_program.specs.LaterRuns.{AreAlone, IsBetween, LeavesFiles}
use Rattle.audit_program.specs.LaterRuns as later
use Rattle.audit_program.proofs.LeftAlike.{AreStayed, chain_stayed}
use Rattle.audit_program.proofs.SaidAlike.{AreQuiet, audit_told, both, came_verdict, file_verdict, not_blamed, quiet_turn, quiet_turns, same_verdicts}

-- ---- what came between

-- a file reads as it did, and nothing is pending of it
record IsStill (start now : List Step) : Type 0 where
  pub reads_same : reads now ≡ reads start
  pub alone : IsAlone now

left_now : (past : List Step) (file : File) → left_since (length past) past file → may_leave past file
left_now [] file h = h
left_now (step ∷ older) file (inl h) = h
left_now (step ∷ older) file (inr h) = let no = h.0 in absurd (omega (arith, no))

still_after : (start began now next : List Step) → IsStill start began → now ≡ began → (file : File) → left_since (length began) now file → next ≡ Synced file ∷ [] → IsStill start next
still_after start began now next h same file left is =
    let was : file ≡ reads began = h.alone file (left_now began file (subst (λ (x : List Step). left_since (length began) x file) same left)) in
    subst (λ (x : List Step). IsStill start x) (sym is) (record { reads_same = was ∙ h.reads_same; alone = λ other only. only })

between_case : (paths : List (List ℕ)) (start began now : Disk) (p : List ℕ) → IsTrue (is_among p paths) → IsAlone (start (index_file p)) → IsBetween paths start began now
    → IsStill (start (index_file p)) (began (index_file p)) × IsStill (start (index_file p)) (now (index_file p))
between_case paths start began now p among alone later.begins = (record { reads_same = refl; alone = alone }, record { reads_same = refl; alone = alone })
between_case paths start began now p among alone (later.calls first mid next earlier leaves) =
    let h = between_case paths start first mid p among alone earlier in
    (h.1, subst (λ (x : List Step). IsStill (start (index_file p)) x) (sym (leaves p among)) h.1)
between_case paths start began now p among alone (later.crashes first mid next earlier leaves crash) =
    let h = between_case paths start first mid p among alone earlier in
    let left = crash (index_file p) in
    let still = still_after (start (index_file p)) (first (index_file p)) (mid (index_file p)) (next (index_file p)) h.0 (leaves p among) left.0 left.1 left.2 in
    (still, still)

-- ---- what the file says after an exchange

entry_says : (a : WireAnswer) → IsToStore crates_io_index a → IsRevision (stored_under a.revision) → file_answer (Some (entry_of crates_io_index a)) ≡ body_answer a.body
entry_says a store revision =
    let read : read_entry crates_io_index (entry_of crates_io_index a) ≡ Ok (record { revision = stored_under a.revision; versions = flat_map pair_bytes (pairs a.body) }) =
    body_read crates_io_index (stored_under a.revision) a.body index_whole revision store.storable store.plain in
    let right : valid a.body ≡ true = plain_valid a.body store.plain in
    let says : Lines (version_flags (lines a.body)) ≡ body_answer a.body = rw right refl in
    ap read_answer read ∙ ap (λ ls. Lines (version_flags ls)) (lines_back a.body store.plain) ∙ says

sent_status : (s : ℕ) (x y : PathAnswer) → s ≡ 200 → by_status s x y ≡ x
sent_status s x y is = rw is refl

same_status : (s : ℕ) (x y : PathAnswer) → s ≡ 304 → by_status s x y ≡ y
same_status s x y is = rw is refl

not_both : (s : ℕ) → s ≡ 304 → s ≡ 200 → ⊥
not_both s a b = omega (arith, a, b)

-- it says what came, and nothing is pending of it if nothing was
record IsCome (came : Option WireAnswer) (old new : List Step) : Type 0 where
  pub says : file_answer (reads new) ≡ answer_of (file_answer (reads old)) came
  pub alone : IsAlone old → IsAlone new

one_come : (o : Option WireAnswer) (asked after : ℕ) (old new : List Step) → LeavesFile o asked after old new → IsSomeAnd o IsKeptAnswer → CountStayed asked after → IsCome o old new
one_come None asked after old new leaves kept stayed = absurd kept
one_come (Some a) asked after old new leaves (inl same) stayed =
    let unchanged : new ≡ old = leaves.unstored (λ store. not_both a.status same store.sent) in
    record {
      says = ap (λ (s : List Step). file_answer (reads s)) unchanged ∙ sym (same_status a.status (body_answer a.body) (file_answer (reads old)) same);
      alone = λ alone. subst (λ (s : List Step). IsAlone s) (sym unchanged) alone;
    }
one_come (Some a) asked after old new leaves (inr store) stayed =
    let stored = leaves.stored store.0 stayed in
    record {
      says = ap file_answer stored.whole ∙ entry_says a store.0 store.1 ∙ sym (sent_status a.status (body_answer a.body) (file_answer (reads old)) store.0.sent);
      alone = λ alone. stored.only;
    }

found_case : (old new : Disk) (b : Bool) (q : List ℕ) (e k : Exchange) (o : Option Exchange) → bytes_eq e.path q ≡ b → IsCome e.answer (old (index_file e.path)) (new (index_file e.path))
    → (o ≡ Some k → IsCome k.answer (old (index_file q)) (new (index_file q))) → cond b (Some e) o ≡ Some k → IsCome k.answer (old (index_file q)) (new (index_file q))
found_case old new true q e k o tests mine more is =
    let same : e ≡ k = cc (is) in
    let P : List ℕ → Type 0 = λ p. IsCome e.answer (old (index_file p)) (new (index_file p)) in
    subst (λ (x : Exchange). IsCome x.answer (old (index_file q)) (new (index_file q))) same (subst P (same_bytes e.path q tests) mine)
found_case old new false q e k o tests mine more is = more is

found_come : (old new : Disk) (q : List ℕ) (es : List Exchange) (ts : List Turn) (k : Exchange) → TurnsNameAndLeave old new es ts → AreKeptAnswers es → AreStayed ts → exchange_of q es ≡ Some k → IsCome k.answer (old (index_file q)) (new (index_file q))
found_come old new q [] ts k turned kept stayed is = cc (is)
found_come old new q (e ∷ es) [] k turned kept stayed is = absurd turned
found_come old new q (e ∷ es) (t ∷ ts) k turned kept stayed is =
    found_case old new (bytes_eq e.path q) q e k _ refl (one_come e.answer t.disk_asked t.disk_after (old (index_file e.path)) (new (index_file e.path)) turned.0.leaves kept.0 stayed.0.1)
    (found_come old new q es ts k turned.1 kept.1 stayed.1) is

-- a path with an exchange is one of the paths
among_case : (b : Bool) (q : List ℕ) (e k : Exchange) (o : Option Exchange) (rest : Bool) → (o ≡ Some k → IsTrue rest) → cond b (Some e) o ≡ Some k → IsTrue (b || rest)
among_case true q e k o rest more is = refl
among_case false q e k o rest more is = more is

found_among : (q : List ℕ) (es : List Exchange) (k : Exchange) → exchange_of q es ≡ Some k → IsTrue (is_among q (map (λ (e : Exchange). e.path) es))
found_among q [] k is = cc (is)
found_among q (e ∷ es) k is = among_case (bytes_eq e.path q) q e k (exchange_of q es) (is_among q (map (λ (x : Exchange). x.path) es)) (found_among q es k) is

-- ---- the verdicts

pub later_verdicts : (auditor auditor_too : Auditor) (wire disk wire_too disk_too : Type 0) (b e later done : Moment) (text text_too : List ℕ) (a again : Audited) (added : List Exchange) (began : Disk) → wire → disk → wire_too → disk_too
    → auditor.checks ≡ Online → auditor_too.checks ≡ Offline → IsAuditOf auditor wire disk b e text a → IsAuditOf auditor_too wire_too disk_too later done text_too again
    → e.exchanges ≡ b.exchanges ++ added → AreKeptAnswers added → CountStayed b.disk_faults e.disk_faults → CountStayed later.disk_faults done.disk_faults
    → AreAlone (asked_of Online a.lockfile) b.files → IsBetween (asked_of Online a.lockfile) e.files began later.files → again.lockfile ≡ a.lockfile → again.verdicts ≡ a.verdicts
later_verdicts auditor auditor_too wire disk wire_too disk_too b e next done text text_too a again added began w d w2 d2 online offline h k follow kept stayed stayed_too alone between packages =
    let one = (audit_told auditor wire disk b e text a w d h).says.audited online tt in
    let two = (audit_told auditor_too wire_too disk_too next done text_too again w2 d2 k).says.recalled offline in
    let mine : one.0 ≡ added = cancel b.exchanges one.0 added (sym one.1 ∙ follow) in
    let quiet = quiet_turns auditor wire disk b e text a h stayed in
    let quiet_too = quiet_turns auditor_too wire_too disk_too next done text_too again k stayed_too in
    let turns = chain_stayed b.wire_faults b.disk_faults a.turns e.wire_faults e.disk_faults h.says.counted.counts stayed in
    let files : List ℕ → File = λ q. reads (b.files (index_file q)) in
    let recalled : List ℕ → File = λ q. reads (next.files (index_file q)) in
    let J : Checks → Type 0 = λ c. AreVerdicts (IsVerdictByAnswerAt (Unit {0}) files one.0) (judged_of c a.lockfile) a.verdicts in
    let C : Checks → Type 0 = λ c. AreVerdicts (IsCausedAt a.turns) (judged_of c a.lockfile) a.verdicts in
    let R : Checks → Type 0 = λ c. AreVerdicts (IsVerdictByCacheAt (Unit {0}) recalled again.turns) (judged_of c again.lockfile) again.verdicts in
    let S : List Package → Type 0 = λ ps. AreVerdicts (IsVerdictByCacheAt (Unit {0}) recalled again.turns) (judged_of Offline ps) again.verdicts in
    let first = both (IsVerdictByAnswerAt (Unit {0}) files one.0) (IsCausedAt a.turns) (judged_of Online a.lockfile) a.verdicts (subst J online one.2.judged) (subst C online h.says.caused) in
    let asked : map (λ (x : Exchange). x.path) one.0 ≡ asked_of Online a.lockfile = one.2.asked ∙ ap (λ (c : Checks). asked_of c a.lockfile) online in
    let keeps : AreKeptAnswers one.0 = subst AreKeptAnswers (sym mine) kept in
    let same : (q : List ℕ) (x : Exchange) → exchange_of q one.0 ≡ Some x → file_answer (recalled q) ≡ answer_of (file_answer (files q)) x.answer = λ q x is.
    let come = found_come b.files e.files q one.0 a.turns x (one.2.turned tt) keeps turns is in
    let among : IsTrue (is_among q (asked_of Online a.lockfile)) = subst (λ (ps : List (List ℕ)). IsTrue (is_among q ps)) asked (found_among q one.0 x is) in
    let still = between_case (asked_of Online a.lockfile) e.files began next.files q among (come.alone (alone q among)) between in
    ap file_answer still.1.reads_same ∙ come.says in
    sym (same_verdicts (λ v o x. IsVerdictByAnswerAt (Unit {0}) files one.0 v o x × IsCausedAt a.turns v o x) (IsVerdictByCacheAt (Unit {0}) recalled again.turns) (judged_of Offline a.lockfile) a.verdicts again.verdicts
    (λ version o v u is too. one_later files recalled one.0 a.turns again.turns version o v u quiet quiet_too same is too) first (subst S packages (subst R offline two.judged)))
  where
    one_later : (files recalled : List ℕ → File) (es : List Exchange) (ts us : List Turn) (version : List ℕ) (o : Option (List ℕ)) (v u : Verdict)
        → AreQuiet ts → AreQuiet us → ((q : List ℕ) (x : Exchange) → exchange_of q es ≡ Some x → file_answer (recalled q) ≡ answer_of (file_answer (files q)) x.answer)
        → IsVerdictByAnswerAt (Unit {0}) files es version o v × IsCausedAt ts version o v → IsVerdictByCacheAt (Unit {0}) recalled us version o u → v ≡ u
    one_later files recalled es ts us version None v u quiet quiet_too same is too = is.0 ∙ sym too
    one_later files recalled es ts us version (Some q) v u quiet quiet_too same is too = go (exchange_of q es) refl is.0
      where
        go : (oe : Option Exchange) → exchange_of q es ≡ oe → IsSomeAnd oe (λ e. (IsNotModified e.answer → Unit {0}) → IsVerdictByAnswer e (files q) version v) → v ≡ u
        go None at says = absurd says
        go (Some e) at says =
            came_verdict e (files q) version v (not_blamed ts q v quiet is.1) (says (λ x. tt)) ∙ ap (λ (x : PathAnswer). verdict_by x version) (sym (same q e at))
            ∙ sym (file_verdict (recalled q) (turn_of q us) version u (λ x on. quiet_turn q us x quiet_too on) too)
