-- Audits of one lockfile's text that say the same.
use Rattle.std.proofs.Common.{◌≡◌, inl, inr, ◌≤◌, ◌<◌, ℕ, List, [], ◌∷◌, ◌++◌, Bool, true, false, cond, Option, Some, None, refl, sym, ap, ◌∙◌, subst, arith}
use Rattle.std.specs.Prelude.{IsSomeAnd, bytes_eq, ◌-◌, ◌^◌}
use Rattle.tame_names.specs.Counts.{CountRose, CountStayed}
use Rattle.tame_names.specs.Names.{path}
use Rattle.tame_cache.specs.Disk.{File, reads}
use Rattle.tame_sparse.specs.declared.network.Exchange.{Exchange}
use Rattle.audit_lock.specs.declared.resolving.Package.{Package}
use Rattle.audit_advisory.specs.declared.reports.Report.{Report}
use Rattle.audit_program.specs.AgreeingRuns.{AreAllSame, AreSame}
use Rattle.audit_core.specs.Answers.{IsNotModified, file_answer}
use Rattle.audit_core.specs.Alike.{AreAllAlike, IsSoundAudit}
use Rattle.audit_core.specs.Auditors.{audit_exit, audit_report}
use Rattle.audit_core.specs.Audits.{IsAuditOf, Moment}
use Rattle.audit_core.specs.Checks.{judged_of}
use Rattle.audit_core.specs.Recalled.{IsFileAnswer, IsFileVerdict, IsVerdictByCacheAt}
use Rattle.audit_core.specs.Turns.{Chains, index_file}
use Rattle.audit_core.specs.Verdicts.{AreVerdicts, IsVerdictByAnswer, IsVerdictByAnswerAt, exchange_of, turn_of, verdict_by}
use Rattle.audit_core.specs.declared.answers.PathAnswer.{PathAnswer}
use Rattle.audit_core.specs.declared.asking.Turn.{Turn}
use Rattle.audit_core.specs.declared.auditing.Audited.{Audited}
use Rattle.audit_core.specs.declared.auditors.Auditor.{Auditor}
use Rattle.audit_core.specs.declared.checking.Checks.TheVariants.{Online, Offline, Off}
use Rattle.audit_core.specs.declared.verdicts.Judged.{Judged}
use Rattle.audit_core.specs.declared.verdicts.Verdict.{Verdict}
use Rattle.audit_core.specs.declared.verdicts.Verdict.TheVariants.{Unchecked}
use Rattle.audit_core.specs.declared.verdicts.Cause.TheVariants as cause
use Rattle.audit_core.specs.Audits.{CountRoseFor, IsCausedAt}
use Rattle.audit_core.specs.Answers.{answer_of}
use Rattle.tame_sparse.specs.declared.network.WireAnswer.{WireAnswer}
use Rattle.upgrade_plan.specs.HeldPlans.{IsHonestServing}
use Rattle.audit_core.proofs.Agreeing.{audits_agree}
use Rattle.audit_core.proofs.Exchanged.{cancel}

-- ---- what is said if wire and disk are told

some_and : {T : Type 0} (P Q : T → Type 0) (o : Option T) → ((x : T) → P x → Q x) → IsSomeAnd o P → IsSomeAnd o Q
some_and P Q None f h = absurd h
some_and P Q (Some x) f h = f x h

all_verdicts : (P Q : List ℕ → Option (List ℕ) → Verdict → Type 0) (ps : List (ℕ × Package)) (js : List Judged) → ((v : List ℕ) (o : Option (List ℕ)) (w : Verdict) → P v o w → Q v o w)
    → AreVerdicts P ps js → AreVerdicts Q ps js
all_verdicts P Q [] [] f h = tt
all_verdicts P Q [] (j ∷ js) f h = absurd h
all_verdicts P Q (p ∷ ps) [] f h = absurd h
all_verdicts P Q (p ∷ ps) (j ∷ js) f h = (h.0, f p.1.version (path p.1.name) j.verdict h.1, all_verdicts P Q ps js f h.2)

answer_told : (told : Type 0) (files : List ℕ → File) (es : List Exchange) (v : List ℕ) (o : Option (List ℕ)) (w : Verdict) → told → IsVerdictByAnswerAt told files es v o w → IsVerdictByAnswerAt (Unit {0}) files es v o w
answer_told told files es v None w tells h = h
answer_told told files es v (Some q) w tells h =
    some_and (λ e. (IsNotModified e.answer → told) → IsVerdictByAnswer e (files q) v w) (λ e. (IsNotModified e.answer → Unit {0}) → IsVerdictByAnswer e (files q) v w)
    (exchange_of q es) (λ e says not_modified. says (λ is. tells)) h

cache_told : (told : Type 0) (files : List ℕ → File) (ts : List Turn) (v : List ℕ) (o : Option (List ℕ)) (w : Verdict) → told → IsVerdictByCacheAt told files ts v o w → IsVerdictByCacheAt (Unit {0}) files ts v o w
cache_told told files ts v None w tells h = h
cache_told told files ts v (Some q) w tells h =
    some_and (λ t. told → IsFileVerdict (files q) t v w) (λ t. Unit {0} → IsFileVerdict (files q) t v w) (turn_of q ts) (λ t says x. says tells) h

-- what a read of the file of each path gives at a moment
abbrev read_from : Moment → List ℕ → File
read_from m q = reads (m.files (index_file q))

pub audit_told : (auditor : Auditor) (wire disk : Type 0) (began ended : Moment) (text : List ℕ) (a : Audited) → wire → disk → IsAuditOf auditor wire disk began ended text a
    → IsAuditOf auditor (Unit {0}) (Unit {0}) began ended text a
audit_told auditor wire disk began ended text a w d h = record {
  lockfile = h.lockfile;
  report = h.report;
  placed = h.placed;
  exit = h.exit;
  says = record {
    headline = λ online x y. h.says.headline online w d;
    audited = λ online x. let whole = h.says.audited online w in (
      whole.0,
      whole.1,
      record {
        asked = whole.2.asked;
        addressed = whole.2.addressed;
        judged = all_verdicts (IsVerdictByAnswerAt disk (read_from began) whole.0) (IsVerdictByAnswerAt (Unit {0}) (read_from began) whole.0) (judged_of auditor.checks a.lockfile) a.verdicts
            (λ v o k says. answer_told disk (read_from began) whole.0 v o k d says) whole.2.judged;
        turned = λ y. whole.2.turned d;
        others = λ y. whole.2.others d;
      },
    );
    recalled = λ offline. let whole = h.says.recalled offline in record {
      judged = all_verdicts (IsVerdictByCacheAt disk (read_from began) a.turns) (IsVerdictByCacheAt (Unit {0}) (read_from began) a.turns) (judged_of auditor.checks a.lockfile) a.verdicts
          (λ v o k says. cache_told disk (read_from began) a.turns v o k d says) whole.judged;
      unasked = whole.unasked;
    };
    counted = h.says.counted;
    caused = h.says.caused;
    failed = record {
      exchanged = λ online x y. h.says.failed.exchanged online w d;
      asked = λ online y. h.says.failed.asked online d;
      read = h.says.failed.read;
      off = h.says.failed.off;
    };
  };
  off = h.off;
}

-- ---- quiet turns

abbrev pub AreQuiet : List Turn → Type 0
AreQuiet [] = Unit {0}
AreQuiet (t ∷ ts) = (CountRose t.disk_asked t.disk_after → ⊥) × AreQuiet ts

chain_grows : (wire disk : ℕ) (ts : List Turn) (last_wire last_disk : ℕ) → Chains wire disk ts last_wire last_disk → disk ≤ last_disk
chain_grows wire disk [] last_wire last_disk h = let same = h.1 in omega (arith, same)
chain_grows wire disk (t ∷ ts) last_wire last_disk h =
    let more = chain_grows t.wire_after t.disk_after ts last_wire last_disk h.5 in
    let a = h.2 in
    let b = h.3 in
    let c = h.4 in
    omega (arith, more, a, b, c)

not_rose : (asked after last : ℕ) → asked ≤ after → after ≤ last → last ≤ asked → last < 2 ^ 64 - 1 → CountRose asked after → ⊥
not_rose asked after last a b c low rose = omega (arith, a, b, c, low, rose)

chain_quiet : (wire disk : ℕ) (ts : List Turn) (last_wire last_disk : ℕ) → Chains wire disk ts last_wire last_disk → last_disk ≡ disk → disk < 2 ^ 64 - 1 → AreQuiet ts
chain_quiet wire disk [] last_wire last_disk h same low = tt
chain_quiet wire disk (t ∷ ts) last_wire last_disk h same low =
    let more : t.disk_after ≤ last_disk = chain_grows t.wire_after t.disk_after ts last_wire last_disk h.5 in
    let begins : t.disk_before ≡ disk = h.2 in
    let asked : t.disk_before ≤ t.disk_asked = h.3 in
    let after : t.disk_asked ≤ t.disk_after = h.4 in
    let under : last_disk ≤ t.disk_asked = omega (arith, same, begins, asked) in
    let end : last_disk < 2 ^ 64 - 1 = omega (arith, same, low) in
    let rest : last_disk ≡ t.disk_after = omega (arith, more, under, after) in
    let below : t.disk_after < 2 ^ 64 - 1 = omega (arith, rest, end) in
    (not_rose t.disk_asked t.disk_after last_disk after more under end, chain_quiet t.wire_after t.disk_after ts last_wire last_disk h.5 rest below)

turn_case : (b : Bool) (t u : Turn) (o : Option Turn) → (CountRose t.disk_asked t.disk_after → ⊥) → (o ≡ Some u → CountRose u.disk_asked u.disk_after → ⊥) → cond b (Some t) o ≡ Some u → CountRose u.disk_asked u.disk_after → ⊥
turn_case true t u o mine f is = let same : t ≡ u = cc in subst (λ (k : Turn). CountRose k.disk_asked k.disk_after → ⊥) same mine
turn_case false t u o mine f is = f is

pub quiet_turn : (q : List ℕ) (ts : List Turn) (u : Turn) → AreQuiet ts → turn_of q ts ≡ Some u → CountRose u.disk_asked u.disk_after → ⊥
quiet_turn q [] u quiet is = cc
quiet_turn q (t ∷ ts) u quiet is = turn_case (bytes_eq t.path q) t u _ quiet.0 (quiet_turn q ts u quiet.1) is

-- no call on the disk failed in any of the turns
pub quiet_turns : (auditor : Auditor) (wire disk : Type 0) (began ended : Moment) (text : List ℕ) (a : Audited) → IsAuditOf auditor wire disk began ended text a → CountStayed began.disk_faults ended.disk_faults
    → AreQuiet a.turns
quiet_turns auditor wire disk began ended text a h stayed =
    chain_quiet began.wire_faults began.disk_faults a.turns ended.wire_faults ended.disk_faults h.says.counted.counts stayed.0 stayed.1

-- ---- verdicts by the cache alone

-- what a file says, if it could be read
pub file_verdict : (file : File) (o : Option Turn) (version : List ℕ) (v : Verdict) → ((t : Turn) → o ≡ Some t → CountRose t.disk_asked t.disk_after → ⊥) → IsSomeAnd o (λ t. Unit {0} → IsFileVerdict file t version v)
    → v ≡ verdict_by (file_answer file) version
file_verdict file None version v quiet is = absurd is
file_verdict file (Some t) version v quiet is = go (is tt).0 (is tt).1 (is tt).2
  where
    go : (a : PathAnswer) → IsFileAnswer file t a → v ≡ verdict_by a version → v ≡ verdict_by (file_answer file) version
    go a (inl same) is = is ∙ ap (λ (x : PathAnswer). verdict_by x version) same
    go a (inr store) is = absurd (quiet t refl store.0)

one_recalled : (files files_too : List ℕ → File) (ts us : List Turn) (version : List ℕ) (o : Option (List ℕ)) (v w : Verdict) → ((q : List ℕ) → files q ≡ files_too q) → AreQuiet ts → AreQuiet us
    → IsVerdictByCacheAt (Unit {0}) files ts version o v → IsVerdictByCacheAt (Unit {0}) files_too us version o w → v ≡ w
one_recalled files files_too ts us version None v w same quiet quiet_too is too = is ∙ sym too
one_recalled files files_too ts us version (Some q) v w same quiet quiet_too is too =
    file_verdict (files q) (turn_of q ts) version v (λ x at. quiet_turn q ts x quiet at) is
    ∙ ap (λ (f : File). verdict_by (file_answer f) version) (same q)
    ∙ sym (file_verdict (files_too q) (turn_of q us) version w (λ x at. quiet_turn q us x quiet_too at) too)

-- verdicts of the same packages that are one by one the same
pub same_verdicts : (P Q : List ℕ → Option (List ℕ) → Verdict → Type 0) (ps : List (ℕ × Package)) (js ks : List Judged) → ((version : List ℕ) (o : Option (List ℕ)) (v w : Verdict) → P version o v → Q version o w → v ≡ w)
    → AreVerdicts P ps js → AreVerdicts Q ps ks → js ≡ ks
same_verdicts P Q [] [] [] f h k = refl
same_verdicts P Q [] [] (x ∷ ks) f h k = absurd k
same_verdicts P Q [] (j ∷ js) ks f h k = absurd h
same_verdicts P Q (p ∷ ps) [] ks f h k = absurd h
same_verdicts P Q (p ∷ ps) (j ∷ js) [] f h k = absurd k
same_verdicts P Q (p ∷ ps) (j ∷ js) (x ∷ ks) f h k =
    let place : j.«package» ≡ x.«package» = h.0 ∙ sym k.0 in
    let verdict : j.verdict ≡ x.verdict = f p.1.version (path p.1.name) j.verdict x.verdict h.1 k.1 in
    let one : j ≡ x = λ i. record { «package» = place i; verdict = verdict i } in
    ap (λ (y : Judged). y ∷ js) one ∙ ap (λ (ys : List Judged). x ∷ ys) (same_verdicts P Q ps js ks f h.2 k.2)

-- ---- audits that say the same

-- the same packages, the same verdicts, the same report and the same exit: all but the turns
pub record SaysSame (a b : Audited) : Type 0 where
  pub lockfile : a.lockfile ≡ b.lockfile
  pub verdicts : a.verdicts ≡ b.verdicts
  pub report : a.report ≡ b.report
  pub exit : a.exit ≡ b.exit

-- with the turns of one of them they are one
pub same_but_turns : (a b : Audited) → SaysSame a b → record a { turns = b.turns } ≡ b
same_but_turns a b h = λ i. record { lockfile = h.lockfile i; report = h.report i; verdicts = h.verdicts i; turns = b.turns; exit = h.exit i }

-- two audits of one lockfile's text by one auditor with the same verdicts say the same
pub says_same : (auditor : Auditor) (wire disk wire_too disk_too : Type 0) (b e b2 e2 : Moment) (text : List ℕ) (a a2 : Audited) → IsAuditOf auditor wire disk b e text a → IsAuditOf auditor wire_too disk_too b2 e2 text a2
    → (a.lockfile ≡ a2.lockfile → a.verdicts ≡ a2.verdicts) → SaysSame a a2
says_same auditor wire disk wire_too disk_too b e b2 e2 text a a2 h k verdicts_by =
    let packages : a.lockfile ≡ a2.lockfile = let one = h.lockfile in let two = k.lockfile in cc (one, two) in
    let verdicts = verdicts_by packages in
    let report : a.report ≡ a2.report = h.report ∙ ap (λ (ps : List Package). audit_report auditor ps a.verdicts) packages ∙ ap (λ (js : List Judged). audit_report auditor a2.lockfile js) verdicts ∙ sym k.report in
    let exit : a.exit ≡ a2.exit = h.exit ∙ ap (λ (r : Report). audit_exit auditor r) report ∙ sym k.exit in
    record { lockfile = packages; verdicts = verdicts; report = report; exit = exit }

-- if checks are off
pub off_same : (auditor : Auditor) (wire disk wire_too disk_too : Type 0) (b e b2 e2 : Moment) (text : List ℕ) (a a2 : Audited) → auditor.checks ≡ Off
    → IsAuditOf auditor wire disk b e text a → IsAuditOf auditor wire_too disk_too b2 e2 text a2 → SaysSame a a2
off_same auditor wire disk wire_too disk_too b e b2 e2 text a a2 off h k =
    says_same auditor wire disk wire_too disk_too b e b2 e2 text a a2 h k (λ packages. (h.off off).0 ∙ sym (k.off off).0)

-- by caches that read the same
pub recalled_same : (auditor : Auditor) (wire disk wire_too disk_too : Type 0) (b e b2 e2 : Moment) (text : List ℕ) (a a2 : Audited) → wire → disk → wire_too → disk_too → auditor.checks ≡ Offline
    → IsAuditOf auditor wire disk b e text a → IsAuditOf auditor wire_too disk_too b2 e2 text a2 → CountStayed b.disk_faults e.disk_faults → CountStayed b2.disk_faults e2.disk_faults
    → ((q : List ℕ) → reads (b.files q) ≡ reads (b2.files q)) → SaysSame a a2
recalled_same auditor wire disk wire_too disk_too b e b2 e2 text a a2 w d w2 d2 offline h k stayed stayed_too same =
    says_same auditor wire disk wire_too disk_too b e b2 e2 text a a2 h k (λ packages.
    let one = (audit_told auditor wire disk b e text a w d h).says.recalled offline in
    let two = (audit_told auditor wire_too disk_too b2 e2 text a2 w2 d2 k).says.recalled offline in
    let P : List Package → Type 0 = λ ps. AreVerdicts (IsVerdictByCacheAt (Unit {0}) (read_from b2) a2.turns) (judged_of auditor.checks ps) a2.verdicts in
    same_verdicts (IsVerdictByCacheAt (Unit {0}) (read_from b) a.turns) (IsVerdictByCacheAt (Unit {0}) (read_from b2) a2.turns) (judged_of auditor.checks a.lockfile) a.verdicts a2.verdicts
    (λ version o v u is too. one_recalled (read_from b) (read_from b2) a.turns a2.turns version o v u (λ q. same (index_file q))
    (quiet_turns auditor wire disk b e text a h stayed) (quiet_turns auditor wire_too disk_too b2 e2 text a2 k stayed_too) is too)
    one.judged (subst P (sym packages) two.judged))

-- by servers that held the same and answered alike, over caches that were kept for what they held
pub asked_same : (auditor : Auditor) (wire disk wire_too disk_too : Type 0) (b e b2 e2 : Moment) (text : List ℕ) (a a2 : Audited) (added added_too : List Exchange)
    → IsHonestServing wire disk b added → IsHonestServing wire_too disk_too b2 added_too → auditor.checks ≡ Online
    → IsAuditOf auditor wire disk b e text a → IsAuditOf auditor wire_too disk_too b2 e2 text a2 → CountStayed b.disk_faults e.disk_faults → CountStayed b2.disk_faults e2.disk_faults
    → e.exchanges ≡ b.exchanges ++ added → e2.exchanges ≡ b2.exchanges ++ added_too → AreAllAlike added added_too → SaysSame a a2
asked_same auditor wire disk wire_too disk_too b e b2 e2 text a a2 added added_too s s2 online h k stayed stayed_too follow follow_too alike =
    let one : IsSoundAudit auditor b e added text a = record { server = s.server; audit = audit_told auditor wire disk b e text a s.wire_tells s.disk_tells h; follow = follow; honest = s.honest; kept = s.kept; disk_faults = stayed } in
    let two : IsSoundAudit auditor b2 e2 added_too text a2 = record { server = s2.server; audit = audit_told auditor wire_too disk_too b2 e2 text a2 s2.wire_tells s2.disk_tells k; follow = follow_too; honest = s2.honest; kept = s2.kept; disk_faults = stayed_too } in
    let agree = audits_agree auditor text b e b2 e2 added added_too a a2 online one two alike in
    says_same auditor wire disk wire_too disk_too b e b2 e2 text a a2 h k (λ packages. agree.0)

-- ---- over any server: the same answers, and caches that read the same

abbrev AreFoundSame : Option Exchange → Option Exchange → Type 0
AreFoundSame None None = Unit {0}
AreFoundSame (Some e) (Some f) = AreSame e f
AreFoundSame _ _ = ⊥

found_case : (a b : Bool) (e f : Exchange) (o p : Option Exchange) → a ≡ b → AreSame e f → AreFoundSame o p → AreFoundSame (cond a (Some e) o) (cond b (Some f) p)
found_case true true e f o p same one more = one
found_case false false e f o p same one more = more
found_case true false e f o p same one more = absurd (cc)
found_case false true e f o p same one more = absurd (cc)

found_same : (q : List ℕ) (es fs : List Exchange) → AreAllSame es fs → AreFoundSame (exchange_of q es) (exchange_of q fs)
found_same q [] [] same = tt
found_same q [] (f ∷ fs) same = absurd same
found_same q (e ∷ es) [] same = absurd same
found_same q (e ∷ es) (f ∷ fs) same =
    found_case (bytes_eq e.path q) (bytes_eq f.path q) e f _ _ (ap (λ (p : List ℕ). bytes_eq p q) same.0.path) same.0 (found_same q es fs same.1)

-- the verdict isn't blamed on the store
pub not_blamed : (ts : List Turn) (q : List ℕ) (v : Verdict) → AreQuiet ts → CountRoseFor ts q v → v ≡ Unchecked cause.Store → ⊥
not_blamed ts q v quiet caused is = go (turn_of q ts) (λ u at. quiet_turn q ts u quiet at) (caused.store is)
  where
    go : (o : Option Turn) → ((u : Turn) → o ≡ Some u → CountRose u.disk_asked u.disk_after → ⊥) → IsSomeAnd o (λ t. CountRose t.disk_asked t.disk_after) → ⊥
    go None never rose = rose
    go (Some u) never rose = never u refl rose

-- so it is by what came and what the file says
pub came_verdict : (e : Exchange) (file : File) (version : List ℕ) (v : Verdict) → (v ≡ Unchecked cause.Store → ⊥) → IsVerdictByAnswer e file version v → v ≡ verdict_by (answer_of (file_answer file) e.answer) version
came_verdict e file version v unblamed (a, inl is, by) = by ∙ ap (λ (x : PathAnswer). verdict_by x version) is
came_verdict e file version v unblamed (a, inr store, by) = absurd (unblamed (by ∙ ap (λ (x : PathAnswer). verdict_by x version) store.1))

found_verdict : (o p : Option Exchange) (file file_too : File) (version : List ℕ) (v w : Verdict) → AreFoundSame o p → file ≡ file_too → (v ≡ Unchecked cause.Store → ⊥) → (w ≡ Unchecked cause.Store → ⊥)
    → IsSomeAnd o (λ e. (IsNotModified e.answer → Unit {0}) → IsVerdictByAnswer e file version v) → IsSomeAnd p (λ e. (IsNotModified e.answer → Unit {0}) → IsVerdictByAnswer e file_too version w) → v ≡ w
found_verdict None p file file_too version v w same files un un_too is too = absurd is
found_verdict (Some e) None file file_too version v w same files un un_too is too = absurd too
found_verdict (Some e) (Some f) file file_too version v w same files un un_too is too =
    came_verdict e file version v un (is (λ x. tt))
    ∙ ap (λ (x : File). verdict_by (answer_of (file_answer x) e.answer) version) files
    ∙ ap (λ (x : Option WireAnswer). verdict_by (answer_of (file_answer file_too) x) version) same.answer
    ∙ sym (came_verdict f file_too version w un_too (too (λ x. tt)))

-- with what each verdict is caused by
abbrev IsByAt : (List ℕ → File) → List Exchange → List Turn → List ℕ → Option (List ℕ) → Verdict → Type 0
IsByAt files es ts version o v = IsVerdictByAnswerAt (Unit {0}) files es version o v × IsCausedAt ts version o v

pub both : (P Q : List ℕ → Option (List ℕ) → Verdict → Type 0) (ps : List (ℕ × Package)) (js : List Judged) → AreVerdicts P ps js → AreVerdicts Q ps js → AreVerdicts (λ v o w. P v o w × Q v o w) ps js
both P Q [] [] h k = tt
both P Q [] (j ∷ js) h k = absurd h
both P Q (p ∷ ps) [] h k = absurd h
both P Q (p ∷ ps) (j ∷ js) h k = (h.0, (h.1, k.1), both P Q ps js h.2 k.2)

one_came : (files files_too : List ℕ → File) (es fs : List Exchange) (ts us : List Turn) (version : List ℕ) (o : Option (List ℕ)) (v w : Verdict) → ((q : List ℕ) → files q ≡ files_too q) → AreAllSame es fs → AreQuiet ts → AreQuiet us
    → IsByAt files es ts version o v → IsByAt files_too fs us version o w → v ≡ w
one_came files files_too es fs ts us version None v w same alike quiet quiet_too is too = is.0 ∙ sym too.0
one_came files files_too es fs ts us version (Some q) v w same alike quiet quiet_too is too =
    found_verdict (exchange_of q es) (exchange_of q fs) (files q) (files_too q) version v w (found_same q es fs alike) (same q) (not_blamed ts q v quiet is.1) (not_blamed us q w quiet_too too.1) is.0 too.0

-- by the same answers, over caches that read the same
pub came_same : (auditor : Auditor) (wire disk wire_too disk_too : Type 0) (b e b2 e2 : Moment) (text : List ℕ) (a a2 : Audited) (added added_too : List Exchange)
    → wire → disk → wire_too → disk_too → auditor.checks ≡ Online
    → IsAuditOf auditor wire disk b e text a → IsAuditOf auditor wire_too disk_too b2 e2 text a2 → CountStayed b.disk_faults e.disk_faults → CountStayed b2.disk_faults e2.disk_faults
    → e.exchanges ≡ b.exchanges ++ added → e2.exchanges ≡ b2.exchanges ++ added_too → AreAllSame added added_too → ((q : List ℕ) → reads (b.files q) ≡ reads (b2.files q)) → SaysSame a a2
came_same auditor wire disk wire_too disk_too b e b2 e2 text a a2 added added_too w d w2 d2 online h k stayed stayed_too follow follow_too alike same =
    says_same auditor wire disk wire_too disk_too b e b2 e2 text a a2 h k (λ packages.
    let one = (audit_told auditor wire disk b e text a w d h).says.audited online tt in
    let two = (audit_told auditor wire_too disk_too b2 e2 text a2 w2 d2 k).says.audited online tt in
    let mine : one.0 ≡ added = cancel b.exchanges one.0 added (sym one.1 ∙ follow) in
    let other : two.0 ≡ added_too = cancel b2.exchanges two.0 added_too (sym two.1 ∙ follow_too) in
    let A : List Exchange → Type 0 = λ es. AreVerdicts (IsVerdictByAnswerAt (Unit {0}) (read_from b) es) (judged_of auditor.checks a.lockfile) a.verdicts in
    let B : List Exchange → Type 0 = λ es. AreVerdicts (IsVerdictByAnswerAt (Unit {0}) (read_from b2) es) (judged_of auditor.checks a2.lockfile) a2.verdicts in
    let first = both (IsVerdictByAnswerAt (Unit {0}) (read_from b) added) (IsCausedAt a.turns) (judged_of auditor.checks a.lockfile) a.verdicts (subst A mine one.2.judged) h.says.caused in
    let second = both (IsVerdictByAnswerAt (Unit {0}) (read_from b2) added_too) (IsCausedAt a2.turns) (judged_of auditor.checks a2.lockfile) a2.verdicts (subst B other two.2.judged) k.says.caused in
    let P : List Package → Type 0 = λ ps. AreVerdicts (IsByAt (read_from b2) added_too a2.turns) (judged_of auditor.checks ps) a2.verdicts in
    same_verdicts (IsByAt (read_from b) added a.turns) (IsByAt (read_from b2) added_too a2.turns) (judged_of auditor.checks a.lockfile) a.verdicts a2.verdicts
    (λ version o v u is too. one_came (read_from b) (read_from b2) added added_too a.turns a2.turns version o v u (λ q. same (index_file q)) alike
    (quiet_turns auditor wire disk b e text a h stayed) (quiet_turns auditor wire_too disk_too b2 e2 text a2 k stayed_too) is too)
    first (subst P (sym packages) second))
