-- Audits over servers that held the same agree.
use Rattle.std.proofs.Common.{◌≡◌, ◌⊎◌, inl, inr, ◌≤◌, ◌<◌, ℕ, List, [], ◌∷◌, Bool, true, false, cond, Option, Some, None, Result, Ok, Err, IsTrue, refl, sym, ap, ◌∙◌, subst, arith}
use Rattle.std.specs.Prelude.{IfSome, IsSomeAnd, bytes_eq, ◌-◌, ◌^◌}
use Rattle.tame_names.specs.Counts.{CountRose}
use Rattle.tame_names.specs.Names.{path}
use Rattle.tame_entry.specs.Entry.{read_entry}
use Rattle.tame_entry.specs.ServerMaps.{ServerMap, body_at}
use Rattle.tame_entry.specs.Lines.{valid}
use Rattle.tame_entry.specs.Revision.{EntryRevision, Http, Commit, Unknown, is_honest_text, revision_text}
use Rattle.tame_entry.specs.declared.revisions.OwnedRevision.{OwnedRevision}
use Rattle.tame_entry.proofs.EntryLemmas.{plain_valid}
use Rattle.tame_names.specs.declared.errors.CacheError.{CacheError}
use Rattle.tame_entry.specs.Entry.{ReadEntry}
use Rattle.tame_cache.specs.Disk.{File, reads}
use Rattle.tame_cache.specs.Kept.{Disk, IsGood, IsGoodRead, IsGoodUnder, IsKept}
use Rattle.tame_cache.proofs.Moments.{reads_left}
use Rattle.tame_sparse.specs.Exchanges.{crates_io_index}
use Rattle.tame_sparse.specs.Honest.{AreHonest, IsHonest, IsMapped}
use Rattle.tame_sparse.specs.Named.{named, named_file, named_read}
use Rattle.tame_sparse.specs.declared.network.Exchange.{Exchange}
use Rattle.tame_sparse.specs.declared.network.Representation.{Representation}
use Rattle.tame_sparse.specs.declared.network.WireAnswer.{WireAnswer}
use Rattle.tame_sparse.proofs.TrimLemmas.{honest_named}
use Rattle.audit_lock.specs.declared.resolving.Package.{Package}
use Rattle.audit_core.specs.Alike.{AreAlike, AreAlikeAnswers, AreAllAlike, IsSoundAudit}
use Rattle.audit_core.specs.Answers.{IsHeldAnswer, by_status, held_answer, kept_held, sent_held}
use Rattle.audit_core.specs.Auditors.{audit_exit, audit_report}
use Rattle.audit_core.specs.Audits.{TurnsNameAndLeave, Moment}
use Rattle.audit_core.specs.Checks.{judged_of}
use Rattle.audit_core.specs.Turns.{Chains, index_file}
use Rattle.audit_core.specs.Verdicts.{AreVerdicts, IsVerdictByHeldAt, IsVerdictByHeld, exchange_of, turn_of, verdict_by}
use Rattle.audit_core.specs.declared.answers.PathAnswer.{PathAnswer}
use Rattle.audit_core.specs.declared.asking.Turn.{Turn}
use Rattle.audit_core.specs.declared.auditing.Audited.{Audited}
use Rattle.audit_core.specs.declared.auditors.Auditor.{Auditor}
use Rattle.audit_core.specs.declared.checking.Checks.TheVariants.{Online}
use Rattle.audit_core.specs.declared.verdicts.Judged.{Judged}
use Rattle.audit_core.specs.declared.verdicts.Verdict.{Verdict}
use Rattle.audit_core.proofs.Exchanged.{cancel}

-- ---- a body that was confirmed is valid

valid_under : (m : ServerMap) (p bytes body : List ℕ) (x : EntryRevision) (r : OwnedRevision) → IsGoodUnder m crates_io_index p bytes x → named x ≡ Some r → body_at m p r ≡ Some body → valid body ≡ true
valid_under m p bytes body (Http r0) r good names held =
    let same : r0 ≡ r = cc (honest_named r0 good.1.0, names) in
    let P : OwnedRevision → Type 0 = λ x. body_at m p x ≡ Some body in
    let at : body_at m p r0 ≡ Some body = subst P (sym same) held in
    let one : good.0 ≡ body = cc (good.1.1, at) in
    subst (λ (b : List ℕ). valid b ≡ true) one (plain_valid good.0 good.2)
valid_under m p bytes body (Commit digits) r good names held = cc
valid_under m p bytes body Unknown r good names held = cc

valid_read : (m : ServerMap) (p bytes body : List ℕ) (o : Result ReadEntry CacheError) (r : OwnedRevision) → IsGoodRead m crates_io_index p bytes o → named_read o ≡ Some r → body_at m p r ≡ Some body → valid body ≡ true
valid_read m p bytes body (Ok e) r good names held = valid_under m p bytes body e.revision r good names held
valid_read m p bytes body (Err f) r good names held = cc

valid_file : (m : ServerMap) (p body : List ℕ) (file : File) (r : OwnedRevision) → IsGood m crates_io_index p file → named_file crates_io_index file ≡ Some r → body_at m p r ≡ Some body → valid body ≡ true
valid_file m p body None r good names held = cc
valid_file m p body (Some bytes) r good names held = valid_read m p bytes body (read_entry crates_io_index bytes) r good names held

valid_held : (m : ServerMap) (p : List ℕ) (file : File) (n : Option OwnedRevision) (h : Representation) (o : Option OwnedRevision) → IsGood m crates_io_index p file → (n ≡ None) ⊎ (n ≡ named_file crates_io_index file)
    → IfSome o (λ r. IsTrue (is_honest_text (revision_text r)) × (body_at m p r ≡ Some h.body)) → IsSomeAnd o (λ r. n ≡ Some r) → valid h.body ≡ true
valid_held m p file n h None good names mapped is = absurd is
valid_held m p file n h (Some r) good (inl none) mapped is = cc
valid_held m p file n h (Some r) good (inr same) mapped is = valid_file m p h.body file r good (sym same ∙ is) mapped.1

confirmed_held : (m : ServerMap) (p : List ℕ) (file : File) (n : Option OwnedRevision) (o : Option Representation) → IsGood m crates_io_index p file → (n ≡ None) ⊎ (n ≡ named_file crates_io_index file)
    → IfSome o (IsMapped m p) → IsSomeAnd o (λ h. IsSomeAnd h.revision (λ r. n ≡ Some r)) → kept_held o ≡ sent_held o
confirmed_held m p file n None good names mapped is = absurd is
confirmed_held m p file n (Some h) good names mapped is =
    let right : valid h.body ≡ true = valid_held m p file n h h.revision good names mapped is in
    rw right refl

-- what was held says the same whether it is sent or confirmed, if it was confirmed
abbrev IsConfirmed : Option Representation → Option WireAnswer → Type 0
IsConfirmed held None = Unit {0}
IsConfirmed held (Some a) = a.status ≡ 304 → kept_held held ≡ sent_held held

one_confirmed : (m : ServerMap) (p : List ℕ) (file : File) (n : Option OwnedRevision) (held : Option Representation) (came : Option WireAnswer) → IsGood m crates_io_index p file → (n ≡ None) ⊎ (n ≡ named_file crates_io_index file)
    → IfSome held (IsMapped m p) → IfSome came (Rattle.tame_sparse.specs.Honest.IsHonestAnswer n held) → IsConfirmed held came
one_confirmed m p file n held None good names mapped honest = tt
one_confirmed m p file n held (Some a) good names mapped honest = λ is. confirmed_held m p file n held good names mapped (honest.not_modified is)

abbrev AreConfirmed : List Exchange → Type 0
AreConfirmed [] = Unit {0}
AreConfirmed (e ∷ es) = IsConfirmed e.held e.answer × AreConfirmed es

all_confirmed : (m : ServerMap) (old new : Disk) (es : List Exchange) (ts : List Turn) → TurnsNameAndLeave old new es ts → AreHonest m es → IsKept m crates_io_index [] old → AreConfirmed es
all_confirmed m old new [] ts turned honest kept = tt
all_confirmed m old new (e ∷ es) [] turned honest kept = absurd turned
all_confirmed m old new (e ∷ es) (t ∷ ts) turned honest kept =
    let f = index_file e.path in
    let good : IsGood m crates_io_index e.path (reads (old f)) = (kept e.path turned.0.place).all_good (reads (old f)) (reads_left (old f)) in
    (one_confirmed m e.path (reads (old f)) e.named e.held e.answer good turned.0.named.else_nothing honest.0.mapped honest.0.answered, all_confirmed m old new es ts turned.1 honest.1 kept)

-- ---- alike exchanges have one answer

sent_status : (s : ℕ) (x y : PathAnswer) → s ≡ 200 → by_status s x y ≡ x
sent_status s x y is = rw is refl

kept_status : (s : ℕ) (x y : PathAnswer) → s ≡ 304 → by_status s x y ≡ y
kept_status s x y is = rw is refl

alike_held : (o p : Option Representation) (came came_too : Option WireAnswer) → o ≡ p → AreAlikeAnswers came came_too → IsConfirmed o came → held_answer o came ≡ held_answer p came_too
alike_held o p None None same alike confirmed = refl
alike_held o p None (Some b) same alike confirmed = absurd alike
alike_held o p (Some a) None same alike confirmed = absurd alike
alike_held o p (Some a) (Some b) same (inl (inl sent, too)) confirmed =
    sent_status a.status (sent_held o) (kept_held o) sent ∙ ap sent_held same ∙ sym (sent_status b.status (sent_held p) (kept_held p) too)
alike_held o p (Some a) (Some b) same (inl (inr kept, too)) confirmed =
    kept_status a.status (sent_held o) (kept_held o) kept ∙ confirmed kept ∙ ap sent_held same ∙ sym (sent_status b.status (sent_held p) (kept_held p) too)
alike_held o p (Some a) (Some b) same (inr status) confirmed =
    ap (λ n. by_status n (sent_held o) (kept_held o)) status ∙ ap (λ (h : Option Representation). by_status b.status (sent_held h) (kept_held h)) same

-- ---- the exchanges of a path

-- what both found: nothing, or alike exchanges of which the first is confirmed
abbrev AreFoundAlike : Option Exchange → Option Exchange → Type 0
AreFoundAlike None None = Unit {0}
AreFoundAlike (Some e) (Some f) = AreAlike e f × IsConfirmed e.held e.answer
AreFoundAlike _ _ = ⊥

found_case : (a b : Bool) (e f : Exchange) (o p : Option Exchange) → a ≡ b → AreAlike e f × IsConfirmed e.held e.answer → AreFoundAlike o p → AreFoundAlike (cond a (Some e) o) (cond b (Some f) p)
found_case true true e f o p same alike more = alike
found_case false false e f o p same alike more = more
found_case true false e f o p same alike more = absurd (cc)
found_case false true e f o p same alike more = absurd (cc)

found_alike : (q : List ℕ) (es fs : List Exchange) → AreAllAlike es fs → AreConfirmed es → AreFoundAlike (exchange_of q es) (exchange_of q fs)
found_alike q [] [] alike confirmed = tt
found_alike q [] (f ∷ fs) alike confirmed = absurd alike
found_alike q (e ∷ es) [] alike confirmed = absurd alike
found_alike q (e ∷ es) (f ∷ fs) alike confirmed =
    found_case (bytes_eq e.path q) (bytes_eq f.path q) e f _ _ (ap (λ (p : List ℕ). bytes_eq p q) alike.0.path) (alike.0, confirmed.0) (found_alike q es fs alike.1 confirmed.1)

-- ---- quiet turns

abbrev AreQuiet : List Turn → Type 0
AreQuiet [] = Unit {0}
AreQuiet (t ∷ ts) = (CountRose t.disk_asked t.disk_after → ⊥) × AreQuiet ts

pub chain_grows : (wire disk : ℕ) (ts : List Turn) (last_wire last_disk : ℕ) → Chains wire disk ts last_wire last_disk → disk ≤ last_disk
chain_grows wire disk [] last_wire last_disk h = let same = h.1 in omega (arith, same)
chain_grows wire disk (t ∷ ts) last_wire last_disk h =
    let more = chain_grows t.wire_after t.disk_after ts last_wire last_disk h.5 in
    let a = h.2 in
    let b = h.3 in
    let c = h.4 in
    omega (arith, more, a, b, c)

not_rose : (asked after last : ℕ) → asked ≤ after → after ≤ last → last ≤ asked → last < 2 ^ 64 - 1 → CountRose asked after → ⊥
not_rose asked after last a b c low rose = omega (arith, a, b, c, low, rose)

chain_quiet : (wire disk : ℕ) (ts : List Turn) (last_wire last_disk : ℕ) → Chains wire disk ts last_wire last_disk → last_disk ≡ disk → disk < 2 ^ 64 - 1 → AreQuiet ts
chain_quiet wire disk [] last_wire last_disk h same low = tt
chain_quiet wire disk (t ∷ ts) last_wire last_disk h same low =
    let more : t.disk_after ≤ last_disk = chain_grows t.wire_after t.disk_after ts last_wire last_disk h.5 in
    let begins : t.disk_before ≡ disk = h.2 in
    let asked : t.disk_before ≤ t.disk_asked = h.3 in
    let after : t.disk_asked ≤ t.disk_after = h.4 in
    let under : last_disk ≤ t.disk_asked = omega (arith, same, begins, asked) in
    let end : last_disk < 2 ^ 64 - 1 = omega (arith, same, low) in
    let rest : last_disk ≡ t.disk_after = omega (arith, more, under, after) in
    let below : t.disk_after < 2 ^ 64 - 1 = omega (arith, rest, end) in
    (not_rose t.disk_asked t.disk_after last_disk after more under end, chain_quiet t.wire_after t.disk_after ts last_wire last_disk h.5 rest below)

turn_case : (b : Bool) (t u : Turn) (o : Option Turn) → (CountRose t.disk_asked t.disk_after → ⊥) → (o ≡ Some u → CountRose u.disk_asked u.disk_after → ⊥) → cond b (Some t) o ≡ Some u → CountRose u.disk_asked u.disk_after → ⊥
turn_case true t u o mine f is = let same : t ≡ u = cc in subst (λ (k : Turn). CountRose k.disk_asked k.disk_after → ⊥) same mine
turn_case false t u o mine f is = f is

quiet_turn : (q : List ℕ) (ts : List Turn) (u : Turn) → AreQuiet ts → turn_of q ts ≡ Some u → CountRose u.disk_asked u.disk_after → ⊥
quiet_turn q [] u quiet is = cc
quiet_turn q (t ∷ ts) u quiet is = turn_case (bytes_eq t.path q) t u _ quiet.0 (quiet_turn q ts u quiet.1) is

-- ---- one verdict

held_verdict : (e : Exchange) (o : Option Turn) (version : List ℕ) (v : Verdict) → ((t : Turn) → o ≡ Some t → CountRose t.disk_asked t.disk_after → ⊥) → IsSomeAnd o (λ t. IsVerdictByHeld e t version v) → v ≡ verdict_by (held_answer e.held e.answer) version
held_verdict e None version v quiet is = absurd is
held_verdict e (Some t) version v quiet is = go is.0 is.1 is.2
  where
    go : (a : PathAnswer) → IsHeldAnswer e.held e.answer t.disk_asked t.disk_after a → v ≡ verdict_by a version → v ≡ verdict_by (held_answer e.held e.answer) version
    go a (inl same) is = is ∙ ap (λ (x : PathAnswer). verdict_by x version) same
    go a (inr store) is = absurd (quiet t refl store.1)

found_verdict : (o p : Option Exchange) (t u : Option Turn) (version : List ℕ) (v w : Verdict) → AreFoundAlike o p
    → ((x : Turn) → t ≡ Some x → CountRose x.disk_asked x.disk_after → ⊥) → ((x : Turn) → u ≡ Some x → CountRose x.disk_asked x.disk_after → ⊥)
    → IsSomeAnd o (λ e. IsSomeAnd t (λ x. IsVerdictByHeld e x version v)) → IsSomeAnd p (λ f. IsSomeAnd u (λ x. IsVerdictByHeld f x version w)) → v ≡ w
found_verdict None p t u version v w alike quiet quiet_too is too = absurd is
found_verdict (Some e) None t u version v w alike quiet quiet_too is too = absurd too
found_verdict (Some e) (Some f) t u version v w alike quiet quiet_too is too =
    held_verdict e t version v quiet is
    ∙ ap (λ (x : PathAnswer). verdict_by x version) (alike_held e.held f.held e.answer f.answer alike.0.held alike.0.answers alike.1)
    ∙ sym (held_verdict f u version w quiet_too too)

one_verdict : (es fs : List Exchange) (ts us : List Turn) (version : List ℕ) (o : Option (List ℕ)) (v w : Verdict) → AreAllAlike es fs → AreConfirmed es → AreQuiet ts → AreQuiet us
    → IsVerdictByHeldAt es ts version o v → IsVerdictByHeldAt fs us version o w → v ≡ w
one_verdict es fs ts us version None v w alike confirmed quiet quiet_too is too = is ∙ sym too
one_verdict es fs ts us version (Some q) v w alike confirmed quiet quiet_too is too =
    found_verdict (exchange_of q es) (exchange_of q fs) (turn_of q ts) (turn_of q us) version v w (found_alike q es fs alike confirmed)
    (λ x at. quiet_turn q ts x quiet at) (λ x at. quiet_turn q us x quiet_too at) is too

all_same : (es fs : List Exchange) (ts us : List Turn) (ps : List (ℕ × Package)) (js ks : List Judged) → AreAllAlike es fs → AreConfirmed es → AreQuiet ts → AreQuiet us
    → AreVerdicts (IsVerdictByHeldAt es ts) ps js → AreVerdicts (IsVerdictByHeldAt fs us) ps ks → js ≡ ks
all_same es fs ts us [] [] [] alike confirmed quiet quiet_too h k = refl
all_same es fs ts us [] [] (x ∷ ks) alike confirmed quiet quiet_too h k = absurd k
all_same es fs ts us [] (j ∷ js) ks alike confirmed quiet quiet_too h k = absurd h
all_same es fs ts us (p ∷ ps) [] ks alike confirmed quiet quiet_too h k = absurd h
all_same es fs ts us (p ∷ ps) (j ∷ js) [] alike confirmed quiet quiet_too h k = absurd k
all_same es fs ts us (p ∷ ps) (j ∷ js) (x ∷ ks) alike confirmed quiet quiet_too h k =
    let place : j.«package» ≡ x.«package» = h.0 ∙ sym k.0 in
    let verdict : j.verdict ≡ x.verdict = one_verdict es fs ts us p.1.version (path p.1.name) j.verdict x.verdict alike confirmed quiet quiet_too h.1 k.1 in
    let one : j ≡ x = λ i. record { «package» = place i; verdict = verdict i } in
    ap (λ (y : Judged). y ∷ js) one ∙ ap (λ (ys : List Judged). x ∷ ys) (all_same es fs ts us ps js ks alike confirmed quiet quiet_too h.2 k.2)

-- ---- whole audits

sound_quiet : (auditor : Auditor) (began ended : Moment) (added : List Exchange) (text : List ℕ) (a : Audited) → IsSoundAudit auditor began ended added text a → AreQuiet a.turns
sound_quiet auditor began ended added text a s =
    chain_quiet began.wire_faults began.disk_faults a.turns ended.wire_faults ended.disk_faults s.audit.says.counted.counts s.disk_faults.0 s.disk_faults.1

sound_confirmed : (auditor : Auditor) (began ended : Moment) (added : List Exchange) (text : List ℕ) (a : Audited) → auditor.checks ≡ Online → IsSoundAudit auditor began ended added text a → AreConfirmed added
sound_confirmed auditor began ended added text a online s =
    let adds = s.audit.says.audited online tt in
    let same : added ≡ adds.0 = cancel began.exchanges added adds.0 (sym s.follow ∙ adds.1) in
    let honest : AreHonest s.server adds.0 = subst (λ (xs : List Exchange). AreHonest s.server xs) same s.honest in
    subst AreConfirmed (sym same) (all_confirmed s.server began.files ended.files adds.0 a.turns (adds.2.turned tt) honest s.kept)

sound_verdicts : (auditor : Auditor) (began ended : Moment) (added : List Exchange) (text : List ℕ) (a : Audited) → auditor.checks ≡ Online → IsSoundAudit auditor began ended added text a
    → AreVerdicts (IsVerdictByHeldAt added a.turns) (judged_of auditor.checks a.lockfile) a.verdicts
sound_verdicts auditor began ended added text a online s = s.audit.says.headline online tt tt s.server added s.follow s.honest s.kept

pub audits_agree : (auditor : Auditor) (text : List ℕ) (b e b2 e2 : Moment) (added added2 : List Exchange) (a a2 : Audited) → auditor.checks ≡ Online
    → IsSoundAudit auditor b e added text a → IsSoundAudit auditor b2 e2 added2 text a2 → AreAllAlike added added2
    → (a.verdicts ≡ a2.verdicts) × (a.report ≡ a2.report) × (a.exit ≡ a2.exit)
audits_agree auditor text b e b2 e2 added added2 a a2 online s s2 alike =
    let packages : a.lockfile ≡ a2.lockfile = let one = s.audit.lockfile in let two = s2.audit.lockfile in cc (one, two) in
    let P : List Package → Type 0 = λ ps. AreVerdicts (IsVerdictByHeldAt added2 a2.turns) (judged_of auditor.checks ps) a2.verdicts in
    let second = subst P (sym packages) (sound_verdicts auditor b2 e2 added2 text a2 online s2) in
    let verdicts : a.verdicts ≡ a2.verdicts = all_same added added2 a.turns a2.turns (judged_of auditor.checks a.lockfile) a.verdicts a2.verdicts alike
    (sound_confirmed auditor b e added text a online s) (sound_quiet auditor b e added text a s) (sound_quiet auditor b2 e2 added2 text a2 s2) (sound_verdicts auditor b e added text a online s) second in
    let report : a.report ≡ a2.report = s.audit.report ∙ ap (λ (ps : List Package). audit_report auditor ps a.verdicts) packages ∙ ap (λ (js : List Judged). audit_report auditor a2.lockfile js) verdicts ∙ sym s2.audit.report in
    let exit : a.exit ≡ a2.exit = s.audit.exit ∙ ap (λ (r : Rattle.audit_advisory.specs.declared.reports.Report.Report). audit_exit auditor r) report ∙ sym s2.audit.exit in
    (verdicts, report, exit)
