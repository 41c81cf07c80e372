-- The audit by its parts.
use Rattle.std.proofs.Common.{◌≡◌, ◌⊎◌, inl, inr, ℕ, List, [], ◌∷◌, map, Bool, true, false, cond, Option, Some, refl, sym, ap, ◌∙◌, subst}
use Rattle.std.specs.Prelude.{bytes_eq}
use Rattle.tame_names.specs.Names.{path}
use Rattle.tame_entry.specs.VersionStatuses.{status_among}
use Rattle.tame_entry.specs.declared.version_status.VersionStatus.{VersionStatus}
use Rattle.tame_entry.specs.declared.version_status.VersionStatus.TheVariants as says
use Rattle.tame_cache.specs.Disk.{File, reads}
use Rattle.tame_cache.specs.Kept.{Disk}
use Rattle.tame_sparse.specs.Honest.{AreHonest}
use Rattle.tame_sparse.specs.declared.network.Exchange.{Exchange}
use Rattle.audit_lock.specs.declared.resolving.Package.{Package}
use Rattle.audit_core.specs.Answers.{IsNotModified}
use Rattle.audit_core.specs.Audits.{IsAuditBetween, AreTurns, Caused, VerdictsMatchServer, IsCausedAt}
use Rattle.audit_core.specs.AnsweredTurns.{IsAnsweredAt, answered_turn_of}
use Rattle.audit_core.specs.Turns.{AddsTurns, AreCaused, Chains, DiskAt, IsCaused, index_file}
use Rattle.audit_core.specs.Verdicts.{AreVerdicts, IsVerdictByAnswerAt, IsVerdictByAnswer, IsVerdictByHeldAt, exchange_of, turn_of, verdict_by, verdict_of_status}
use Rattle.audit_core.specs.declared.answers.PathAnswer.{PathAnswer}
use Rattle.audit_core.specs.declared.answers.PathAnswer.TheVariants.{Settled, Lines}
use Rattle.audit_core.specs.declared.asking.AnsweredTurn.{AnsweredTurn}
use Rattle.audit_core.specs.declared.asking.Turn.{Turn}
use Rattle.audit_core.specs.declared.verdicts.Cause.TheVariants as cause
use Rattle.audit_core.specs.declared.verdicts.Judged.{Judged}
use Rattle.audit_core.specs.declared.verdicts.Verdict.TheVariants.{Unchecked}
use Rattle.audit_core.proofs.Apart.{Distinct, IsAnsweredOf, Paired, all_turned, asked_apart, avoids_asked, turned_answered, turned_others, turned_whole}
use Rattle.audit_core.proofs.Exchanged.{cancel}
use Rattle.audit_core.proofs.Lists.{same_bytes, somes}
use Rattle.audit_core.proofs.Sound.{IsSound, turned_sound}
use Rattle.audit_core.proofs.Steps.{turned_addressed, turned_paths}
use Rattle.audit_core.proofs.Table.{all_verdicts}

-- distinct paths, their turns with their answers, and the verdicts by these
pub record IsDone (paths : List (List ℕ)) (packages : List (ℕ × Package)) (hs : List AnsweredTurn) (verdicts : List Judged) : Type 0 where
  pub distinct : Distinct paths
  pub answered_turns : map (λ h. h.turn.path) hs ≡ paths
  pub judged : AreVerdicts (IsAnsweredAt hs) packages verdicts

-- ---- the exchange and the turn of a path

pair_case : (R : Exchange → AnsweredTurn → Type 0) (a b : Bool) (q : List ℕ) (e : Exchange) (x h : AnsweredTurn) (o : Option Exchange) (p : Option AnsweredTurn) → bytes_eq e.path q ≡ a → a ≡ b → R e x
    → (p ≡ Some h → (k : Exchange) × (o ≡ Some k) × (k.path ≡ q) × R k h) → cond b (Some x) p ≡ Some h → (k : Exchange) × (cond a (Some e) o ≡ Some k) × (k.path ≡ q) × R k h
pair_case R true true q e x h o p at same r f is =
    let mine : x ≡ h = cc in
    (e, refl, same_bytes e.path q at, subst (λ (y : AnsweredTurn). R e y) mine r)
pair_case R false false q e x h o p at same r f is = f is
pair_case R true false q e x h o p at same r f is = cc
pair_case R false true q e x h o p at same r f is = cc

found_pair : (R : Exchange → AnsweredTurn → Type 0) → ((e : Exchange) (h : AnsweredTurn) → R e h → e.path ≡ h.turn.path) → (q : List ℕ) (es : List Exchange) (hs : List AnsweredTurn) (h : AnsweredTurn) → Paired R es hs
    → answered_turn_of q hs ≡ Some h → (e : Exchange) × (exchange_of q es ≡ Some e) × (e.path ≡ q) × R e h
found_pair R at q [] [] h x is = cc
found_pair R at q [] (y ∷ hs) h x is = absurd x
found_pair R at q (e ∷ es) [] h x is = absurd x
found_pair R at q (e ∷ es) (y ∷ hs) h x is =
    pair_case R (bytes_eq e.path q) (bytes_eq y.turn.path q) q e y h _ _ refl (ap (λ (p : List ℕ). bytes_eq p q) (at e y x.0)) x.0 (found_pair R at q es hs h x.1) is

turn_case : (b : Bool) (x h : AnsweredTurn) (o : Option AnsweredTurn) (t : Option Turn) → (o ≡ Some h → t ≡ Some h.turn) → cond b (Some x) o ≡ Some h → cond b (Some x.turn) t ≡ Some h.turn
turn_case true x h o t f is = let same : x ≡ h = cc in ap (λ (k : AnsweredTurn). Some k.turn) same
turn_case false x h o t f is = f is

pub turn_found : (q : List ℕ) (hs : List AnsweredTurn) (h : AnsweredTurn) → answered_turn_of q hs ≡ Some h → turn_of q (map (λ h. h.turn) hs) ≡ Some h.turn
turn_found q [] h is = cc
turn_found q (x ∷ hs) h is = turn_case (bytes_eq x.turn.path q) x h _ _ (turn_found q hs h) is

caused_case : (b : Bool) (x h : AnsweredTurn) (o : Option AnsweredTurn) → IsCaused x → (o ≡ Some h → IsCaused h) → cond b (Some x) o ≡ Some h → IsCaused h
caused_case true x h o mine f is = let same : x ≡ h = cc in subst IsCaused same mine
caused_case false x h o mine f is = f is

caused_of : (q : List ℕ) (hs : List AnsweredTurn) (h : AnsweredTurn) → AreCaused hs → answered_turn_of q hs ≡ Some h → IsCaused h
caused_of q [] h caused is = cc
caused_of q (x ∷ hs) h caused is = caused_case (bytes_eq x.turn.path q) x h _ caused.0 (caused_of q hs h caused.1) is

-- the turns are those that were planned
pub answered_paths : (names paths : List (List ℕ)) (hs : List AnsweredTurn) → map (λ (h : AnsweredTurn). Some h.turn.path) hs ≡ map path names → map path names ≡ map (λ q. Some q) paths → map (λ (h : AnsweredTurn). h.turn.path) hs ≡ paths
answered_paths names paths hs answered_turns named = somes (λ (h : AnsweredTurn). h.turn.path) hs paths (answered_turns ∙ named)

-- ---- over what the server held

pub held_done : (told : Type 0) (t : told) (paths : List (List ℕ)) (packages : List (ℕ × Package)) (hs : List AnsweredTurn) (verdicts : List Judged) (before now : List Exchange) (old new : DiskAt) → IsDone paths packages hs verdicts
    → AreCaused hs → AddsTurns told before now old hs new → VerdictsMatchServer packages before now old.files (map (λ h. h.turn) hs) verdicts
held_done told t paths packages hs verdicts before now old new d caused x m added is honest kept =
    let same : added ≡ x.0 = cancel before added x.0 (sym is ∙ x.1) in
    let P : List Exchange → Type 0 = λ es. AreHonest m es in
    let sound = turned_sound told t m old new x.0 hs x.2 (subst P same honest) caused kept in
    let Q : List Exchange → Type 0 = λ es. AreVerdicts (IsVerdictByHeldAt es (map (λ h. h.turn) hs)) packages verdicts in
    subst Q (sym same) (all_verdicts (IsVerdictByHeldAt x.0 (map (λ (h : AnsweredTurn). h.turn) hs)) hs (λ version. refl)
    (λ q version h found.
    let pair = found_pair IsSound (λ e h r. r.path) q x.0 hs h sound found in
    rw (pair.1, turn_found q hs h found) (h.answer, pair.3.answer, refl))
    packages verdicts d.judged)

-- ---- over what came

pub some_paths : (hs : List AnsweredTurn) (ps : List (List ℕ)) → map (λ (h : AnsweredTurn). h.turn.path) hs ≡ ps → map (λ (h : AnsweredTurn). Some h.turn.path) hs ≡ map (λ p. Some p) ps
some_paths hs ps is = mapped hs ∙ ap (λ (qs : List (List ℕ)). map (λ p. Some p) qs) is
  where
    mapped : (hs : List AnsweredTurn) → map (λ (h : AnsweredTurn). Some h.turn.path) hs ≡ map (λ p. Some p) (map (λ (h : AnsweredTurn). h.turn.path) hs)
    mapped [] = refl
    mapped (h ∷ hs) = ap (λ (os : List (Option (List ℕ))). Some h.turn.path ∷ os) (mapped hs)

pub audit_done : (told : Type 0) (paths : List (List ℕ)) (packages : List (ℕ × Package)) (hs : List AnsweredTurn) (verdicts : List Judged) (before now : List Exchange) (old new : DiskAt) → IsDone paths packages hs verdicts
    → AddsTurns told before now old hs new → IsAuditBetween told old.files new.files paths packages before now (map (λ h. h.turn) hs) verdicts
audit_done told paths packages hs verdicts before now old new d x =
    let asked : map (λ (e : Exchange). e.path) x.0 ≡ paths = somes (λ (e : Exchange). e.path) x.0 paths (turned_paths told old new x.0 hs x.2 ∙ some_paths hs paths d.answered_turns) in (
      x.0,
      x.1,
      record {
        asked = asked;
        addressed = turned_addressed told old new x.0 hs x.2;
        judged =
            let files : List ℕ → File = λ q. reads (old.files (index_file q)) in
            let answered_turns = turned_answered told old new x.0 hs x.2 (asked_apart told old new x.0 hs paths x.2 asked d.distinct) in
            all_verdicts (IsVerdictByAnswerAt told files x.0) hs (λ version. refl)
            (λ q version h found.
            let pair = found_pair (IsAnsweredOf told old.files) (λ e h r. r.path) q x.0 hs h answered_turns found in
            let P : List ℕ → Type 0 = λ p. (IsNotModified pair.0.answer → told) → IsVerdictByAnswer pair.0 (reads (old.files (index_file p))) version (verdict_by h.answer version) in
            rw pair.1 (subst P pair.2 (λ n. (h.answer, pair.3.answer n, refl))))
            packages verdicts d.judged;
        turned = λ t. all_turned old.files new.files x.0 hs (turned_whole told t old new x.0 hs x.2 (asked_apart told old new x.0 hs paths x.2 asked d.distinct));
        others = λ t q other. turned_others told t old new q x.0 hs x.2 (avoids_asked q paths x.0 asked other);
      },
    )

-- ---- turns and causes

turn_paths : (hs : List AnsweredTurn) → map (λ t. t.path) (map (λ h. h.turn) hs) ≡ map (λ h. h.turn.path) hs
turn_paths [] = refl
turn_paths (h ∷ hs) = ap (λ qs. h.turn.path ∷ qs) (turn_paths hs)

pub turns_done : (paths : List (List ℕ)) (packages : List (ℕ × Package)) (hs : List AnsweredTurn) (verdicts : List Judged) (wire disk last_wire last_disk : ℕ) → IsDone paths packages hs verdicts
    → Chains wire disk (map (λ h. h.turn) hs) last_wire last_disk → AreTurns paths wire disk last_wire last_disk (map (λ h. h.turn) hs)
turns_done paths packages hs verdicts wire disk last_wire last_disk d counts = record { paths = turn_paths hs ∙ d.answered_turns; counts = counts }

never_settled : (s : VersionStatus) (c : cause.the_data) → verdict_of_status s ≡ Unchecked c → (c ≡ cause.Wire) ⊎ (c ≡ cause.Store) → ⊥
never_settled says.Unread c h (inl is) = cc
never_settled says.Unread c h (inr is) = cc
never_settled says.NoVersion c h (inl is) = cc
never_settled says.NoVersion c h (inr is) = cc
never_settled (says.Flag true) c h is = cc
never_settled (says.Flag false) c h is = cc

pub settled_by : (a : PathAnswer) (version : List ℕ) (c : cause.the_data) → (c ≡ cause.Wire) ⊎ (c ≡ cause.Store) → verdict_by a version ≡ Unchecked c → a ≡ Settled c
settled_by (Settled d) version c is h = cc
settled_by (Lines flags) version c is h = absurd (never_settled (status_among flags version) c h is)

pub caused_done : (paths : List (List ℕ)) (packages : List (ℕ × Package)) (hs : List AnsweredTurn) (verdicts : List Judged) → IsDone paths packages hs verdicts → AreCaused hs → Caused packages (map (λ h. h.turn) hs) verdicts
caused_done paths packages hs verdicts d caused =
    all_verdicts (IsCausedAt (map (λ (h : AnsweredTurn). h.turn) hs)) hs (λ version. refl)
    (λ q version h found.
    let mine = caused_of q hs h caused found in
    let turn = turn_found q hs h found in
    record {
      wire = λ v. rw turn (mine.wire (settled_by h.answer version cause.Wire (inl refl) v));
      store = λ v. rw turn (mine.store (settled_by h.answer version cause.Store (inr refl) v));
    })
    packages verdicts d.judged
