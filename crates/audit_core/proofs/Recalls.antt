-- Turns by the cache alone, and the verdicts by them.
use Rattle.std.proofs.Common.{◌≡◌, ℕ, List, [], ◌∷◌, ◌++◌, map, Bool, true, false, cond, Option, Some, refl, subst}
use Rattle.std.specs.Prelude.{bytes_eq}
use Rattle.tame_cache.specs.Disk.{Step, reads}
use Rattle.tame_cache.specs.FailedCalls.{FailedDiskCalls}
use Rattle.tame_cache.specs.Kept.{Disk}
use Rattle.audit_lock.specs.declared.resolving.Package.{Package}
use Rattle.audit_core.specs.AnsweredTurns.{answered_turn_of}
use Rattle.audit_core.specs.FailedReads.{BlameReads}
use Rattle.audit_core.specs.Recalled.{AreRecalled, AreUnasked, IsFileAnswer, IsVerdictByCacheAt}
use Rattle.audit_core.specs.Turns.{index_file}
use Rattle.audit_core.specs.Verdicts.{AreVerdicts}
use Rattle.audit_core.specs.declared.asking.AnsweredTurn.{AnsweredTurn}
use Rattle.audit_core.specs.declared.asking.Turn.{Turn}
use Rattle.audit_core.specs.declared.verdicts.Judged.{Judged}
use Rattle.audit_core.proofs.Lists.{same_bytes}
use Rattle.audit_core.proofs.Table.{all_verdicts}
use Rattle.audit_core.proofs.Whole.{IsDone, turn_found}

-- ---- one more turn

-- from a disk that is the same
pub recalled_from : (told : Type 0) (old mid : Disk) (hs : List AnsweredTurn) → (told → (q : List ℕ) → mid q ≡ old q) → AreRecalled told mid hs → AreRecalled told old hs
recalled_from told old mid [] same h = tt
recalled_from told old mid (x ∷ hs) same h =
    (λ t. subst (λ (s : List Step). IsFileAnswer (reads s) x.turn x.answer) (same t (index_file x.turn.path)) (h.0 t), recalled_from told old mid hs same h.1)

pub recalled_more : (told : Type 0) (disk : Disk) (hs ks : List AnsweredTurn) → AreRecalled told disk hs → AreRecalled told disk ks → AreRecalled told disk (hs ++ ks)
recalled_more told disk [] ks h k = k
recalled_more told disk (x ∷ hs) ks h k = (h.0, recalled_more told disk hs ks h.1 k)

pub blames_more : (a : FailedDiskCalls) (hs ks : List AnsweredTurn) (b c : FailedDiskCalls) → BlameReads a hs b → BlameReads b ks c → BlameReads a (hs ++ ks) c
blames_more a [] ks b c h k = subst (λ (x : FailedDiskCalls). BlameReads x ks c) h k
blames_more a (x ∷ hs) ks b c h k = (h.0, h.1, blames_more h.0 hs ks b c h.2 k)

pub unasked_more : (ts us : List Turn) → AreUnasked ts → AreUnasked us → AreUnasked (ts ++ us)
unasked_more [] us h k = k
unasked_more (t ∷ ts) us h k = (h.0, unasked_more ts us h.1 k)

-- ---- verdicts

recalled_case : (told : Type 0) (disk : Disk) (q : List ℕ) (b : Bool) (x h : AnsweredTurn) (o : Option AnsweredTurn) → bytes_eq x.turn.path q ≡ b
    → (told → IsFileAnswer (reads (disk (index_file x.turn.path))) x.turn x.answer)
    → (o ≡ Some h → told → IsFileAnswer (reads (disk (index_file q))) h.turn h.answer)
    → cond b (Some x) o ≡ Some h → told → IsFileAnswer (reads (disk (index_file q))) h.turn h.answer
recalled_case told disk q true x h o at mine f is =
    let same : x ≡ h = cc in
    let P : List ℕ → Type 0 = λ p. told → IsFileAnswer (reads (disk (index_file p))) x.turn x.answer in
    subst (λ (k : AnsweredTurn). told → IsFileAnswer (reads (disk (index_file q))) k.turn k.answer) same (subst P (same_bytes x.turn.path q at) mine)
recalled_case told disk q false x h o at mine f is = f is

-- the answer for a path is what its file says
recalled_of : (told : Type 0) (disk : Disk) (q : List ℕ) (hs : List AnsweredTurn) (h : AnsweredTurn) → AreRecalled told disk hs → answered_turn_of q hs ≡ Some h → told → IsFileAnswer (reads (disk (index_file q))) h.turn h.answer
recalled_of told disk q [] h recalled is = cc
recalled_of told disk q (x ∷ hs) h recalled is = recalled_case told disk q (bytes_eq x.turn.path q) x h _ refl recalled.0 (recalled_of told disk q hs h recalled.1) is

pub recalled_done : (told : Type 0) (disk : Disk) (paths : List (List ℕ)) (packages : List (ℕ × Package)) (hs : List AnsweredTurn) (verdicts : List Judged) → IsDone paths packages hs verdicts
    → AreRecalled told disk hs → AreVerdicts (IsVerdictByCacheAt told (λ q. reads (disk (index_file q))) (map (λ h. h.turn) hs)) packages verdicts
recalled_done told disk paths packages hs verdicts d recalled =
    all_verdicts (IsVerdictByCacheAt told (λ q. reads (disk (index_file q))) (map (λ (h : AnsweredTurn). h.turn) hs)) hs (λ version. refl)
    (λ q version h found. rw (turn_found q hs h found) (λ t. (h.answer, recalled_of told disk q hs h recalled found t, refl)))
    packages verdicts d.judged
