-- Verdicts by answers.
use Rattle.std.proofs.Common.{◌≡◌, ℕ, List, [], ◌∷◌, Bool, true, false, Option, Some, None, refl, sym, subst}
use Rattle.std.specs.Prelude.{◌||◌, IsSomeAnd}
use Rattle.tame_names.specs.Names.{path}
use Rattle.audit_lock.specs.declared.resolving.Package.{Package}
use Rattle.audit_core.specs.AnsweredTurns.{IsAnsweredAt, answered_turn_of}
use Rattle.audit_core.specs.Verdicts.{AreVerdicts, verdict_by}
use Rattle.audit_core.specs.declared.asking.AnsweredTurn.{AnsweredTurn}
use Rattle.audit_core.specs.declared.verdicts.Cause.TheVariants as cause
use Rattle.audit_core.specs.declared.verdicts.Judged.{Judged}
use Rattle.audit_core.specs.declared.verdicts.Verdict.{Verdict}
use Rattle.audit_core.specs.declared.verdicts.Verdict.TheVariants.{Unchecked}

pub or_cases : (a b : Bool) {P : Type 0} → (a || b) ≡ true → (a ≡ true → P) → (b ≡ true → P) → P
or_cases true b h f g = f refl
or_cases false b h f g = g h

answered_case : (Is : List ℕ → Option (List ℕ) → Verdict → Type 0) (hs : List AnsweredTurn) (q version : List ℕ) (o : Option AnsweredTurn) (v : Verdict) → answered_turn_of q hs ≡ o
    → ((h : AnsweredTurn) → answered_turn_of q hs ≡ Some h → Is version (Some q) (verdict_by h.answer version)) → IsSomeAnd o (λ h. v ≡ verdict_by h.answer version) → Is version (Some q) v
answered_case Is hs q version None v at f is = absurd is
answered_case Is hs q version (Some h) v at f is =
    let P : Verdict → Type 0 = λ x. Is version (Some q) x in
    subst P (sym is) (f h at)

one_verdict : (Is : List ℕ → Option (List ℕ) → Verdict → Type 0) (hs : List AnsweredTurn) (version : List ℕ) (o : Option (List ℕ)) (v : Verdict) → Is version None (Unchecked cause.Name)
    → ((q : List ℕ) (h : AnsweredTurn) → answered_turn_of q hs ≡ Some h → Is version (Some q) (verdict_by h.answer version)) → IsAnsweredAt hs version o v → Is version o v
one_verdict Is hs version None v nameless named is =
    let P : Verdict → Type 0 = λ x. Is version None x in
    subst P (sym is) nameless
one_verdict Is hs version (Some q) v nameless named is = answered_case Is hs q version (answered_turn_of q hs) v refl (named q) is

-- what holds for the verdict of every version by the answer for a path, holds for the verdicts
pub all_verdicts : (Is : List ℕ → Option (List ℕ) → Verdict → Type 0) (hs : List AnsweredTurn) → ((version : List ℕ) → Is version None (Unchecked cause.Name))
    → ((q version : List ℕ) (h : AnsweredTurn) → answered_turn_of q hs ≡ Some h → Is version (Some q) (verdict_by h.answer version))
    → (ps : List (ℕ × Package)) (js : List Judged) → AreVerdicts (IsAnsweredAt hs) ps js → AreVerdicts Is ps js
all_verdicts Is hs nameless named [] [] h = tt
all_verdicts Is hs nameless named [] (j ∷ js) h = absurd h
all_verdicts Is hs nameless named (p ∷ ps) [] h = absurd h
all_verdicts Is hs nameless named (p ∷ ps) (j ∷ js) h =
    (h.0, one_verdict Is hs p.1.version (path p.1.name) j.verdict (nameless p.1.version) (λ q. named q p.1.version) h.1, all_verdicts Is hs nameless named ps js h.2)
