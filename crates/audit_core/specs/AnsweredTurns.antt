-- Verdicts by the answers for the paths (this project).
use Rattle.std.specs.Prelude.{◌≡◌, ℕ, List, Option, Some, None, bytes_eq, find, IsSomeAnd}
use Rattle.audit_core.specs.Verdicts.{verdict_by}
use Rattle.audit_core.specs.declared.asking.AnsweredTurn.{AnsweredTurn}
use Rattle.audit_core.specs.declared.verdicts.Cause.TheVariants as cause
use Rattle.audit_core.specs.declared.verdicts.Verdict.{Verdict}
use Rattle.audit_core.specs.declared.verdicts.Verdict.TheVariants.{Unchecked}

-- the turn of a path, with its answer
abbrev pub answered_turn_of : List ℕ → List AnsweredTurn → Option AnsweredTurn
answered_turn_of q hs = find (λ h. bytes_eq h.turn.path q) hs

-- no path: nothing is asked; else by the answer for it
abbrev pub IsAnsweredAt : List AnsweredTurn → List ℕ → Option (List ℕ) → Verdict → Type 0
IsAnsweredAt hs version None verdict = verdict ≡ Unchecked cause.Name
IsAnsweredAt hs version (Some q) verdict =
    IsSomeAnd (answered_turn_of q hs) (λ h. verdict ≡ verdict_by h.answer version)
