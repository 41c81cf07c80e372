-- Verdicts by the cache alone (this project, after cargo-audit).
use Rattle.std.specs.Prelude.{◌≡◌, ◌⊎◌, ℕ, List, [], ◌∷◌, Option, Some, None, IsSomeAnd}
use Rattle.tame_names.specs.Counts.{CountRose}
use Rattle.tame_names.specs.Names.{IsIndexPath}
use Rattle.tame_cache.specs.Disk.{File, reads}
use Rattle.tame_cache.specs.Kept.{Disk}
use Rattle.audit_core.specs.Answers.{file_answer}
use Rattle.audit_core.specs.Turns.{index_file}
use Rattle.audit_core.specs.Verdicts.{turn_of, verdict_by}
use Rattle.audit_core.specs.declared.answers.PathAnswer.{PathAnswer}
use Rattle.audit_core.specs.declared.answers.PathAnswer.TheVariants.{Settled}
use Rattle.audit_core.specs.declared.asking.AnsweredTurn.{AnsweredTurn}
use Rattle.audit_core.specs.declared.asking.Turn.{Turn}
use Rattle.audit_core.specs.declared.verdicts.Cause.TheVariants as cause
use Rattle.audit_core.specs.declared.verdicts.Verdict.{Verdict}
use Rattle.audit_core.specs.declared.verdicts.Verdict.TheVariants.{Unchecked}

-- ---- of a path

-- what the file says; or that it couldn't be read, if the disk's count of faults rose
abbrev pub IsFileAnswer : File → Turn → PathAnswer → Type 0
IsFileAnswer file t a =
    (a ≡ file_answer file) ⊎ (CountRose t.disk_asked t.disk_after × (a ≡ Settled cause.Store))

-- nothing was asked: the counts of the wire are equal, and the disk wasn't read for a request; the
-- path is that of some name
pub record IsUnasked (t : Turn) : Type 0 where
  pub place : IsIndexPath t.path
  pub wire : t.wire_after ≡ t.wire_before
  pub disk : t.disk_asked ≡ t.disk_before

abbrev pub AreUnasked : List Turn → Type 0
AreUnasked [] = Unit {0}
AreUnasked (t ∷ ts) = IsUnasked t × AreUnasked ts

-- the answers for paths are what their files say
abbrev pub AreRecalled : Type 0 → Disk → List AnsweredTurn → Type 0
AreRecalled told disk [] = Unit {0}
AreRecalled told disk (h ∷ hs) =
    (told → IsFileAnswer (reads (disk (index_file h.turn.path))) h.turn h.answer)
    × AreRecalled told disk hs

-- ---- of a version

-- by the file that a read of the path gives
abbrev pub IsFileVerdict : File → Turn → List ℕ → Verdict → Type 0
IsFileVerdict file t version verdict =
    (a : PathAnswer) × IsFileAnswer file t a × (verdict ≡ verdict_by a version)

-- no path: nothing is read; else, if the disk tells it, by the file of the path
abbrev pub IsVerdictByCacheAt : Type 0 → (List ℕ → File) → List Turn → List ℕ → Option (List ℕ)
    → Verdict → Type 0
IsVerdictByCacheAt told files turns version None verdict = verdict ≡ Unchecked cause.Name
IsVerdictByCacheAt told files turns version (Some q) verdict =
    IsSomeAnd (turn_of q turns) (λ t. told → IsFileVerdict (files q) t version verdict)
