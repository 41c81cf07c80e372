-- Which calls on the disk failed in the turns of an audit (this project).
use Rattle.std.specs.Prelude.{◌≡◌, ◌⊎◌, ℕ, List, [], ◌∷◌}
use Rattle.tame_cache.specs.FailedCalls.{FailedDiskCalls, FailedReading}
use Rattle.audit_core.specs.Blamed.{BlamesRead, BlamesStore}
use Rattle.audit_core.specs.Turns.{index_file}
use Rattle.audit_core.specs.declared.answers.PathAnswer.{PathAnswer}
use Rattle.audit_core.specs.declared.asking.AnsweredTurn.{AnsweredTurn}

-- by the cache alone: each turn blames the read of its own file, and goes on from the end of the
-- one before
abbrev pub BlameReads : FailedDiskCalls → List AnsweredTurn → FailedDiskCalls → Type 0
BlameReads before [] now = now ≡ before
BlameReads before (h ∷ hs) now =
    (mid : FailedDiskCalls) × BlamesRead (index_file h.turn.path) before mid h.answer
    × BlameReads mid hs now

-- a turn that asks: before its exchange at most the read of its file failed
abbrev pub TurnFails : List ℕ → FailedDiskCalls → FailedDiskCalls → PathAnswer → Type 0
TurnFails q before now a =
    (asked : FailedDiskCalls) × ((asked ≡ before) ⊎ FailedReading q before asked)
    × BlamesStore q asked now a

abbrev pub TurnsFail : FailedDiskCalls → List AnsweredTurn → FailedDiskCalls → Type 0
TurnsFail before [] now = now ≡ before
TurnsFail before (h ∷ hs) now =
    (mid : FailedDiskCalls) × TurnFails (index_file h.turn.path) before mid h.answer
    × TurnsFail mid hs now
