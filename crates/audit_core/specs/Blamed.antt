-- Which call on the disk failed if an answer blames the store (this project).
use Rattle.std.specs.Prelude.{◌≡◌, ◌≢◌, ℕ, List}
use Rattle.tame_cache.specs.FailedCalls.{FailedDiskCalls, FailedReading}
use Rattle.tame_sparse.specs.ResponseResults.{FailedAtMostWriting}
use Rattle.audit_core.specs.declared.answers.PathAnswer.{PathAnswer}
use Rattle.audit_core.specs.declared.answers.PathAnswer.TheVariants.{Settled}
use Rattle.audit_core.specs.declared.verdicts.Cause.TheVariants as cause

-- by the cache alone: the store is blamed if the read of this file failed, and no other call did;
-- else none failed
pub record BlamesRead (q : List ℕ) (before now : FailedDiskCalls) (a : PathAnswer) : Type 0 where
  pub store : a ≡ Settled cause.Store → FailedReading q before now
  pub quiet : a ≢ Settled cause.Store → now ≡ before

-- after an exchange: the store is blamed if the read of this file failed, and no other call did;
-- else at most one call failed that writes it
pub record BlamesStore (q : List ℕ) (before now : FailedDiskCalls) (a : PathAnswer) : Type 0 where
  pub store : a ≡ Settled cause.Store → FailedReading q before now
  pub else_writing : a ≢ Settled cause.Store → FailedAtMostWriting q before now
