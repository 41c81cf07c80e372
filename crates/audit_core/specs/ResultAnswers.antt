-- What is read from what an index made of a response (this project).
use Rattle.std.specs.Prelude.{◌≡◌, ◌≢◌, ℕ, List, Some, None, Ok, Err}
use Rattle.tame_names.specs.declared.errors.Error.{Error}
use Rattle.tame_names.specs.declared.errors.Error.TheVariants as error
use Rattle.tame_names.specs.declared.errors.InvalidJsonLines.{InvalidJsonLines}
use Rattle.tame_names.specs.declared.errors.IoKind.TheVariants as io_kind
use Rattle.tame_entry.specs.declared.index_entries.IndexEntry.{IndexEntry}
use Rattle.tame_sparse.specs.ResponseResults.{ResponseResult, status_fault}
use Rattle.audit_core.specs.Answers.{entry_answer}
use Rattle.audit_core.specs.declared.answers.PathAnswer.{PathAnswer}
use Rattle.audit_core.specs.declared.answers.PathAnswer.TheVariants.{Settled}
use Rattle.audit_core.specs.declared.verdicts.Cause.TheVariants as cause

pub record IsAnswerOfResult (taken : ResponseResult) (a : PathAnswer) : Type 0 where
  pub lines : (entry : IndexEntry) → taken ≡ Ok (Some entry) → a ≡ entry_answer entry
  pub absent : taken ≡ Ok None → a ≡ Settled cause.Absent
  pub invalid : (why : InvalidJsonLines) → taken ≡ Err (error.InvalidJsonLines why)
      → a ≡ Settled cause.JsonLines
  pub status : (e : Error) (code : ℕ) (text : List ℕ) → taken ≡ Err e
      → status_fault e ≡ Some (code, text) → a ≡ Settled (cause.Status code)
  pub failed : taken ≡ Err (error.Io io_kind.Failed) → a ≡ Settled cause.Store
  pub memory : taken ≢ Err error.NoMemory
  pub store : a ≡ Settled cause.Store → taken ≡ Err (error.Io io_kind.Failed)
  pub wire : a ≢ Settled cause.Wire
