-- Calls on the host that fail, and what a failed one does (this project).
use Rattle.std.specs.Prelude.{◌≡◌, ◌≢◌, ◌≤◌, ◌++◌, ◌∷◌, [], ℕ, List, Option, Some, None, Result, Ok, Err, IfErr}
use Rattle.tame_names.specs.Counts.{CountRose}
use Rattle.tame_names.specs.declared.errors.Error.{Error}
use Rattle.tame_names.specs.declared.errors.Error.TheVariants as error
use Rattle.tame_names.specs.declared.errors.IoKind.TheVariants as io
use Rattle.tame_names.specs.declared.host.FailedCall.{FailedCall}
use Rattle.tame_names.specs.declared.host.FileCall.{FileCall}
use Rattle.tame_names.specs.declared.host.FileCall.TheVariants as file_call

-- ---- calls

-- the calls that ask for a variable, and for the current folder; and that read a file
abbrev pub env_call : List ℕ → FailedCall
env_call name = record { call = file_call.Env; path = Some name }

abbrev pub current_call : FailedCall
current_call = record { call = file_call.CurrentDir; path = None }

abbrev pub read_call : List ℕ → FailedCall
read_call path = record { call = file_call.Read; path = Some path }

-- the error of a failed call is `Io` with `Failed`; with the path if it reads a file
abbrev pub error_by : FileCall → Option (List ℕ) → Error
error_by file_call.Read (Some path) = error.IoPath io.Failed path
error_by _ _ = error.Io io.Failed

abbrev pub error_of : FailedCall → Error
error_of call = error_by call.call call.path

-- ---- what a failed one does

-- what a host has tells the reason, except that a call failed or that it is out of memory
abbrev pub IsTold : Error → Type 0
IsTold (error.Io io.Failed) = ⊥
IsTold (error.IoPath io.Failed path) = ⊥
IsTold error.NoMemory = ⊥
IsTold _ = Unit {0}

-- it wasn't out of memory
abbrev pub HadMemory : {T : Type 0} → Result T Error → Type 0
HadMemory result = IfErr result (λ e. e ≢ error.NoMemory)

-- an error of a failed call is that of one that may be asked, which was added to the failed ones;
-- any other added none
abbrev pub AddsBy : (FailedCall → Type 0) → List FailedCall → List FailedCall → Error → Type 0
AddsBy may before now (error.IoPath io.Failed path) =
    (now ≡ before ++ read_call path ∷ []) × may (read_call path)
AddsBy may before now (error.Io io.Failed) = (call : FailedCall)
    × (now ≡ before ++ call ∷ []) × (error_of call ≡ error.Io io.Failed) × may call
AddsBy may before now _ = now ≡ before

-- and so of an answer
abbrev pub AddsFailed : {T : Type 0} → (FailedCall → Type 0) → List FailedCall → List FailedCall
    → Result T Error → Type 0
AddsFailed may before now (Ok a) = now ≡ before
AddsFailed may before now (Err e) = AddsBy may before now e

-- the count never falls, and a failed call raised it
pub record HasCallCause {T : Type 0} (before now : ℕ) (result : Result T Error) : Type 0 where
  pub later : before ≤ now
  pub read : (path : List ℕ) → result ≡ Err (error.IoPath io.Failed path) → CountRose before now
  pub asked : result ≡ Err (error.Io io.Failed) → CountRose before now
