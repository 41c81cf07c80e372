-- Calls on the locks of a host in memory (this project).
use Rattle.std.specs.Prelude.{◌≡◌, ◌≢◌, List, [], ◌∷◌, flat_map, Bool, true, false, Option, Some, None, Result, Ok, Err, IfOk}
use Rattle.std.specs.List.{slice_get}
use Rattle.tame_names.specs.Counts.{IsListed, next_call}
use Rattle.tame_names.specs.Locks.{Locks, fault_of}
use Rattle.tame_names.specs.declared.errors.NoMemory.{NoMemory}
use Rattle.tame_names.specs.declared.host.LockOpenFault.{LockOpenFault}
use Rattle.tame_names.specs.declared.host.LockOpenFault.TheVariants as open_fault
use Rattle.tame_names.specs.declared.host.LockStep.{LockStep}
use Rattle.tame_names.specs.declared.host.LockTakeFault.{LockTakeFault}
use Rattle.tame_names.specs.declared.host.LockTakeFault.TheVariants as take_fault
use Rattle.tame_names.specs.declared.host.LockCall.{LockCall}
use Rattle.tame_names.specs.declared.host.LockCall.TheVariants as lock_call
use Rattle.tame_names.specs.declared.host.OpenedLock.{OpenedLock}
use Rattle.tame_names.specs.declared.memory_files.MemFiles.{MemFiles}
use Rattle.tame_names.specs.declared.memory_locks.LockAnswer.{LockAnswer}
use Rattle.tame_names.specs.declared.memory_locks.LockAnswer.TheVariants as lock_answer

-- a host in memory gives out no file of the system
abbrev pub no_file : OpenedLock
no_file = record { file = None }

-- the files that a step gave out
abbrev pub opened_by : LockCall → List OpenedLock
opened_by (lock_call.Open None) = no_file ∷ []
opened_by _ = []

-- the files whose lock a step took
abbrev pub taken_by : LockCall → List OpenedLock
taken_by (lock_call.Take block None) = no_file ∷ []
taken_by _ = []

-- the locks after these steps
abbrev pub locks_after : List LockStep → Locks
locks_after steps = record {
  steps = steps;
  opened = flat_map (λ step. opened_by step.call) steps;
  taken = flat_map (λ step. taken_by step.call) steps;
}

-- why an opening is refused, given its stated answer; without one it fails
abbrev pub opening_stated : Option LockAnswer → Option LockOpenFault
opening_stated (Some (lock_answer.Open fault)) = fault
opening_stated _ = Some open_fault.Failed

-- why a taking is refused, given its stated answer; without one it fails
abbrev pub taking_fault : Option LockAnswer → Option LockTakeFault
taking_fault (Some (lock_answer.Take fault)) = fault
taking_fault _ = Some take_fault.Failed

-- one that waits for its turn is never contested
abbrev pub waiting_fault : Option LockTakeFault → Option LockTakeFault
waiting_fault (Some take_fault.Contested) = Some take_fault.Failed
waiting_fault fault = fault

-- the same for a taking that may wait, of a file that it gave out; of a file of the system it fails
abbrev pub taking_stated : {A : Type 0} → Option A → Bool → Option LockAnswer → Option LockTakeFault
taking_stated None true stated = waiting_fault (taking_fault stated)
taking_stated None false stated = taking_fault stated
taking_stated (Some file) block stated = Some take_fault.Failed

-- one call more is counted, and one more answer is given. If its number is listed, it fails; else
-- the answer is the one that was stated. A failure is counted, and no other answer is
pub record LockCounted {T E : Type 0} (failed : E) (answer : Option E → LockAnswer)
    (stated : Option LockAnswer → Option E) (old new : MemFiles) (result : Result (Result T E) NoMemory) : Type 0 where
  pub count : new.calls ≡ next_call old.calls
  pub listed : new.fails ≡ old.fails
  pub asked : new.locks.asked ≡ next_call old.locks.asked
  pub answers : new.locks.answers ≡ old.locks.answers
  pub fails : IsListed new.calls old.fails → IfOk result (λ a. a ≡ Err failed)
  pub fed : ¬ (IsListed new.calls old.fails) → IfOk result (λ a.
      fault_of a ≡ stated (slice_get old.locks.answers old.locks.asked))
  pub counted : result ≡ Ok (Err failed) → new.faults ≡ next_call old.faults
  pub uncounted : result ≢ Ok (Err failed) → new.faults ≡ old.faults
  pub given : IfOk result (λ a. a ≢ Err failed
      → slice_get old.locks.answers old.locks.asked ≡ Some (answer (fault_of a)))
