-- Steps on the locks of files, and what they change (this project).
use Rattle.std.specs.Prelude.{◌≡◌, ◌≤◌, ◌⊎◌, ℕ, List, [], ◌∷◌, ◌++◌, Bool, true, Option, Some, None, Result, Ok, Err}
use Rattle.tame_names.specs.Changes.{with_file}
use Rattle.tame_names.specs.Counts.{CountRose}
use Rattle.tame_names.specs.Standing.{Host, Nothing}
use Rattle.tame_names.specs.declared.errors.NoMemory.{NoMemory}
use Rattle.tame_names.specs.declared.host.FailedCall.{FailedCall}
use Rattle.tame_names.specs.declared.host.FileCall.TheVariants as file_call
use Rattle.tame_names.specs.declared.host.LockCall.TheVariants as lock_call
use Rattle.tame_names.specs.declared.host.LockOpenFault.{LockOpenFault}
use Rattle.tame_names.specs.declared.host.LockOpenFault.TheVariants as open_fault
use Rattle.tame_names.specs.declared.host.LockStep.{LockStep}
use Rattle.tame_names.specs.declared.host.LockTakeFault.{LockTakeFault}
use Rattle.tame_names.specs.declared.host.LockTakeFault.TheVariants as take_fault
use Rattle.tame_names.specs.declared.host.OpenedLock.{OpenedLock}

-- ---- steps

-- why a call was refused, if it was
abbrev pub fault_of : {T E : Type 0} → Result T E → Option E
fault_of (Ok a) = None
fault_of (Err e) = Some e

abbrev pub open_step : List ℕ → Bool → Option LockOpenFault → LockStep
open_step path exclusive fault =
    record { path = path; exclusive = exclusive; call = lock_call.Open fault }

abbrev pub take_step : List ℕ → Bool → Bool → Option LockTakeFault → LockStep
take_step path exclusive block fault =
    record { path = path; exclusive = exclusive; call = lock_call.Take block fault }

-- what a host was asked of locks: the steps, the files that it gave out to be locked, and those of
-- them whose lock was taken, each in order
pub record Locks : Type 0 where
  pub steps : List LockStep
  pub opened : List OpenedLock
  pub taken : List OpenedLock

-- an opening is a step, and a file that it gives out is one more; if out of memory, nothing changes
abbrev pub after_opening : List ℕ → Bool → Result (Result OpenedLock LockOpenFault) NoMemory
    → Locks → Locks
after_opening path exclusive (Ok (Ok file)) locks = record {
  steps = locks.steps ++ open_step path exclusive None ∷ [];
  opened = locks.opened ++ file ∷ [];
  taken = locks.taken;
}
after_opening path exclusive (Ok (Err fault)) locks = record {
  steps = locks.steps ++ open_step path exclusive (Some fault) ∷ [];
  opened = locks.opened;
  taken = locks.taken;
}
after_opening path exclusive (Err no_memory) locks = locks

-- a taking is a step, and if it succeeds its file is one more whose lock was taken; if out of
-- memory, nothing changes
abbrev pub after_taking : List ℕ → OpenedLock → Bool → Bool
    → Result (Result Unit LockTakeFault) NoMemory → Locks → Locks
after_taking path file exclusive block (Ok (Ok done)) locks = record {
  steps = locks.steps ++ take_step path exclusive block None ∷ [];
  opened = locks.opened;
  taken = locks.taken ++ file ∷ [];
}
after_taking path file exclusive block (Ok (Err fault)) locks = record {
  steps = locks.steps ++ take_step path exclusive block (Some fault) ∷ [];
  opened = locks.opened;
  taken = locks.taken;
}
after_taking path file exclusive block (Err no_memory) locks = locks

-- ---- calls that failed

-- a failed opening is added to the failed calls, and no other answer of it
abbrev pub failed_opening : List ℕ → Result (Result OpenedLock LockOpenFault) NoMemory
    → List FailedCall → List FailedCall
failed_opening path (Ok (Err open_fault.Failed)) calls =
    calls ++ record { call = file_call.OpenLock; path = Some path } ∷ []
failed_opening path _ calls = calls

-- a failed taking is added to the failed calls, and no other answer of it
abbrev pub failed_taking : List ℕ → Result (Result Unit LockTakeFault) NoMemory
    → List FailedCall → List FailedCall
failed_taking path (Ok (Err take_fault.Failed)) calls =
    calls ++ record { call = file_call.TakeLock; path = Some path } ∷ []
failed_taking path _ calls = calls

-- the count never falls, and a call that failed raised it
pub record HasLockCause (failed : Type 0) (before now : ℕ) : Type 0 where
  pub later : before ≤ now
  pub rose : failed → CountRose before now

-- ---- what the host has afterwards

-- a host stays, but that an exclusive opening may create an empty file if nothing was there
abbrev pub MayMake : Bool → List ℕ → Host → Host → Type 0
MayMake exclusive path before now = (now ≡ before)
    ⊎ ((exclusive ≡ true) × (before.stands path ≡ Nothing) × (now ≡ with_file path [] before))

-- a file may be there that wasn't: only a file that was given out, or a failed call, can leave one
abbrev pub Makes : Bool → List ℕ → Result (Result OpenedLock LockOpenFault) NoMemory
    → Host → Host → Type 0
Makes exclusive path (Ok (Ok file)) before now = MayMake exclusive path before now
Makes exclusive path (Ok (Err open_fault.Failed)) before now = MayMake exclusive path before now
Makes exclusive path _ before now = now ≡ before
