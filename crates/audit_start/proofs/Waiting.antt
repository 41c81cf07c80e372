-- A wait for a lock, by what its callback says.
use Rattle.std.proofs.Common.{◌≡◌, ℕ, List, Bool, Option, Some, None, Result, Ok, Err}
use Rattle.tame_names.specs.declared.errors.LockError.{LockError}
use Rattle.tame_names.specs.declared.host.LockTakeFault.{LockTakeFault}
use Rattle.tame_names.specs.declared.host.LockTakeFault.TheVariants as take_fault
use Rattle.tame_names.specs.declared.locks.LockState.{LockState}
use Rattle.tame_location.specs.Locks.{GoesOn, IsLockedWaiting, IsTaken, IsWaiting, LockMoment, Waits}

-- what follows a try, if all that the callback may say is so
goes_wider : (says wider : Option ℕ → Type 0) (path : List ℕ) (exclusive : Bool) (why : Option LockTakeFault) (m n : LockMoment) (r : Result Unit LockError) → ((a : Option ℕ) → says a → wider a)
    → GoesOn ((a : Option ℕ) × says a × Waits a path exclusive m n r) why m n r → GoesOn ((a : Option ℕ) × wider a × Waits a path exclusive m n r) why m n r
goes_wider says wider path exclusive None m n r all h = h
goes_wider says wider path exclusive (Some take_fault.Contested) m n r all h = (h.0, all h.0 h.1, h.2)
goes_wider says wider path exclusive (Some take_fault.NotSupported) m n r all h = h
goes_wider says wider path exclusive (Some take_fault.Failed) m n r all h = h

taken_wider : (says wider : Option ℕ → Type 0) (path : List ℕ) (m n : LockMoment) (opened held : Result LockState LockError) → ((a : Option ℕ) → says a → wider a)
    → IsTaken (λ alone. IsWaiting says path alone) m n opened held → IsTaken (λ alone. IsWaiting wider path alone) m n opened held
taken_wider says wider path m n (Err e) held all h = h
taken_wider says wider path m n (Ok s) held all h =
    (h.0, (h.1.0, h.1.1, h.1.2, goes_wider says wider path _ h.1.0 h.1.1 n h.0 all h.1.3), h.2)

pub waiting_wider : (says wider : Option ℕ → Type 0) (exclusive fallback : Bool) (path : List ℕ) (m n : LockMoment) (held : Result LockState LockError) → ((a : Option ℕ) → says a → wider a)
    → IsLockedWaiting says exclusive fallback path m n held → IsLockedWaiting wider exclusive fallback path m n held
waiting_wider says wider exclusive fallback path m n held all h =
    (h.0, h.1, h.2, taken_wider says wider path h.0 n h.1 held all h.3)
