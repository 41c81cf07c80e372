-- The lock of a file, as cargo takes it on its package cache (this project, by what cargo does).
use Rattle.std.specs.Prelude.{◌≡◌, ◌≢◌, ℕ, zero, suc, codes, List, [], ◌∷◌, ◌++◌, take, Bool, true, false, Option, Some, None, IfSome, Result, Ok, Err}
use Rattle.toml_tables.specs.Results.{and_then}
use Rattle.tame_names.specs.Changes.{with_folders}
use Rattle.tame_names.specs.Locks.{HasLockCause, Locks, MayMake, open_step, take_step}
use Rattle.tame_names.specs.Paths.{join, parent, ways_to}
use Rattle.tame_names.specs.Standing.{Host}
use Rattle.tame_names.specs.declared.errors.Error.{Error}
use Rattle.tame_names.specs.declared.errors.Error.TheVariants as fault
use Rattle.tame_names.specs.declared.errors.LockError.{LockError}
use Rattle.tame_names.specs.declared.errors.LockError.TheVariants as error
use Rattle.tame_names.specs.declared.errors.NoMemory.{NoMemory}
use Rattle.tame_names.specs.declared.host.FailedCall.{FailedCall}
use Rattle.tame_names.specs.declared.host.FileCall.TheVariants as file_call
use Rattle.tame_names.specs.declared.host.LockOpenFault.{LockOpenFault}
use Rattle.tame_names.specs.declared.host.LockOpenFault.TheVariants as open_fault
use Rattle.tame_names.specs.declared.host.LockTakeFault.{LockTakeFault}
use Rattle.tame_names.specs.declared.host.LockTakeFault.TheVariants as take_fault
use Rattle.tame_names.specs.declared.host.OpenedLock.{OpenedLock}
use Rattle.tame_names.specs.declared.locks.FileLock.{FileLock}
use Rattle.tame_names.specs.declared.locks.LockState.{LockState}
use Rattle.tame_names.specs.declared.locks.LockState.TheVariants as state
use Rattle.tame_location.specs.Folders.{root_of}
use Rattle.tame_location.specs.declared.locks.LockRefusal.{LockRefusal}
use Rattle.tame_location.specs.declared.locks.LockRefusal.TheVariants as refusal

-- ---- steps

-- a host at a moment: what it was asked of locks up to then, what it has, how often a call failed,
-- and which calls did
pub record LockMoment : Type 0 where
  pub locks : Locks
  pub host : Host
  pub faults : ℕ
  pub failed : List FailedCall

abbrev pub lock_moment : Locks → Host → ℕ → List FailedCall → LockMoment
lock_moment locks host faults failed =
    record { locks = locks; host = host; faults = faults; failed = failed }

-- the calls that have failed after an opening that was refused so, a taking, and the creation of a
-- folder that was created or wasn't
abbrev pub with_opening : List ℕ → Option LockOpenFault → List FailedCall → List FailedCall
with_opening path (Some open_fault.Failed) calls =
    calls ++ record { call = file_call.OpenLock; path = Some path } ∷ []
with_opening path _ calls = calls

abbrev pub with_taking : List ℕ → Option LockTakeFault → List FailedCall → List FailedCall
with_taking path (Some take_fault.Failed) calls =
    calls ++ record { call = file_call.TakeLock; path = Some path } ∷ []
with_taking path _ calls = calls

abbrev pub with_making : List ℕ → Bool → List FailedCall → List FailedCall
with_making folder true calls = calls
with_making folder false calls =
    calls ++ record { call = file_call.MakeDirs; path = Some folder } ∷ []

-- an opening of the file, and why it was refused, if it was: it is a step, a failed one was
-- counted, and an exclusive one that wasn't refused, or failed, may have created an empty file
pub record Opens (path : List ℕ) (exclusive : Bool) (why : Option LockOpenFault)
    (before now : LockMoment) : Type 0 where
  pub step : now.locks.steps ≡ before.locks.steps ++ open_step path exclusive why ∷ []
  pub cause : HasLockCause (why ≡ Some open_fault.Failed) before.faults now.faults
  pub made : MayMake exclusive path before.host now.host
  pub refused : IfSome why (λ f. f ≢ open_fault.Failed → now.host ≡ before.host)
  pub failed : now.failed ≡ with_opening path why before.failed

-- a taking of its lock, and why it was refused, if it was
pub record Takes (path : List ℕ) (exclusive block : Bool) (why : Option LockTakeFault)
    (before now : LockMoment) : Type 0 where
  pub step : now.locks.steps ≡ before.locks.steps ++ take_step path exclusive block why ∷ []
  pub cause : HasLockCause (why ≡ Some take_fault.Failed) before.faults now.faults
  pub same : now.host ≡ before.host
  pub failed : now.failed ≡ with_taking path why before.failed

-- ---- opening

abbrev pub refused_open : LockOpenFault → LockError
refused_open open_fault.Denied = error.Readonly
refused_open open_fault.NotFound = error.Open
refused_open open_fault.Failed = error.Open

abbrev pub by_shared : Option LockOpenFault → Result LockState LockError
by_shared None = Ok state.Shared
by_shared (Some why) = Err (refused_open why)

-- a shared opening
abbrev pub IsShared : List ℕ → LockMoment → LockMoment → Result LockState LockError → Type 0
IsShared path before now result =
    (why : Option LockOpenFault) × Opens path false why before now × (result ≡ by_shared why)

-- what follows an exclusive opening that was denied: a shared one, if that may take its place
abbrev pub FallsBack : Bool → List ℕ → LockMoment → LockMoment → Result LockState LockError → Type 0
FallsBack true path before now result = IsShared path before now result
FallsBack false path before now result = (result ≡ Err error.Readonly) × (now ≡ before)

-- what follows an exclusive opening once the folder is created
abbrev pub Follows : Bool → List ℕ → Option LockOpenFault → LockMoment → LockMoment
    → Result LockState LockError → Type 0
Follows fallback path None before now result = (result ≡ Ok state.Exclusive) × (now ≡ before)
Follows fallback path (Some open_fault.Denied) before now result =
    FallsBack fallback path before now result
Follows fallback path (Some open_fault.NotFound) before now result =
    (result ≡ Err error.Open) × (now ≡ before)
Follows fallback path (Some open_fault.Failed) before now result =
    (result ≡ Err error.Open) × (now ≡ before)

-- an exclusive opening once the folder is created
abbrev pub IsAgain : Bool → List ℕ → LockMoment → LockMoment → Result LockState LockError → Type 0
IsAgain fallback path before now result = (why : Option LockOpenFault)
    × (middle : LockMoment) × Opens path true why before middle
    × Follows fallback path why middle now result

-- all folders on these ways are created, or the first few of them
abbrev pub AreMade : Bool → List (List ℕ) → Host → Host → Type 0
AreMade true ways before now = now ≡ with_folders ways before
AreMade false ways before now = (n : ℕ) × (now ≡ with_folders (take n ways) before)

-- the creation of a folder, which may fail: it is no step, and a failure was counted
pub record MakesFolder (made : Bool) (folder : List ℕ) (before now : LockMoment) : Type 0 where
  pub locks : now.locks ≡ before.locks
  pub cause : HasLockCause (made ≡ false) before.faults now.faults
  pub failed : now.failed ≡ with_making folder made before.failed
  pub folders : AreMade made (ways_to folder) before.host now.host

-- whether the folder that the file is in is created: it is in none; it is in the current one, which
-- is there; or it is one that must be created
abbrev pub IsMade : Bool → Option (List ℕ) → LockMoment → LockMoment → Type 0
IsMade made None before now = (made ≡ false) × (now ≡ before)
IsMade made (Some []) before now = (made ≡ true) × (now ≡ before)
IsMade made (Some (b ∷ bs)) before now = MakesFolder made (b ∷ bs) before now

-- what follows an exclusive opening that found nothing: another one, if the folder is created
abbrev pub Retries : Bool → Bool → List ℕ → LockMoment → LockMoment → Result LockState LockError → Type 0
Retries true fallback path before now result = IsAgain fallback path before now result
Retries false fallback path before now result = (result ≡ Err error.CreateDir) × (now ≡ before)

abbrev pub IsBelow : Bool → List ℕ → LockMoment → LockMoment → Result LockState LockError → Type 0
IsBelow fallback path before now result = (made : Bool) × (middle : LockMoment)
    × IsMade made (parent path) before middle × Retries made fallback path middle now result

-- what follows the first exclusive opening
abbrev pub Goes : Bool → List ℕ → Option LockOpenFault → LockMoment → LockMoment
    → Result LockState LockError → Type 0
Goes fallback path None before now result = (result ≡ Ok state.Exclusive) × (now ≡ before)
Goes fallback path (Some open_fault.NotFound) before now result =
    IsBelow fallback path before now result
Goes fallback path (Some open_fault.Denied) before now result =
    FallsBack fallback path before now result
Goes fallback path (Some open_fault.Failed) before now result =
    (result ≡ Err error.Open) × (now ≡ before)

-- an exclusive opening
abbrev pub IsExclusive : Bool → List ℕ → LockMoment → LockMoment → Result LockState LockError → Type 0
IsExclusive fallback path before now result = (why : Option LockOpenFault)
    × (middle : LockMoment) × Opens path true why before middle
    × Goes fallback path why middle now result

-- an opening, exclusive or shared
abbrev pub IsOpening : Bool → Bool → List ℕ → LockMoment → LockMoment → Result LockState LockError → Type 0
IsOpening true fallback path before now result = IsExclusive fallback path before now result
IsOpening false fallback path before now result = IsShared path before now result

-- ---- taking

abbrev pub is_exclusive : LockState → Bool
is_exclusive state.Exclusive = true
is_exclusive state.Shared = false
is_exclusive state.Unlocked = false

abbrev pub by_taking : Option LockTakeFault → Result Unit LockError
by_taking None = Ok tt
by_taking (Some take_fault.Contested) = Err error.Contested
by_taking (Some take_fault.NotSupported) = Err error.NotSupported
by_taking (Some take_fault.Failed) = Err error.Lock

-- one taking, which may or may not wait for its turn
abbrev pub IsTaking : List ℕ → Bool → Bool → LockMoment → LockMoment → Result Unit LockError → Type 0
IsTaking path exclusive block before now result = (why : Option LockTakeFault)
    × Takes path exclusive block why before now × (result ≡ by_taking why)

-- if a taking was contested, this holds; else its answer is the result
abbrev pub GoesOn : Type 0 → Option LockTakeFault → LockMoment → LockMoment → Result Unit LockError → Type 0
GoesOn more (Some take_fault.Contested) before now result = more
GoesOn more why before now result = (result ≡ by_taking why) × (now ≡ before)

-- this many tries, until one isn't contested
abbrev pub AreTries : ℕ → List ℕ → Bool → LockMoment → LockMoment → Result Unit LockError → Type 0
AreTries zero path exclusive before now result = (result ≡ Err error.TimedOut) × (now ≡ before)
AreTries (suc n) path exclusive before now result = (why : Option LockTakeFault)
    × (middle : LockMoment) × Takes path exclusive false why before middle
    × GoesOn (AreTries n path exclusive middle now result) why middle now result

-- what follows a contested taking, by what the callback says: one that waits for its turn, or this
-- many tries
abbrev pub Waits : Option ℕ → List ℕ → Bool → LockMoment → LockMoment → Result Unit LockError → Type 0
Waits None path exclusive before now result = IsTaking path exclusive true before now result
Waits (Some n) path exclusive before now result = AreTries n path exclusive before now result

-- one taking that doesn't wait, and after a contested one what the callback says
abbrev pub IsWaiting : (Option ℕ → Type 0) → List ℕ → Bool → LockMoment → LockMoment
    → Result Unit LockError → Type 0
IsWaiting says path exclusive before now result = (why : Option LockTakeFault)
    × (middle : LockMoment) × Takes path exclusive false why before middle
    × GoesOn ((answer : Option ℕ) × says answer × Waits answer path exclusive middle now result)
    why middle now result

-- ---- the whole of it

-- a state, if its lock was taken
abbrev pub with_state : LockState → Result Unit LockError → Result LockState LockError
with_state s (Ok done) = Ok s
with_state s (Err e) = Err e

-- an opened file's lock is taken in this way
abbrev pub IsTaken : (Bool → LockMoment → LockMoment → Result Unit LockError → Type 0)
    → LockMoment → LockMoment → Result LockState LockError → Result LockState LockError → Type 0
IsTaken taking before now (Err e) held = (held ≡ Err e) × (now ≡ before)
IsTaken taking before now (Ok s) held = (taken : Result Unit LockError)
    × taking (is_exclusive s) before now taken × (held ≡ with_state s taken)

-- a file is opened in this way, and its lock taken in that
abbrev pub IsHeld : (LockMoment → LockMoment → Result LockState LockError → Type 0)
    → (Bool → LockMoment → LockMoment → Result Unit LockError → Type 0)
    → LockMoment → LockMoment → Result LockState LockError → Type 0
IsHeld opening taking before now held = (middle : LockMoment) × (opened : Result LockState LockError)
    × opening before middle opened × IsTaken taking middle now opened held

-- the lock is taken, if it can be at once
abbrev pub IsLockedAtOnce : Bool → Bool → List ℕ → LockMoment → LockMoment → Result LockState LockError
    → Type 0
IsLockedAtOnce exclusive fallback path before now held =
    IsHeld (IsOpening exclusive fallback path) (λ alone. IsTaking path alone false) before now held

-- the lock is taken; the callback says how long to wait
abbrev pub IsLockedWaiting : (Option ℕ → Type 0) → Bool → Bool → List ℕ → LockMoment → LockMoment
    → Result LockState LockError → Type 0
IsLockedWaiting says exclusive fallback path before now held =
    IsHeld (IsOpening exclusive fallback path) (λ alone. IsWaiting says path alone) before now held

-- ---- whose lock is taken

-- no file more was given out, and no lock more was taken
pub record IsLeft (before now : Locks) : Type 0 where
  pub opened : now.opened ≡ before.opened
  pub taken : now.taken ≡ before.taken

-- this file is the last one that was given out; no lock more was taken
pub record IsGiven (file : OpenedLock) (before now : Locks) : Type 0 where
  pub opened : now.opened ≡ before.opened ++ file ∷ []
  pub taken : now.taken ≡ before.taken

-- an opening gives one file, or none
abbrev pub GivesAt : Result (Result OpenedLock LockOpenFault) NoMemory → Locks → Locks → Type 0
GivesAt (Ok (Ok file)) before now = IsGiven file before now
GivesAt _ before now = IsLeft before now

-- so do several of them, up to the first that isn't refused
abbrev pub Gives : Result (OpenedLock × LockState) LockRefusal → Locks → Locks → Type 0
Gives (Ok opened) before now = IsGiven opened.0 before now
Gives (Err why) before now = IsLeft before now

-- this file's lock is the last one that was taken; no file more was given out
pub record IsTakenLast (file : OpenedLock) (before now : Locks) : Type 0 where
  pub opened : now.opened ≡ before.opened
  pub taken : now.taken ≡ before.taken ++ file ∷ []

-- a taking takes the lock of this file, or none
abbrev pub IsTakenAt : OpenedLock → Result (Result Unit LockTakeFault) NoMemory → Locks → Locks
    → Type 0
IsTakenAt file (Ok (Ok done)) before now = IsTakenLast file before now
IsTakenAt file _ before now = IsLeft before now

-- so do several of them, up to the first that takes it
abbrev pub IsTakenBy : OpenedLock → Result Unit LockRefusal → Locks → Locks → Type 0
IsTakenBy file (Ok done) before now = IsTakenLast file before now
IsTakenBy file (Err why) before now = IsLeft before now

-- the file that a lock holds is the only one that was given out, and the only one whose lock was
-- taken
pub record IsHeldBy (file : OpenedLock) (before now : Locks) : Type 0 where
  pub opened : now.opened ≡ before.opened ++ file ∷ []
  pub taken : now.taken ≡ before.taken ++ file ∷ []

-- an answered lock holds the file whose lock was taken; any other answer leaves none taken
abbrev pub Holds : {E : Type 0} → Result FileLock E → Locks → Locks → Type 0
Holds (Ok held) before now = IsHeldBy held.opened before now
Holds (Err why) before now = now.taken ≡ before.taken

-- ---- why it isn't

-- why a file isn't opened: no taking gives these reasons
abbrev pub IsOpenRefusal : LockRefusal → Type 0
IsOpenRefusal (refusal.Lock error.Open) = Unit {0}
IsOpenRefusal (refusal.Lock error.Readonly) = Unit {0}
IsOpenRefusal (refusal.Lock error.CreateDir) = Unit {0}
IsOpenRefusal (refusal.Lock _) = ⊥
IsOpenRefusal refusal.NoMemory = Unit {0}

-- why one taking takes no lock: another holds it only if it doesn't wait
abbrev pub IsTakeRefusal : Bool → LockRefusal → Type 0
IsTakeRefusal block (refusal.Lock error.Contested) = block ≡ false
IsTakeRefusal block (refusal.Lock error.NotSupported) = Unit {0}
IsTakeRefusal block (refusal.Lock error.Lock) = Unit {0}
IsTakeRefusal block (refusal.Lock _) = ⊥
IsTakeRefusal block refusal.NoMemory = Unit {0}

-- why several tries take none
abbrev pub IsTryRefusal : LockRefusal → Type 0
IsTryRefusal (refusal.Lock error.TimedOut) = Unit {0}
IsTryRefusal (refusal.Lock error.NotSupported) = Unit {0}
IsTryRefusal (refusal.Lock error.Lock) = Unit {0}
IsTryRefusal (refusal.Lock _) = ⊥
IsTryRefusal refusal.NoMemory = Unit {0}

-- why a file isn't locked: each reason but this one
abbrev pub IsRefusal : LockError → LockRefusal → Type 0
IsRefusal never (refusal.Lock e) = e ≢ never
IsRefusal never refusal.NoMemory = Unit {0}

-- the error of it: with the path, and each reason but this one; or out of memory
abbrev pub IsLockedError : List ℕ → LockError → Error → Type 0
IsLockedError path never (fault.Lock e) = (e.path ≡ path) × (e.source ≢ never)
IsLockedError path never fault.NoMemory = Unit {0}
IsLockedError path never _ = ⊥

-- a taking failed, which the host has counted
abbrev pub IsLockFault : Result FileLock Error → Type 0
IsLockFault (Err (fault.Lock e)) = e.source ≡ error.Lock
IsLockFault _ = ⊥

-- ---- what is told

-- what holds of a taking or of why there is none; nothing if out of memory
abbrev pub TellsTaken : (Result Unit LockError → Type 0) → Result Unit LockRefusal → Type 0
TellsTaken holds (Ok done) = holds (Ok tt)
TellsTaken holds (Err (refusal.Lock e)) = holds (Err e)
TellsTaken holds (Err refusal.NoMemory) = Unit {0}

-- what holds of a state or of why there is none; nothing if out of memory
abbrev pub Tells : (Result LockState LockError → Type 0) → Result (OpenedLock × LockState) LockRefusal
    → Type 0
Tells holds (Ok opened) = holds (Ok opened.1)
Tells holds (Err (refusal.Lock e)) = holds (Err e)
Tells holds (Err refusal.NoMemory) = Unit {0}

-- what holds of a held lock's state or of why there is none; nothing if out of memory
abbrev pub TellsHeld : (Result LockState LockError → Type 0) → Result FileLock LockRefusal → Type 0
TellsHeld holds (Ok held) = holds (Ok held.state)
TellsHeld holds (Err (refusal.Lock e)) = holds (Err e)
TellsHeld holds (Err refusal.NoMemory) = Unit {0}

-- the same of an answer: an error is one of the lock with its path, or out of memory
abbrev pub TellsLock : List ℕ → (Result LockState LockError → Type 0) → Result FileLock Error
    → Type 0
TellsLock path holds (Ok held) = holds (Ok held.state)
TellsLock path holds (Err (fault.Lock e)) = (e.path ≡ path) × holds (Err e.source)
TellsLock path holds (Err fault.NoMemory) = Unit {0}
TellsLock path holds (Err _) = ⊥

-- the folders on the way to the one that a file is in
abbrev pub folder_ways : Option (List ℕ) → List (List ℕ)
folder_ways None = []
folder_ways (Some folder) = ways_to folder

-- what a host has stays, but that an exclusive opening may create folders on the way to the file,
-- from the first on, and then an empty file if nothing is there
abbrev pub Leaves : Bool → List ℕ → Host → Host → Type 0
Leaves false path before now = now ≡ before
Leaves true path before now = (n : ℕ)
    × MayMake true path (with_folders (take n (folder_ways (parent path))) before) now

-- the lock of cargo's package cache, in the given root or in cargo's home
abbrev pub package_lock : Option (List ℕ) → Host → Result (List ℕ) Error
package_lock root host =
    and_then (λ folder. Ok (join folder (codes ".package-cache"))) (root_of root host)

-- the answer of a call: with the path of the file if its lock isn't held
abbrev pub answer_of : List ℕ → Result FileLock LockRefusal → Result FileLock Error
answer_of path (Ok held) = Ok held
answer_of path (Err (refusal.Lock why)) = Err (fault.Lock (record { path = path; source = why }))
answer_of path (Err refusal.NoMemory) = Err fault.NoMemory
