-- How the lock of the cache is taken, and what is done if it can't be had (this project, after cargo's
-- lock on its package cache).
use Rattle.std.specs.Prelude.{◌≡◌, ◌⊎◌, ◌++◌, ◌∷◌, [], ℕ, codes, List, Bool, true, false, None, Result, Ok, Err}
use Rattle.tame_names.specs.Locks.{Locks}
use Rattle.tame_names.specs.Standing.{Host}
use Rattle.tame_names.specs.declared.errors.LockError.{LockError}
use Rattle.tame_names.specs.declared.errors.LockError.TheVariants as error
use Rattle.tame_names.specs.declared.locks.FileLock.{FileLock}
use Rattle.tame_names.specs.declared.locks.LockState.{LockState}
use Rattle.tame_names.specs.declared.locks.LockState.TheVariants as state
use Rattle.tame_location.specs.Locks.{IsLockedAtOnce, IsLockedWaiting, LockMoment, Leaves, is_exclusive}

-- the line while another run has the lock
abbrev pub waiting_line : List ℕ
waiting_line = codes "Blocking waiting for file lock on cache folder\n"

-- what standard error shows of a taking: nothing was printed, or the line was printed
pub record Shows : Type 1 where
  pub nothing : Type 0
  pub waiting : Type 0

abbrev pub shows : Type 0 → Type 0 → Shows
shows nothing waiting = record { nothing = nothing; waiting = waiting }

-- ---- the taking

-- the state of a taking's answer
abbrev pub state_by : Result FileLock LockError → Result LockState LockError
state_by (Ok lock) = Ok lock.state
state_by (Err why) = Err why

-- how the lock is held in the end: not at all if it can't be had
abbrev pub held_state : Result LockState LockError → LockState
held_state (Ok held) = held
held_state (Err why) = state.Unlocked

-- the turn is waited for, however long that takes
abbrev pub IsWaitedFor : Bool → List ℕ → LockMoment → LockMoment → LockState → Type 0
IsWaitedFor exclusive path before now held = (answer : Result LockState LockError)
    × IsLockedWaiting (λ limit. limit ≡ None) exclusive false path before now answer
    × (held ≡ held_state answer)

-- what follows the first try: if another run has the lock, the line is printed and the turn waited
-- for; any other answer is the end
abbrev pub Follows : Shows → Bool → List ℕ → Result LockState LockError → LockMoment → LockMoment
    → LockState → Type 0
Follows shown exclusive path (Err error.Contested) before now held =
    shown.waiting × IsWaitedFor exclusive path before now held
Follows shown exclusive path tried before now held =
    shown.nothing × (now ≡ before) × (held ≡ held_state tried)

-- a try at once, and what follows it
abbrev pub IsTried : Shows → Bool → List ℕ → LockMoment → LockMoment → LockState → Type 0
IsTried shown exclusive path before now held = (middle : LockMoment)
    × (tried : Result LockState LockError)
    × IsLockedAtOnce exclusive false path before middle tried
    × Follows shown exclusive path tried middle now held

-- nothing is done, and no lock is held
abbrev pub IsLeftOut : Shows → LockMoment → LockMoment → LockState → Type 0
IsLeftOut shown before now held =
    shown.nothing × (now ≡ before) × (held ≡ state.Unlocked)

-- none is taken of a link, a folder or another thing that is no plain file
abbrev pub IsTriedIf : Bool → Shows → Bool → List ℕ → LockMoment → LockMoment → LockState → Type 0
IsTriedIf true shown exclusive path before now held =
    IsTried shown exclusive path before now held
IsTriedIf false shown exclusive path before now held = IsLeftOut shown before now held

-- by what a look at the path says
abbrev pub IsTaking : (Bool → Type 0) → Shows → Bool → List ℕ → LockMoment → LockMoment → LockState
    → Type 0
IsTaking Looks shown exclusive path before now held =
    (plain : Bool) × Looks plain × IsTriedIf plain shown exclusive path before now held

-- the lock that is needed is taken so; if none is needed, nothing is done
abbrev pub IsTakenAs : LockState → (Bool → Type 0) → Shows → List ℕ → LockMoment → LockMoment
    → LockState → Type 0
IsTakenAs state.Unlocked Looks shown path before now held = IsLeftOut shown before now held
IsTakenAs state.Shared Looks shown path before now held =
    IsTaking Looks shown false path before now held
IsTakenAs state.Exclusive Looks shown path before now held =
    IsTaking Looks shown true path before now held

-- ---- what is left

-- a lock that is held is that of the last file that was taken; else none was taken
abbrev pub HoldsOrNone : FileLock → Locks → Locks → Type 0
HoldsOrNone lock before now =
    (now.taken ≡ before.taken ++ lock.opened ∷ [])
    ⊎ ((lock.state ≡ state.Unlocked) × (now.taken ≡ before.taken))

-- what the host has stays, but for the file at this path and folders on the way to it: the first
-- opening may make them, and the second once more if they were taken away
abbrev pub LeavesAll : Bool → List ℕ → Host → Host → Type 0
LeavesAll exclusive path before now =
    (middle : Host) × Leaves exclusive path before middle × Leaves exclusive path middle now

abbrev pub LeavesBut : LockState → List ℕ → Host → Host → Type 0
LeavesBut needed path before now = LeavesAll (is_exclusive needed) path before now
