-- Takings of locks.
use Rattle.std.proofs.Common.{◌≡◌, ◌<◌, ◌+◌, ◌-◌, ℕ, suc, List, Bool, false, Option, Result, Ok, Err, refl, arith, subst, ◌∙◌}
use Rattle.tame_names.specs.declared.errors.LockError.{LockError}
use Rattle.tame_names.specs.Locks.{Locks}
use Rattle.tame_names.specs.declared.host.LockTakeFault.{LockTakeFault}
use Rattle.tame_names.specs.declared.host.OpenedLock.{OpenedLock}
use Rattle.tame_names.specs.declared.locks.FileLock.{FileLock}
use Rattle.tame_names.specs.declared.locks.LockState.{LockState}
use Rattle.tame_location.specs.Locks.{AreTries, GoesOn, IsHeld, IsLeft, IsTakenAt, IsTaking, LockMoment, Takes, TellsHeld, TellsLock, TellsTaken, answer_of, is_exclusive}
use Rattle.tame_location.specs.declared.locks.LockRefusal.{LockRefusal}
use Rattle.tame_location.specs.declared.locks.LockRefusal.TheVariants as refusal

-- one try more is left before the tries that are left
one-more : (times number : ℕ) → number < times → suc (times - (number + 1)) ≡ times - number
one-more times number low = omega (arith, low)

-- a try before those that are left
pub try-on : (times number : ℕ) (path : List ℕ) (exclusive : Bool) (before middle now : LockMoment) (told why : Option LockTakeFault) (r : Result Unit LockError)
    → number < times → told ≡ why → Takes path exclusive false told before middle
    → GoesOn (AreTries (times - (number + 1)) path exclusive middle now r) why middle now r
    → AreTries (times - number) path exclusive before now r
try-on times number path exclusive before middle now told why r low is takes goes =
    let P : ℕ → Type 0 = λ n. AreTries n path exclusive before now r in
    let T : Option LockTakeFault → Type 0 = λ f. Takes path exclusive false f before middle in
    subst P (one-more times number low) (why, middle, subst T is takes, goes)

-- an answer tells what the held lock tells
pub answered : (path : List ℕ) (holds : Result LockState LockError → Type 0) (x : Result FileLock LockRefusal) → TellsHeld holds x → TellsLock path holds (answer_of path x)
answered path holds (Ok held) h = h
answered path holds (Err (refusal.Lock e)) h = (refl, h)
answered path holds (Err refusal.NoMemory) h = tt

-- a taking of the same path, in the same way
pub taken-as : (p path : List ℕ) (e alone block : Bool) (m n : LockMoment) (r : Result Unit LockError)
    → p ≡ path → e ≡ alone → IsTaking p e block m n r → IsTaking path alone block m n r
taken-as p path e alone block m n r is same t =
    subst (λ q. IsTaking q alone block m n r) is (subst (λ a. IsTaking p a block m n r) same t)

-- a refused taking of what was opened: the lock is refused likewise
pub refused-as : (p path : List ℕ) (e : Bool) (s : LockState) (opening : LockMoment → LockMoment → Result LockState LockError → Type 0) (m n k : LockMoment) (why : LockRefusal)
    → p ≡ path → e ≡ is_exclusive s → opening m n (Ok s) → TellsTaken (IsTaking p e false n k) (Err why)
    → TellsHeld (IsHeld opening (λ alone. IsTaking path alone false) m k) (Err why)
refused-as p path e s opening m n k (refusal.Lock x) is same opened t =
    (n, Ok s, opened, (Err x, taken-as p path e (is_exclusive s) false n k (Err x) is same t, refl))
refused-as p path e s opening m n k refusal.NoMemory is same opened t = tt

-- what is left by a contested try is what was left before it
pub left_on : (file : OpenedLock) (a b c : Locks) (r : Result Unit LockTakeFault) (f : LockTakeFault)
    → r ≡ Err f → IsTakenAt file (Ok r) b c → IsLeft a b → IsLeft a c
left_on file a b c r f is t l =
    let s : IsLeft b c = subst (λ (x : Result Unit LockTakeFault). IsTakenAt file (Ok x) b c) is t in
    record { opened = s.opened ∙ l.opened; taken = s.taken ∙ l.taken }
