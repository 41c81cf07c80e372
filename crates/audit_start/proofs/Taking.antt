-- How the lock of the cache is taken.
use Rattle.std.proofs.Common.{◌≡◌, ◌≢◌, ◌∙◌, ◌++◌, ◌∷◌, [], ap, ℕ, List, Bool, true, false, Option, None, Result, Ok, Err, refl, sym, subst, inl, inr}
use Rattle.std.specs.Prelude.{IfOk}
use Rattle.tame_names.specs.Locks.{Locks}
use Rattle.tame_names.specs.Standing.{Host}
use Rattle.tame_names.specs.declared.errors.LockError.{LockError}
use Rattle.tame_names.specs.declared.errors.LockError.TheVariants as error
use Rattle.tame_names.specs.declared.errors.NoMemory.{NoMemory}
use Rattle.tame_names.specs.declared.locks.FileLock.{FileLock}
use Rattle.tame_names.specs.declared.locks.LockState.{LockState}
use Rattle.tame_names.specs.declared.locks.LockState.TheVariants as state
use Rattle.tame_location.specs.Locks.{IsHeldBy, IsLockedAtOnce, IsLockedWaiting, Leaves, LockMoment}
use Rattle.audit_start.specs.Taking.{Follows, HoldsOrNone, IsTaking, IsTried, IsWaitedFor, LeavesAll, Shows}
use Rattle.audit_start.proofs.Waiting.{waiting_wider}

-- ---- as the options have it

pub tried_as : (p path : List ℕ) (e exclusive fallback : Bool) (m n : LockMoment) (r : Result LockState LockError) → p ≡ path → e ≡ exclusive → fallback ≡ false
    → IsLockedAtOnce e fallback p m n r → IsLockedAtOnce exclusive false path m n r
tried_as p path e exclusive fallback m n r at way back h =
    subst (λ q. IsLockedAtOnce exclusive false q m n r) at
    (subst (λ b. IsLockedAtOnce b false p m n r) way
    (subst (λ b. IsLockedAtOnce e b p m n r) back h))

pub left_as : (p path : List ℕ) (e exclusive : Bool) (a b : Host) → p ≡ path → e ≡ exclusive → Leaves e p a b → Leaves exclusive path a b
left_as p path e exclusive a b at way h = subst (λ q. Leaves exclusive q a b) at (subst (λ w. Leaves w p a b) way h)

waiting_as : (says : Option ℕ → Type 0) (p path : List ℕ) (e exclusive fallback : Bool) (m n : LockMoment) (r : Result LockState LockError) → p ≡ path → e ≡ exclusive → fallback ≡ false
    → ((limit : Option ℕ) → says limit → limit ≡ None) → IsLockedWaiting says e fallback p m n r → IsLockedWaiting (λ limit. limit ≡ None) exclusive false path m n r
waiting_as says p path e exclusive fallback m n r at way back none h =
    subst (λ q. IsLockedWaiting (λ limit. limit ≡ None) exclusive false q m n r) at
    (subst (λ b. IsLockedWaiting (λ limit. limit ≡ None) b false p m n r) way
    (subst (λ b. IsLockedWaiting (λ limit. limit ≡ None) e b p m n r) back (waiting_wider says (λ limit. limit ≡ None) e fallback p m n r none h)))

-- a lock that was waited for, and one that couldn't be had
pub waited_held : (says : Option ℕ → Type 0) (p path : List ℕ) (e exclusive fallback : Bool) (m n : LockMoment) (s : LockState) → p ≡ path → e ≡ exclusive → fallback ≡ false
    → ((limit : Option ℕ) → says limit → limit ≡ None) → IsLockedWaiting says e fallback p m n (Ok s) → IsWaitedFor exclusive path m n s
waited_held says p path e exclusive fallback m n s at way back none h =
    (Ok s, waiting_as says p path e exclusive fallback m n (Ok s) at way back none h, refl)

pub waited_refused : (says : Option ℕ → Type 0) (p path : List ℕ) (e exclusive fallback : Bool) (m n : LockMoment) (s : LockState) (why : LockError) → p ≡ path → e ≡ exclusive → fallback ≡ false
    → s ≡ state.Unlocked → ((limit : Option ℕ) → says limit → limit ≡ None) → IsLockedWaiting says e fallback p m n (Err why) → IsWaitedFor exclusive path m n s
waited_refused says p path e exclusive fallback m n s why at way back is none h =
    (Err why, waiting_as says p path e exclusive fallback m n (Err why) at way back none h, is)

-- ---- what is left

-- nothing is left by what isn't done
left_alone : (exclusive : Bool) (path : List ℕ) (a : Host) → Leaves exclusive path a a
left_alone true path a = (0, inl refl)
left_alone false path a = refl

pub left_once : (exclusive : Bool) (path : List ℕ) (a b : Host) → Leaves exclusive path a b → LeavesAll exclusive path a b
left_once exclusive path a b h = (b, h, left_alone exclusive path b)

pub left_twice : (exclusive : Bool) (path : List ℕ) (a b c : Host) → Leaves exclusive path a b → Leaves exclusive path b c → LeavesAll exclusive path a c
left_twice exclusive path a b c h k = (b, h, k)

pub left_none : (exclusive : Bool) (path : List ℕ) (a b : Host) → b ≡ a → LeavesAll exclusive path a b
left_none exclusive path a b same = (a, left_alone exclusive path a, subst (Leaves exclusive path a) (sym same) (left_alone exclusive path a))

pub holds_one : (lock : FileLock) (a b : Locks) → IsHeldBy lock.opened a b → HoldsOrNone lock a b
holds_one lock a b h = inl h.taken

pub holds_none : (lock : FileLock) (a b : Locks) → lock.state ≡ state.Unlocked → b.taken ≡ a.taken → HoldsOrNone lock a b
holds_none lock a b is same = inr (is, same)

-- after a try that took none
holds_after : (lock : FileLock) (a b c : Locks) → b.taken ≡ a.taken → HoldsOrNone lock b c → HoldsOrNone lock a c
holds_after lock a b c same (inl one) = inl (one ∙ ap (λ ts. ts ++ lock.opened ∷ []) same)
holds_after lock a b c same (inr none) = inr (none.0, none.1 ∙ same)

pub held_after : (r : Result FileLock NoMemory) (a b c : Locks) → b.taken ≡ a.taken → IfOk r (λ lock. HoldsOrNone lock b c) → IfOk r (λ lock. HoldsOrNone lock a c)
held_after (Ok lock) a b c same h = holds_after lock a b c same h
held_after (Err e) a b c same h = tt

-- ---- the whole of it

pub try_held : (shown : Shows) (exclusive : Bool) (path : List ℕ) (m n : LockMoment) (s : LockState) → shown.nothing → IsLockedAtOnce exclusive false path m n (Ok s) → IsTried shown exclusive path m n s
try_held shown exclusive path m n s nothing h = (n, Ok s, h, (nothing, refl, refl))

-- what follows a try that is refused for another reason than that another run has the lock
refused_follows : (shown : Shows) (exclusive : Bool) (path : List ℕ) (e : LockError) (m : LockMoment) (s : LockState) → e ≢ error.Contested → s ≡ state.Unlocked → shown.nothing → Follows shown exclusive path (Err e) m m s
refused_follows shown exclusive path error.Contested m s other is nothing = absurd (other refl)
refused_follows shown exclusive path error.Open m s other is nothing = (nothing, refl, is)
refused_follows shown exclusive path error.Readonly m s other is nothing = (nothing, refl, is)
refused_follows shown exclusive path error.CreateDir m s other is nothing = (nothing, refl, is)
refused_follows shown exclusive path error.NotSupported m s other is nothing = (nothing, refl, is)
refused_follows shown exclusive path error.Lock m s other is nothing = (nothing, refl, is)
refused_follows shown exclusive path error.TimedOut m s other is nothing = (nothing, refl, is)

pub try_refused : (shown : Shows) (exclusive : Bool) (path : List ℕ) (e : LockError) (m n : LockMoment) (s : LockState) → e ≢ error.Contested → s ≡ state.Unlocked → shown.nothing
    → IsLockedAtOnce exclusive false path m n (Err e) → IsTried shown exclusive path m n s
try_refused shown exclusive path e m n s other is nothing h = (n, Err e, h, refused_follows shown exclusive path e n s other is nothing)

pub try_waited : (r : Result FileLock NoMemory) (shown : Shows) (exclusive : Bool) (path : List ℕ) (m k n : LockMoment) → shown.waiting → IsLockedAtOnce exclusive false path m k (Err error.Contested)
    → IfOk r (λ lock. IsWaitedFor exclusive path k n lock.state) → IfOk r (λ lock. IsTried shown exclusive path m n lock.state)
try_waited (Ok lock) shown exclusive path m k n line h w = (k, Err error.Contested, h, (line, w))
try_waited (Err e) shown exclusive path m k n line h w = tt

pub take_plain_of : (looks : Bool → Type 0) (shown : Shows) (exclusive : Bool) (path : List ℕ) (m n : LockMoment) (s : LockState) (look : Bool) → look ≡ true → looks look → IsTried shown exclusive path m n s
    → IsTaking looks shown exclusive path m n s
take_plain_of looks shown exclusive path m n s look is says h = (true, subst looks is says, h)

pub take_other_of : (looks : Bool → Type 0) (shown : Shows) (exclusive : Bool) (path : List ℕ) (m n : LockMoment) (s : LockState) (look : Bool) → look ≡ false → looks look → shown.nothing → n ≡ m → s ≡ state.Unlocked
    → IsTaking looks shown exclusive path m n s
take_other_of looks shown exclusive path m n s look is says nothing same none = (false, subst looks is says, (nothing, same, none))
