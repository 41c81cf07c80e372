-- Which calls on a disk have failed, if it tells them (this project).
use Rattle.std.specs.Prelude.{◌≡◌, ◌≢◌, ◌⊎◌, ℕ, List, [], ◌∷◌, ◌++◌, Option, None, option_map, Result, Ok, Err}
use Rattle.tame_cache.specs.declared.disk.DiskCall.{DiskCall}
use Rattle.tame_cache.specs.declared.disk.DiskCall.TheVariants as disk_call
use Rattle.tame_cache.specs.declared.disk.FailedDiskCall.{FailedDiskCall}

-- the calls that have failed, the oldest first; nothing if they aren't all told
abbrev pub FailedDiskCalls : Type 0
FailedDiskCalls = Option (List FailedDiskCall)

-- this call after those that have failed
abbrev pub with_failed : DiskCall → List ℕ → FailedDiskCalls → FailedDiskCalls
with_failed call path before =
    option_map (λ calls. calls ++ record { call = call; path = path } ∷ []) before

-- this call failed, and no other; or they are no longer told
abbrev pub FailedAt : DiskCall → List ℕ → FailedDiskCalls → FailedDiskCalls → Type 0
FailedAt call path before now = (now ≡ None) ⊎ (now ≡ with_failed call path before)

-- a read of a file failed, and no other call; or they are no longer told
abbrev pub FailedReading : List ℕ → FailedDiskCalls → FailedDiskCalls → Type 0
FailedReading path before now = FailedAt disk_call.Read path before now

-- one call on a file failed that isn't a read, and no other; or they are no longer told
abbrev pub FailedWriting : List ℕ → FailedDiskCalls → FailedDiskCalls → Type 0
FailedWriting path before now =
    (now ≡ None)
    ⊎ ((call : DiskCall) × (call ≢ disk_call.Read) × (now ≡ with_failed call path before))

-- if the result is `Ok` no call failed, else one of those that may
abbrev pub AddsFailed : {T E : Type 0} → (FailedDiskCalls → FailedDiskCalls → Type 0)
    → FailedDiskCalls → FailedDiskCalls → Result T E → Type 0
AddsFailed Failed before now (Ok a) = now ≡ before
AddsFailed Failed before now (Err e) = Failed before now

-- the same, but no call failed if out of memory
abbrev pub AddsFailedBut : {T E : Type 0} → E → (FailedDiskCalls → FailedDiskCalls → Type 0)
    → FailedDiskCalls → FailedDiskCalls → Result T E → Type 0
AddsFailedBut no_memory Failed before now (Ok a) = now ≡ before
AddsFailedBut no_memory Failed before now (Err e) =
    (e ≡ no_memory → now ≡ before) × (e ≢ no_memory → Failed before now)
