-- Which failed call a refusal names (this project).
use Rattle.std.specs.Prelude.{◌≡◌, ℕ, List, [], ◌∷◌, ◌++◌, Some, Result, Err}
use Rattle.std.specs.List.{slice_get}
use Rattle.tame_names.specs.Paths.{join}
use Rattle.tame_names.specs.declared.host.FailedCall.{FailedCall}
use Rattle.tame_cache.specs.FailedCalls.{FailedDiskCalls, FailedReading}
use Rattle.tame_cache.specs.Kept.{cache_file_of}
use Rattle.tame_local.specs.Calls.{IsCallFor}
use Rattle.tame_local.specs.Registries.{crates_folder, index_of}
use Rattle.audit_lock.specs.declared.resolving.Package.{Package}
use Rattle.vendor_registry.specs.declared.faults.VendorFault.{VendorFault}
use Rattle.vendor_registry.specs.declared.faults.VendorFault.TheVariants as fault

-- a refusal by a call on the files that failed adds that call to the failed ones; any other result
-- adds none
abbrev pub AddsFailed : {T : Type 0} → List FailedCall → List FailedCall → Result T VendorFault
    → Type 0
AddsFailed before now (Err (fault.File path)) =
    (call : FailedCall) × (now ≡ before ++ call ∷ []) × IsCallFor path call
AddsFailed before now result = now ≡ before

-- a path of a registry: its folder, which is that of the crate files of its index, and what is
-- joined to it, part by part
pub data IsWithin (registry : List ℕ) : List ℕ → Type 0 where
  itself : IsWithin registry registry
  of_crates : IsWithin registry (crates_folder (index_of registry))
  below : (path part : List ℕ) → IsWithin registry path → IsWithin registry (join path part)

-- a call that failed is reported with a path of the registry
abbrev pub IsToldIn : List ℕ → VendorFault → Type 0
IsToldIn registry (fault.File path) = IsWithin registry path
IsToldIn registry e = Unit {0}

-- a result that reports no call on the files
abbrev pub IsQuiet : {T : Type 0} → Result T VendorFault → Type 0
IsQuiet result = (calls : List FailedCall) → AddsFailed calls calls result

-- ---- on the disk

-- a refusal by an entry that can't be read adds what failed for the package at its place; any other
-- result adds nothing
abbrev pub AddsFailedRead : {T : Type 0} → (ℕ → FailedDiskCalls → FailedDiskCalls → Type 0)
    → FailedDiskCalls → FailedDiskCalls → Result T VendorFault → Type 0
AddsFailedRead Failed before now (Err (fault.Store place)) = Failed place before now
AddsFailedRead Failed before now result = now ≡ before

-- the read of the file that the cache in a folder has for a package failed, and no other call
abbrev pub FailsReadingOf : List ℕ → Package → ℕ → FailedDiskCalls → FailedDiskCalls → Type 0
FailsReadingOf root p place before now =
    (q : List ℕ) × (cache_file_of root p.name ≡ Some q) × FailedReading q before now

-- the same for the package at this place
abbrev pub FailsReadingAt : List ℕ → List Package → ℕ → FailedDiskCalls → FailedDiskCalls → Type 0
FailsReadingAt root packages place before now =
    (p : Package) × (slice_get packages place ≡ Some p)
    × FailsReadingOf root p place before now

-- a result that reports no call on the disk
abbrev pub IsUnread : {T : Type 0} → Result T VendorFault → Type 0
IsUnread result =
    (calls : FailedDiskCalls) → AddsFailedRead (λ place before now. ⊥) calls calls result
