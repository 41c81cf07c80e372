-- Which refusals say that a call on the disk failed.
use Rattle.std.proofs.Common.{◌≡◌, ◌<◌, ℕ, List, Some, Result, Ok, Err, refl, sym, ◌∙◌, subst}
use Rattle.std.specs.List.{slice_get}
use Rattle.tame_cache.specs.FailedCalls.{FailedDiskCalls, FailedReading}
use Rattle.tame_cache.specs.Kept.{cache_file_of}
use Rattle.audit_lock.specs.declared.resolving.Package.{Package}
use Rattle.vendor_registry.specs.Built.{IsBuildFault}
use Rattle.vendor_registry.specs.Failed.{AddsFailedRead, FailsReadingAt, FailsReadingOf, IsUnread}
use Rattle.vendor_registry.specs.declared.faults.VendorFault.{VendorFault}
use Rattle.vendor_registry.specs.declared.faults.VendorFault.TheVariants as fault

-- a result that reports none
err_adds : (T : Type 0) (Failed : ℕ → FailedDiskCalls → FailedDiskCalls → Type 0) (before now : FailedDiskCalls) (e : VendorFault) → IsUnread {T = T} (Err e) → now ≡ before
    → AddsFailedRead {T = T} Failed before now (Err e)
err_adds T Failed before now (fault.Store at) h same = absurd (h before)
err_adds T Failed before now (fault.Name at) h same = same
err_adds T Failed before now (fault.Absent at) h same = same
err_adds T Failed before now (fault.Record at) h same = same
err_adds T Failed before now (fault.NoVersion at) h same = same
err_adds T Failed before now (fault.NoCrate at) h same = same
err_adds T Failed before now (fault.TooLarge at len) h same = same
err_adds T Failed before now (fault.Digest at found) h same = same
err_adds T Failed before now (fault.NotEmpty at) h same = same
err_adds T Failed before now fault.NotADirectory h same = same
err_adds T Failed before now (fault.File at) h same = same
err_adds T Failed before now (fault.ReadBack why) h same = same
err_adds T Failed before now fault.NoMemory h same = same

pub unread_adds : {T : Type 0} (Failed : ℕ → FailedDiskCalls → FailedDiskCalls → Type 0) (before now : FailedDiskCalls) (r : Result T VendorFault) → IsUnread r → now ≡ before
    → AddsFailedRead Failed before now r
unread_adds Failed before now (Ok a) h same = same
unread_adds Failed before now (Err e) h same = err_adds (Unit {0}) Failed before now e h same

-- a builder reports none
pub build_adds : (T : Type 0) (Failed : ℕ → FailedDiskCalls → FailedDiskCalls → Type 0) (before now : FailedDiskCalls) (e : VendorFault) → IsBuildFault e → now ≡ before
    → AddsFailedRead {T = T} Failed before now (Err e)
build_adds T Failed before now (fault.Store at) build same = absurd build
build_adds T Failed before now (fault.Name at) build same = same
build_adds T Failed before now (fault.Absent at) build same = same
build_adds T Failed before now (fault.Record at) build same = same
build_adds T Failed before now (fault.NoVersion at) build same = same
build_adds T Failed before now (fault.NoCrate at) build same = same
build_adds T Failed before now (fault.TooLarge at len) build same = same
build_adds T Failed before now (fault.Digest at found) build same = same
build_adds T Failed before now (fault.NotEmpty at) build same = same
build_adds T Failed before now fault.NotADirectory build same = same
build_adds T Failed before now (fault.File at) build same = same
build_adds T Failed before now (fault.ReadBack why) build same = same
build_adds T Failed before now fault.NoMemory build same = same

-- the file of a package
pub read_of : (S T : Type 0) (root : List ℕ) (p : Package) (q : List ℕ) (before now : FailedDiskCalls) (e : VendorFault) → cache_file_of root p.name ≡ Some q
    → AddsFailedRead {T = S} (λ (place : ℕ). FailedReading q) before now (Err e) → AddsFailedRead {T = T} (FailsReadingOf root p) before now (Err e)
read_of S T root p q before now (fault.Store at) there h = (q, there, h)
read_of S T root p q before now (fault.Name at) there h = h
read_of S T root p q before now (fault.Absent at) there h = h
read_of S T root p q before now (fault.Record at) there h = h
read_of S T root p q before now (fault.NoVersion at) there h = h
read_of S T root p q before now (fault.NoCrate at) there h = h
read_of S T root p q before now (fault.TooLarge at len) there h = h
read_of S T root p q before now (fault.Digest at found) there h = h
read_of S T root p q before now (fault.NotEmpty at) there h = h
read_of S T root p q before now fault.NotADirectory there h = h
read_of S T root p q before now (fault.File at) there h = h
read_of S T root p q before now (fault.ReadBack why) there h = h
read_of S T root p q before now fault.NoMemory there h = h

-- that of the package at a place, after packages that were checked
pub read_at : (S T : Type 0) (root : List ℕ) (all : List Package) (place : ℕ) (p : Package) (before mid now : FailedDiskCalls) (e : VendorFault) → slice_get all place ≡ Some p
    → ((at : ℕ) → e ≡ fault.Store at → at ≡ place) → mid ≡ before → AddsFailedRead {T = S} (FailsReadingOf root p) mid now (Err e)
    → AddsFailedRead {T = T} (FailsReadingAt root all) before now (Err e)
read_at S T root all place p before mid now (fault.Store at) there store same h =
    subst (λ (m : FailedDiskCalls). FailsReadingAt root all at m now) same (p, subst (λ n. slice_get all n ≡ Some p) (sym (store at refl)) there, h)
read_at S T root all place p before mid now (fault.Name at) there store same h = h ∙ same
read_at S T root all place p before mid now (fault.Absent at) there store same h = h ∙ same
read_at S T root all place p before mid now (fault.Record at) there store same h = h ∙ same
read_at S T root all place p before mid now (fault.NoVersion at) there store same h = h ∙ same
read_at S T root all place p before mid now (fault.NoCrate at) there store same h = h ∙ same
read_at S T root all place p before mid now (fault.TooLarge at len) there store same h = h ∙ same
read_at S T root all place p before mid now (fault.Digest at found) there store same h = h ∙ same
read_at S T root all place p before mid now (fault.NotEmpty at) there store same h = h ∙ same
read_at S T root all place p before mid now fault.NotADirectory there store same h = h ∙ same
read_at S T root all place p before mid now (fault.File at) there store same h = h ∙ same
read_at S T root all place p before mid now (fault.ReadBack why) there store same h = h ∙ same
read_at S T root all place p before mid now fault.NoMemory there store same h = h ∙ same
