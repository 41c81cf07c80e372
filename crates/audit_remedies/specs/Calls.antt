-- Which calls on the host failed in making something of an audit (this project).
use Rattle.std.specs.Prelude.{◌≡◌, ◌⊎◌, ◌++◌, ◌∷◌, [], ℕ, List, Option, Some}
use Rattle.tame_names.specs.declared.host.FailedCall.{FailedCall}
use Rattle.tame_names.specs.declared.host.FileCall.TheVariants as file_call
use Rattle.audit_asked.specs.Calls.{IsCallOn}
use Rattle.audit_remedies.specs.declared.faults.RunFault.{RunFault}
use Rattle.audit_remedies.specs.declared.faults.RunFault.TheVariants as fault
use Rattle.tame_local.specs.Calls.{IsCallFor}
use Rattle.vendor_registry.specs.declared.faults.VendorFault.TheVariants as vendor_fault
use Rattle.audit_remedies.specs.declared.remedies.Remedy.{Remedy}
use Rattle.audit_remedies.specs.declared.remedies.Remedy.TheVariants.{Vendor, WriteBaseline}

-- a call that may fail was added
abbrev pub AddsOne : (List ℕ → FailedCall → Type 0) → List FailedCall → List FailedCall → Type 0
AddsOne may before now =
    (path : List ℕ) × (call : FailedCall) × (now ≡ before ++ call ∷ []) × may path call

-- a file couldn't be created at this path, which is reported; if out of memory, that may have
-- come before
abbrev pub AddsFileCalls : List ℕ → List FailedCall → List FailedCall → Option RunFault → Type 0
AddsFileCalls path before now (Some (fault.File told)) =
    (call : FailedCall) × (now ≡ before ++ call ∷ []) × IsCallOn file_call.Create path told call
AddsFileCalls path before now (Some fault.NoMemory) =
    (now ≡ before) ⊎ AddsOne (IsCallOn file_call.Create path) before now
AddsFileCalls path before now _ = now ≡ before

-- a call for what is at the reported path, if a registry couldn't be created for it
abbrev pub AddsRegistryCalls : List FailedCall → List FailedCall → Option RunFault → Type 0
AddsRegistryCalls before now (Some (fault.Vendor (vendor_fault.File told))) =
    (call : FailedCall) × (now ≡ before ++ call ∷ []) × IsCallFor told call
AddsRegistryCalls before now (Some fault.NoMemory) =
    (now ≡ before) ⊎ AddsOne IsCallFor before now
AddsRegistryCalls before now _ = now ≡ before

-- else none failed
abbrev pub AddsMakingCalls : Remedy → List FailedCall → List FailedCall → Option RunFault → Type 0
AddsMakingCalls (WriteBaseline path) before now reason = AddsFileCalls path before now reason
AddsMakingCalls (Vendor more) before now reason = AddsRegistryCalls before now reason
AddsMakingCalls remedy before now reason = now ≡ before
