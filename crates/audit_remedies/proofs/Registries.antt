-- A registry that couldn't be created, by the fault that reports it.
use Rattle.std.proofs.Common.{◌≡◌, ◌≢◌, Err, sym, subst}
use Rattle.audit_words.specs.declared.commands.VendorCommand.{VendorCommand}
use Rattle.audit_remedies.specs.declared.faults.RunFault.{RunFault}
use Rattle.audit_remedies.specs.declared.faults.RunFault.TheVariants as fault
use Rattle.vendor_registry.specs.declared.faults.VendorFault.{VendorFault}
use Rattle.vendor_registry.specs.declared.faults.VendorFault.TheVariants as vendor_fault
use Rattle.audit_remedies.specs.Makings.{IsMade, IsReadOnly, IsVendorEnd, Making, vendoring_in}
use Rattle.vendor_registry.specs.Vendoring.{IsRegistryRefused}
use Rattle.audit_remedies.specs.declared.remedies.Remedy.TheVariants.{Vendor}

refused_as : (more : VendorCommand) (m : Making) (reason : VendorFault) (end : RunFault) → IsRegistryRefused (vendoring_in more m) reason → IsReadOnly m
    → (end ≡ fault.Vendor reason) × (reason ≢ vendor_fault.NoMemory) → IsMade (Vendor more) m (Err end)
refused_as more m reason end refused read is = let P : RunFault → Type 0 = λ e. IsMade (Vendor more) m (Err e) in subst P (sym is.0) ((is.1, refused), read)

pub registry_refused : (more : VendorCommand) (m : Making) (reason : VendorFault) (end : RunFault) → IsVendorEnd reason end → IsRegistryRefused (vendoring_in more m) reason → IsReadOnly m
    → IsMade (Vendor more) m (Err end)
registry_refused more m vendor_fault.NoMemory end is refused read = let P : RunFault → Type 0 = λ e. IsMade (Vendor more) m (Err e) in subst P (sym is) (refused, read)
registry_refused more m (vendor_fault.Name n) end is refused read = refused_as more m (vendor_fault.Name n) end refused read is
registry_refused more m (vendor_fault.Store n) end is refused read = refused_as more m (vendor_fault.Store n) end refused read is
registry_refused more m (vendor_fault.Absent n) end is refused read = refused_as more m (vendor_fault.Absent n) end refused read is
registry_refused more m (vendor_fault.Record n) end is refused read = refused_as more m (vendor_fault.Record n) end refused read is
registry_refused more m (vendor_fault.NoVersion n) end is refused read = refused_as more m (vendor_fault.NoVersion n) end refused read is
registry_refused more m (vendor_fault.NoCrate n) end is refused read = refused_as more m (vendor_fault.NoCrate n) end refused read is
registry_refused more m (vendor_fault.TooLarge n len) end is refused read = refused_as more m (vendor_fault.TooLarge n len) end refused read is
registry_refused more m (vendor_fault.Digest n found) end is refused read = refused_as more m (vendor_fault.Digest n found) end refused read is
registry_refused more m (vendor_fault.NotEmpty count) end is refused read = refused_as more m (vendor_fault.NotEmpty count) end refused read is
registry_refused more m vendor_fault.NotADirectory end is refused read = refused_as more m vendor_fault.NotADirectory end refused read is
registry_refused more m (vendor_fault.File path) end is refused read = refused_as more m (vendor_fault.File path) end refused read is
registry_refused more m (vendor_fault.ReadBack why) end is refused read = refused_as more m (vendor_fault.ReadBack why) end refused read is
