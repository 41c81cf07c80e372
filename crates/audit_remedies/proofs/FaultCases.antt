-- Faults of printing.
use Rattle.audit_output.specs.declared.putting.PrintFault.{PrintFault}
use Rattle.audit_output.specs.declared.putting.PrintFault.TheVariants as print
use Rattle.audit_remedies.specs.declared.faults.RunFault.{RunFault}
use Rattle.audit_remedies.specs.declared.faults.RunFault.TheVariants as fault
use Rattle.audit_remedies.specs.Faults.{IsPrintFault, by_print}
use Rattle.audit_remedies.specs.declared.remedies.Remedy.TheVariants.{Baseline, Vendor}

-- a fault of printing is that of an output, or out of memory
pub print_case : (P : RunFault → Type 0) (f : RunFault) → IsPrintFault f → P fault.Print → P fault.NoMemory → P f
print_case P fault.Print only print memory = print
print_case P fault.NoMemory only print memory = memory
print_case P (fault.Usage place) only print memory = absurd only
print_case P (fault.Settings reason) only print memory = absurd only
print_case P (fault.Missing path) only print memory = absurd only
print_case P (fault.NotUtf8 path) only print memory = absurd only
print_case P (fault.TooLarge path len) only print memory = absurd only
print_case P (fault.File path) only print memory = absurd only
print_case P (fault.Lockfile reason) only print memory = absurd only
print_case P (fault.Advisory n reason) only print memory = absurd only
print_case P (fault.Baseline line) only print memory = absurd only
print_case P (fault.Vendor reason) only print memory = absurd only
print_case P (fault.Generate status) only print memory = absurd only
print_case P (fault.Start failed) only print memory = absurd only

pub is_print : (e : PrintFault) → IsPrintFault (by_print e)
is_print print.Put = tt
is_print print.NoMemory = tt
