-- The fault of a run: by that of a part of it, its status, and which come before any audit (this
-- project).
use Rattle.audit_asked.specs.declared.faults.AskFault.{AskFault}
use Rattle.audit_asked.specs.declared.faults.AskFault.TheVariants as ask
use Rattle.audit_output.specs.declared.putting.PrintFault.{PrintFault}
use Rattle.audit_output.specs.declared.putting.PrintFault.TheVariants as print
use Rattle.audit_remedies.specs.declared.faults.RunFault.{RunFault}
use Rattle.audit_remedies.specs.declared.faults.RunFault.TheVariants as fault
use Rattle.std.specs.Prelude.{◌≢◌, ℕ, Bool, true, false, IsTrue}
use Rattle.audit_remedies.specs.declared.remedies.Remedy.{Remedy}
use Rattle.audit_remedies.specs.declared.remedies.Remedy.TheVariants.{WriteBaseline}

-- the status of a fault: 3 for out of memory, 2 for any other
abbrev pub fault_status : RunFault → ℕ
fault_status fault.NoMemory = 3
fault_status _ = 2

-- the faults that come before any audit; a start may fail before it or after it
abbrev pub is_early : RunFault → Bool
is_early (fault.Vendor reason) = false
is_early fault.Print = false
is_early (fault.Start failed) = false
is_early fault.NoMemory = false
is_early _ = true

-- the same of what is done with the audit: the file of a baseline is created after it, so a call on
-- it may fail then
abbrev pub IsEarly : Remedy → RunFault → Type 0
IsEarly (WriteBaseline path) (fault.File told) = told ≢ path
IsEarly remedy reason = IsTrue (is_early reason)

-- what is asked of the host isn't given; one program couldn't be started
abbrev pub by_ask : AskFault → RunFault
by_ask (ask.Settings reason) = fault.Settings reason
by_ask (ask.Missing path) = fault.Missing path
by_ask (ask.NotUtf8 path) = fault.NotUtf8 path
by_ask (ask.TooLarge path len) = fault.TooLarge path len
by_ask (ask.File path) = fault.File path
by_ask (ask.Advisory n reason) = fault.Advisory n reason
by_ask (ask.Baseline line) = fault.Baseline line
by_ask (ask.Generate status) = fault.Generate status
by_ask ask.Start = fault.Start 1
by_ask ask.NoMemory = fault.NoMemory

-- printing failed, or out of memory
abbrev pub IsPrintFault : RunFault → Type 0
IsPrintFault fault.Print = Unit {0}
IsPrintFault fault.NoMemory = Unit {0}
IsPrintFault _ = ⊥

-- something isn't printed
abbrev pub by_print : PrintFault → RunFault
by_print print.Put = fault.Print
by_print print.NoMemory = fault.NoMemory
