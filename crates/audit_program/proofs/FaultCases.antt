-- Faults by cases.
use Rattle.std.proofs.Common.{Bool, true, false, refl, ◌≡◌, ◌≢◌, ◌⊎◌, ◌<◌, ◌≤◌, arith, inl, inr, ℕ, List, Option, Some, None, IsTrue, sym, ap, subst}
use Rattle.std.specs.Prelude.{IfSome, IsSome}
use Rattle.tame_names.specs.Standing.{Host}
use Rattle.audit_settings.specs.declared.commands.AuditCommand.{AuditCommand}
use Rattle.tame_names.specs.Counts.{CountRose}
use Rattle.audit_asked.specs.Refusals.{IsReadFault, is_told}
use Rattle.audit_asked.specs.declared.faults.AskFault.{AskFault}
use Rattle.audit_asked.specs.declared.faults.AskFault.TheVariants as ask
use Rattle.audit_output.specs.declared.putting.PrintFault.TheVariants as print
use Rattle.audit_remedies.specs.declared.faults.RunFault.{RunFault}
use Rattle.audit_remedies.specs.declared.faults.RunFault.TheVariants as fault
use Rattle.audit_program.specs.Causes.{BinariesCause}
use Rattle.audit_remedies.specs.Faults.{IsPrintFault, by_ask, IsEarly, is_early}
use Rattle.audit_remedies.specs.Finishes.{IsFinishFault}
use Rattle.audit_remedies.specs.Makings.{IsFileOf, IsMakingFault}
use Rattle.audit_remedies.specs.Remedies.{MakesRegistry}
use Rattle.audit_remedies.specs.declared.remedies.Remedy.{Remedy}
use Rattle.audit_remedies.specs.declared.remedies.Remedy.TheVariants.{Report, Fix, Plan, Baseline, WriteBaseline, Vendor}
use Rattle.vendor_registry.specs.declared.faults.VendorFault.{VendorFault}
use Rattle.vendor_registry.specs.declared.faults.VendorFault.TheVariants as vendor_fault
use Rattle.audit_remedies.proofs.FaultCases.{print_case}

-- a run that fails with a fault ends with it, or out of memory
pub ends_with : (P : RunFault → Type 0) (o : Option RunFault) (f : RunFault) → (o ≡ Some f) ⊎ (o ≡ Some fault.NoMemory) → P f → P fault.NoMemory → IfSome o P
ends_with P o f (inl is) mine memory = let Q : Option RunFault → Type 0 = λ x. IfSome x P in subst Q (sym is) mine
ends_with P o f (inr is) mine memory = let Q : Option RunFault → Type 0 = λ x. IfSome x P in subst Q (sym is) memory

-- what no fault of printing is
pub no_print : {X : Type 0} (o : Option RunFault) (f : RunFault) → IfSome o IsPrintFault → o ≡ Some f → (IsPrintFault f → X) → X
no_print o f only is none = let P : Option RunFault → Type 0 = λ x. IfSome x IsPrintFault in none (subst P is only)

pub some_of : (f g : RunFault) → (g ≡ f) ⊎ (g ≡ fault.NoMemory) → (Some g ≡ Some f) ⊎ (Some g ≡ Some fault.NoMemory)
some_of f g (inl is) = inl (ap (λ (x : RunFault). Some x) is)
some_of f g (inr is) = inr (ap (λ (x : RunFault). Some x) is)

-- a run that fails has a fault
pub has_fault : {X : Type 0} (f : RunFault) (o : Option RunFault) → (o ≡ Some f) ⊎ (o ≡ Some fault.NoMemory) → o ≡ None → X
has_fault f o (inl is) none = cc
has_fault f o (inr is) none = cc

-- what is so of each fault that a finish may have
pub finish_case : (P : RunFault → Type 0) (f : RunFault) → IsFinishFault f → P fault.Print → ((failed : ℕ) → 0 < failed → P (fault.Start failed)) → P fault.NoMemory → P f
finish_case P fault.Print only print start memory = print
finish_case P (fault.Start failed) only print start memory = start failed only
finish_case P fault.NoMemory only print start memory = memory
finish_case P (fault.Usage place) only print start memory = absurd only
finish_case P (fault.Settings reason) only print start memory = absurd only
finish_case P (fault.Missing path) only print start memory = absurd only
finish_case P (fault.NotUtf8 path) only print start memory = absurd only
finish_case P (fault.TooLarge path len) only print start memory = absurd only
finish_case P (fault.File path) only print start memory = absurd only
finish_case P (fault.Lockfile reason) only print start memory = absurd only
finish_case P (fault.Advisory n reason) only print start memory = absurd only
finish_case P (fault.Baseline line) only print start memory = absurd only
finish_case P (fault.Vendor reason) only print start memory = absurd only
finish_case P (fault.Generate status) only print start memory = absurd only

-- a fault that is early of what is done with the audit is early
pub early_of : (remedy : Remedy) (f : RunFault) → IsEarly remedy f → IsTrue (is_early f)
early_of Report f early = early
early_of (Fix dry_run) f early = early
early_of Plan f early = early
early_of (Baseline path) f early = early
early_of (Vendor more) f early = early
early_of (WriteBaseline path) (fault.File told) early = refl
early_of (WriteBaseline path) (fault.Usage place) early = early
early_of (WriteBaseline path) (fault.Settings reason) early = early
early_of (WriteBaseline path) (fault.Missing told) early = early
early_of (WriteBaseline path) (fault.NotUtf8 told) early = early
early_of (WriteBaseline path) (fault.TooLarge told len) early = early
early_of (WriteBaseline path) (fault.Lockfile reason) early = early
early_of (WriteBaseline path) (fault.Advisory n reason) early = early
early_of (WriteBaseline path) (fault.Baseline line) early = early
early_of (WriteBaseline path) (fault.Vendor reason) early = early
early_of (WriteBaseline path) fault.Print early = early
early_of (WriteBaseline path) (fault.Generate status) early = early
early_of (WriteBaseline path) (fault.Start failed) early = early
early_of (WriteBaseline path) fault.NoMemory early = early

-- none of these is early
pub late_print : {X : Type 0} (remedy : Remedy) → IsEarly remedy fault.Print → X
late_print remedy early = let no : IsTrue (is_early fault.Print) = early_of remedy fault.Print early in cc

pub late_start : {X : Type 0} (remedy : Remedy) (failed : ℕ) → IsEarly remedy (fault.Start failed) → X
late_start remedy failed early = let no : IsTrue (is_early (fault.Start failed)) = early_of remedy (fault.Start failed) early in cc

pub late_memory : {X : Type 0} (remedy : Remedy) → IsEarly remedy fault.NoMemory → X
late_memory remedy early = let no : IsTrue (is_early fault.NoMemory) = early_of remedy fault.NoMemory early in cc

late_vendor : {X : Type 0} (remedy : Remedy) (reason : VendorFault) → IsEarly remedy (fault.Vendor reason) → X
late_vendor remedy reason early = let no : IsTrue (is_early (fault.Vendor reason)) = early_of remedy (fault.Vendor reason) early in cc

-- nor is a fault of making
late_file : {X : Type 0} (remedy : Remedy) (told : List ℕ) → IsFileOf remedy told → IsEarly remedy (fault.File told) → X
late_file (WriteBaseline path) told only early = absurd (early only)
late_file Report told only early = absurd only
late_file (Fix dry_run) told only early = absurd only
late_file Plan told only early = absurd only
late_file (Baseline path) told only early = absurd only
late_file (Vendor more) told only early = absurd only

pub late_making : {X : Type 0} (remedy : Remedy) (f : RunFault) → IsMakingFault remedy f → IsEarly remedy f → X
late_making remedy fault.NoMemory only early = late_memory remedy early
late_making remedy (fault.File told) only early = late_file remedy told only early
late_making remedy (fault.Vendor reason) only early = late_vendor remedy reason early
late_making remedy (fault.Usage place) only early = absurd only
late_making remedy (fault.Settings reason) only early = absurd only
late_making remedy (fault.Missing told) only early = absurd only
late_making remedy (fault.NotUtf8 told) only early = absurd only
late_making remedy (fault.TooLarge told len) only early = absurd only
late_making remedy (fault.Lockfile reason) only early = absurd only
late_making remedy (fault.Advisory n reason) only early = absurd only
late_making remedy (fault.Baseline line) only early = absurd only
late_making remedy fault.Print only early = absurd only
late_making remedy (fault.Generate status) only early = absurd only
late_making remedy (fault.Start failed) only early = absurd only

-- what is so of each fault that making may have
pub making_case : (P : RunFault → Type 0) (remedy : Remedy) (f : RunFault) → IsMakingFault remedy f → ((told : List ℕ) → IsFileOf remedy told → P (fault.File told))
    → ((reason : VendorFault) → MakesRegistry remedy → reason ≢ vendor_fault.NoMemory → P (fault.Vendor reason)) → P fault.NoMemory → P f
making_case P remedy (fault.File told) only file vendor memory = file told only
making_case P remedy (fault.Vendor reason) only file vendor memory = vendor reason only.0 only.1
making_case P remedy fault.NoMemory only file vendor memory = memory
making_case P remedy (fault.Usage place) only file vendor memory = absurd only
making_case P remedy (fault.Settings reason) only file vendor memory = absurd only
making_case P remedy (fault.Missing told) only file vendor memory = absurd only
making_case P remedy (fault.NotUtf8 told) only file vendor memory = absurd only
making_case P remedy (fault.TooLarge told len) only file vendor memory = absurd only
making_case P remedy (fault.Lockfile reason) only file vendor memory = absurd only
making_case P remedy (fault.Advisory n reason) only file vendor memory = absurd only
making_case P remedy (fault.Baseline line) only file vendor memory = absurd only
making_case P remedy fault.Print only file vendor memory = absurd only
making_case P remedy (fault.Generate status) only file vendor memory = absurd only
making_case P remedy (fault.Start failed) only file vendor memory = absurd only

-- the fault that a run ends with is the one that it failed with, unless it is out of memory
pub same_fault : (f other : RunFault) (o : Option RunFault) → (o ≡ Some f) ⊎ (o ≡ Some fault.NoMemory) → o ≡ Some other → (fault.NoMemory ≡ other → ⊥) → f ≡ other
same_fault f other o (inl mine) is differ = cc (mine, is)
same_fault f other o (inr memory) is differ = absurd (differ (cc (memory, is)))

pub memory_no_print : fault.NoMemory ≡ fault.Print → ⊥
memory_no_print is = cc

pub rose_later : (a b c d e : ℕ) → CountRose a b ⊎ CountRose c d → d ≤ e → CountRose a b ⊎ CountRose c e
rose_later a b c d e (inl rose) later = inl rose
rose_later a b c d e (inr rose) later = inr (omega (arith, rose, later))

pub rose_before : (a b c : ℕ) → a ≤ b → CountRose b c → CountRose a c
rose_before a b c later rose = omega (arith, later, rose)

-- ---- faults of asking

-- those that asking may end with
abbrev pub is_asked : RunFault → Bool
is_asked (fault.Usage place) = false
is_asked (fault.Lockfile reason) = false
is_asked (fault.Vendor reason) = false
is_asked fault.Print = false
is_asked _ = true

asked_so : (e : AskFault) → IsTrue (is_asked (by_ask e))
asked_so (ask.Settings reason) = refl
asked_so (ask.Missing path) = refl
asked_so (ask.NotUtf8 path) = refl
asked_so (ask.TooLarge path len) = refl
asked_so (ask.File path) = refl
asked_so (ask.Advisory n reason) = refl
asked_so (ask.Baseline line) = refl
asked_so (ask.Generate status) = refl
asked_so ask.Start = refl
asked_so ask.NoMemory = refl

pub not_asked : {X : Type 0} (f : RunFault) (e : AskFault) → f ≡ by_ask e → is_asked f ≡ false → X
not_asked f e is none = let so : IsTrue (is_asked f) = subst (λ (x : RunFault). IsTrue (is_asked x)) (sym is) (asked_so e) in cc (so, none)

-- those that asking for binaries may end with
abbrev pub is_read : RunFault → Bool
is_read (fault.Usage place) = false
is_read (fault.Lockfile reason) = false
is_read (fault.Baseline line) = false
is_read (fault.Vendor reason) = false
is_read fault.Print = false
is_read (fault.Generate status) = false
is_read (fault.Start failed) = false
is_read _ = true

read_so : (e : AskFault) → IsReadFault e → IsTrue (is_read (by_ask e))
read_so (ask.Settings reason) only = refl
read_so (ask.Missing path) only = refl
read_so (ask.NotUtf8 path) only = refl
read_so (ask.TooLarge path len) only = refl
read_so (ask.File path) only = refl
read_so (ask.Advisory n reason) only = refl
read_so (ask.Baseline line) only = absurd only
read_so (ask.Generate status) only = absurd only
read_so ask.Start only = absurd only
read_so ask.NoMemory only = refl

pub not_read : {X : Type 0} (f : RunFault) (e : AskFault) → f ≡ by_ask e → IsReadFault e → is_read f ≡ false → X
not_read f e is only none = let so : IsTrue (is_read f) = subst (λ (x : RunFault). IsTrue (is_read x)) (sym is) (read_so e only) in cc (so, none)

-- those that the host decides
abbrev pub is_decided : RunFault → Bool
is_decided (fault.File path) = false
is_decided (fault.Start failed) = false
is_decided fault.NoMemory = false
is_decided _ = true

told_so : (e : AskFault) → IsTrue (is_decided (by_ask e)) → IsTrue (is_told e)
told_so (ask.Settings reason) so = refl
told_so (ask.Missing path) so = refl
told_so (ask.NotUtf8 path) so = refl
told_so (ask.TooLarge path len) so = refl
told_so (ask.File path) so = so
told_so (ask.Advisory n reason) so = refl
told_so (ask.Baseline line) so = refl
told_so (ask.Generate status) so = refl
told_so ask.Start so = so
told_so ask.NoMemory so = so

pub decided : (f : RunFault) (e : AskFault) → f ≡ by_ask e → IsTrue (is_decided f) → IsTrue (is_told e)
decided f e is so = told_so e (subst (λ (x : RunFault). IsTrue (is_decided x)) is so)

-- ---- faults of printing

-- ---- audits of binaries

pub print_caused : (told : Type 0) (command : AuditCommand) (host : Host) (o : Option RunFault) → IfSome o IsPrintFault → IfSome o (BinariesCause told command host)
print_caused told command host None only = tt
print_caused told command host (Some f) only = let P : RunFault → Type 0 = λ e. BinariesCause told command host e in print_case P f only tt tt

-- only if out of memory, they aren't all answered
pub unfinished : {B X : Type 0} (b : Option B) (o : Option RunFault) → IfSome o IsPrintFault → b ≡ None → ((o ≡ None) ⊎ (o ≡ Some fault.Print) → IsSome b) → o ≢ Some fault.NoMemory → X
unfinished (Some x) o only none has other = cc (none)
unfinished None None only none has other = let no = has (inl refl) in cc (no)
unfinished None (Some fault.Print) only none has other = let no = has (inr refl) in cc (no)
unfinished None (Some fault.NoMemory) only none has other = absurd (other refl)
unfinished None (Some (fault.Usage place)) only none has other = absurd only
unfinished None (Some (fault.Settings reason)) only none has other = absurd only
unfinished None (Some (fault.Missing path)) only none has other = absurd only
unfinished None (Some (fault.NotUtf8 path)) only none has other = absurd only
unfinished None (Some (fault.TooLarge path len)) only none has other = absurd only
unfinished None (Some (fault.File path)) only none has other = absurd only
unfinished None (Some (fault.Lockfile reason)) only none has other = absurd only
unfinished None (Some (fault.Advisory n reason)) only none has other = absurd only
unfinished None (Some (fault.Baseline line)) only none has other = absurd only
unfinished None (Some (fault.Vendor reason)) only none has other = absurd only
unfinished None (Some (fault.Generate status)) only none has other = absurd only
unfinished None (Some (fault.Start failed)) only none has other = absurd only
