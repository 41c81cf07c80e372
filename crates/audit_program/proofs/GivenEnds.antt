-- The ends of a run that has what it asked for.
use Rattle.std.proofs.Common.{◌≡◌, ◌≢◌, ◌⊎◌, inl, inr, ℕ, ◌≤◌, List, Option, Some, None, Result, Ok, Err, refl, subst, arith}
use Rattle.std.specs.Prelude.{IfSome}
use Rattle.tame_names.specs.Counts.{CountRose, CountRoseBy}
use Rattle.tame_names.specs.declared.host.FailedCall.{FailedCall}
use Rattle.audit_lock.specs.Locked.{locked}
use Rattle.audit_lock.specs.declared.lockfiles.LockfileFault.{LockfileFault}
use Rattle.audit_lock.specs.declared.lockfiles.LockfileFault.TheVariants as lockfile_fault
use Rattle.audit_asked.specs.declared.asking.Asked.{Asked}
use Rattle.audit_output.specs.declared.putting.PrintFault.{PrintFault}
use Rattle.audit_output.specs.declared.putting.PrintFault.TheVariants as print
use Rattle.vendor_registry.specs.declared.faults.VendorFault.TheVariants as vendor_fault
use Rattle.audit_remedies.specs.Calls.{AddsFileCalls, AddsMakingCalls, AddsRegistryCalls}
use Rattle.audit_program.specs.Causes.{HasCauses, IsAskedFault, IsAuditFault}
use Rattle.audit_remedies.specs.Faults.{IsPrintFault, by_print, fault_status}
use Rattle.audit_remedies.specs.Finishes.{IsFinishFault}
use Rattle.audit_remedies.specs.Makings.{IsMakingFault}
use Rattle.audit_program.specs.Outcomes.{EndsBy, HasAudits}
use Rattle.audit_program.specs.Worlds.{World}
use Rattle.audit_remedies.specs.declared.faults.RunFault.{RunFault}
use Rattle.audit_remedies.specs.declared.faults.RunFault.TheVariants as fault
use Rattle.audit_program.specs.declared.outcomes.Outcome.{Outcome}
use Rattle.audit_program.specs.declared.tasks.Job.{Job}
use Rattle.audit_program.specs.declared.tasks.Job.TheVariants as job
use Rattle.audit_remedies.specs.declared.remedies.Remedy.{Remedy}
use Rattle.audit_remedies.specs.declared.remedies.Remedy.TheVariants.{Report, Fix, Plan, Baseline, WriteBaseline, Vendor}
use Rattle.audit_program.specs.declared.tasks.Task.{Task}
use Rattle.audit_program.proofs.FaultCases.{ends_with, finish_case, has_fault, making_case, memory_no_print, same_fault}
use Rattle.audit_program.proofs.Nones.{all_some, if_none}

-- it ends with this fault, or out of memory
abbrev pub IsEndOf : RunFault → Option RunFault → Type 0
IsEndOf f o = (o ≡ Some f) ⊎ (o ≡ Some fault.NoMemory)

pub same_count : (n : ℕ) → n ≤ n
same_count n = omega arith

pub later_count : (a b c : ℕ) → a ≤ b → b ≤ c → a ≤ c
later_count a b c low high = omega (arith, low, high)

pub not_err : {A E X : Type 0} (r : Result A E) (a : A) (e : E) → r ≡ Ok a → r ≡ Err e → X
not_err r a e ok err = cc

pub no_fault : {X : Type 0} (f : RunFault) → None ≡ Some f → X
no_fault f is = cc

-- what is so of the fault that there is
pub of_fault : (P : RunFault → Type 0) (o : Option RunFault) (f : RunFault) → IfSome o P → o ≡ Some f → P f
of_fault P o f so is = let Q : Option RunFault → Type 0 = λ x. IfSome x P in subst Q is so

memory_no_file : (path : List ℕ) → fault.NoMemory ≡ fault.File path → ⊥
memory_no_file path is = cc

memory_no_crate : (path : List ℕ) → fault.NoMemory ≡ fault.Vendor (vendor_fault.File path) → ⊥
memory_no_crate path is = cc

memory_no_store : (at : ℕ) → fault.NoMemory ≡ fault.Vendor (vendor_fault.Store at) → ⊥
memory_no_store at is = cc

memory_no_start : (failed : ℕ) → fault.NoMemory ≡ fault.Start failed → ⊥
memory_no_start failed is = cc

-- a run that fails has the status of its fault
pub failed_ends : (it : Job) (outcome : Outcome) (f : RunFault) → IsEndOf f outcome.fault → ((e : RunFault) → outcome.fault ≡ Some e → outcome.status ≡ fault_status e)
    → EndsBy (Ok it) outcome
failed_ends it outcome f end status = record {
  status = status;
  plain = λ none. has_fault f outcome.fault end none;
  usage = λ broken is. not_err _ _ _ refl is;
}

-- ---- if the audit failed

audit_case : (P : RunFault → Type 0) (f : RunFault) → IsAuditFault f → ((r : LockfileFault) → r ≢ lockfile_fault.NoMemory → P (fault.Lockfile r)) → P fault.NoMemory → P f
audit_case P (fault.Lockfile r) only lockfile memory = lockfile r only
audit_case P fault.NoMemory only lockfile memory = memory
audit_case P (fault.Usage place) only lockfile memory = absurd only
audit_case P (fault.Settings reason) only lockfile memory = absurd only
audit_case P (fault.Missing path) only lockfile memory = absurd only
audit_case P (fault.NotUtf8 path) only lockfile memory = absurd only
audit_case P (fault.TooLarge path len) only lockfile memory = absurd only
audit_case P (fault.File path) only lockfile memory = absurd only
audit_case P (fault.Advisory n reason) only lockfile memory = absurd only
audit_case P (fault.Baseline line) only lockfile memory = absurd only
audit_case P (fault.Vendor reason) only lockfile memory = absurd only
audit_case P fault.Print only lockfile memory = absurd only
audit_case P (fault.Generate status) only lockfile memory = absurd only
audit_case P (fault.Start failed) only lockfile memory = absurd only

-- it neither succeeded nor failed in printing
no_end : {X : Type 0} (o : Option RunFault) (f : RunFault) → IsEndOf f o → IfSome o IsAuditFault → (o ≡ None) ⊎ (o ≡ Some fault.Print) → X
no_end o f end so (inl none) = has_fault f o end none
no_end o f end so (inr print) = absurd (of_fault IsAuditFault o fault.Print so print)

pub unaudited_has : (task : Task) (outcome : Outcome) (f : RunFault) → IsEndOf f outcome.fault → IsAuditFault f → outcome.audited ≡ None → outcome.binaries ≡ None → outcome.plan ≡ None
    → HasAudits (Ok (job.Lockfile task)) outcome
unaudited_has task outcome f end only unaudited no_binaries unplanned =
    let so : IfSome outcome.fault IsAuditFault = ends_with IsAuditFault outcome.fault f end only tt in
    record {
      has = λ how. no_end outcome.fault f end so how;
      vendor_audit = λ reason is. absurd (of_fault IsAuditFault outcome.fault (fault.Vendor reason) so is);
      no_audit = all_some outcome.fault _ (λ x early. (unaudited, no_binaries));
      no_plan = if_none outcome.audited _ unplanned;
    }

pub unaudited_causes : (task : Task) (given : Asked) (before now : World) (o : Option RunFault) (f : RunFault) → IsEndOf f o → IsAuditFault f → IsAskedFault task given f
    → HasCauses (IsAskedFault task given) before now o
unaudited_causes task given before now o f end only asked =
    let so : IfSome o IsAuditFault = ends_with IsAuditFault o f end only tt in
    let P : RunFault → Type 0 = λ e. IsAskedFault task given e in
    record {
      cause = ends_with P o f end asked tt;
      print_rose = λ is. absurd (of_fault IsAuditFault o fault.Print so is);
      file_rose = λ path is. absurd (of_fault IsAuditFault o (fault.File path) so is);
      crate_rose = λ path is. absurd (of_fault IsAuditFault o (fault.Vendor (vendor_fault.File path)) so is);
      store_rose = λ at is. absurd (of_fault IsAuditFault o (fault.Vendor (vendor_fault.Store at)) so is);
      start_rose = λ failed is. absurd (of_fault IsAuditFault o (fault.Start failed) so is);
    }

-- the text is no lockfile, or it is out of memory
pub audit_asked : (task : Task) (given : Asked) (f : RunFault) → IsAuditFault f → ((r : LockfileFault) → f ≡ fault.Lockfile r → locked given.text ≡ Err r) → IsAskedFault task given f
audit_asked task given (fault.Lockfile r) only refused = (only, refused r refl)
audit_asked task given fault.NoMemory only refused = tt
audit_asked task given (fault.Usage place) only refused = absurd only
audit_asked task given (fault.Settings reason) only refused = absurd only
audit_asked task given (fault.Missing path) only refused = absurd only
audit_asked task given (fault.NotUtf8 path) only refused = absurd only
audit_asked task given (fault.TooLarge path len) only refused = absurd only
audit_asked task given (fault.File path) only refused = absurd only
audit_asked task given (fault.Advisory n reason) only refused = absurd only
audit_asked task given (fault.Baseline line) only refused = absurd only
audit_asked task given (fault.Vendor reason) only refused = absurd only
audit_asked task given fault.Print only refused = absurd only
audit_asked task given (fault.Generate status) only refused = absurd only
audit_asked task given (fault.Start failed) only refused = absurd only

-- no call failed then
pub audit_adds : (remedy : Remedy) (calls : List FailedCall) (f : RunFault) → IsAuditFault f → AddsMakingCalls remedy calls calls (Some f)
audit_adds Report calls f only = refl
audit_adds (Fix dry_run) calls f only = refl
audit_adds Plan calls f only = refl
audit_adds (Baseline path) calls f only = refl
audit_adds (WriteBaseline path) calls f only = let P : RunFault → Type 0 = λ e. AddsFileCalls path calls calls (Some e) in audit_case P f only (λ r other. refl) (inl refl)
audit_adds (Vendor more) calls f only = let P : RunFault → Type 0 = λ e. AddsRegistryCalls calls calls (Some e) in audit_case P f only (λ r other. refl) (inl refl)

-- if memory was left, the text is no lockfile
pub audit_refused : {X : Type 0} (o : Option RunFault) (f : RunFault) → IsEndOf f o → IsAuditFault f → ((r : LockfileFault) → f ≡ fault.Lockfile r → X) → o ≢ Some fault.NoMemory → X
audit_refused o f (inr memory) only refused other = absurd (other memory)
audit_refused o (fault.Lockfile r) (inl is) only refused other = refused r refl
audit_refused o fault.NoMemory (inl is) only refused other = absurd (other is)
audit_refused o (fault.Usage place) (inl is) only refused other = absurd only
audit_refused o (fault.Settings reason) (inl is) only refused other = absurd only
audit_refused o (fault.Missing path) (inl is) only refused other = absurd only
audit_refused o (fault.NotUtf8 path) (inl is) only refused other = absurd only
audit_refused o (fault.TooLarge path len) (inl is) only refused other = absurd only
audit_refused o (fault.File path) (inl is) only refused other = absurd only
audit_refused o (fault.Advisory n reason) (inl is) only refused other = absurd only
audit_refused o (fault.Baseline line) (inl is) only refused other = absurd only
audit_refused o (fault.Vendor reason) (inl is) only refused other = absurd only
audit_refused o fault.Print (inl is) only refused other = absurd only
audit_refused o (fault.Generate status) (inl is) only refused other = absurd only
audit_refused o (fault.Start failed) (inl is) only refused other = absurd only

-- ---- if nothing could be made

pub unmade_causes : (task : Task) (given : Asked) (before now : World) (o : Option RunFault) (f : RunFault) → IsEndOf f o → IsMakingFault task.remedy f
    → ((path : List ℕ) → f ≡ fault.File path → CountRose before.file_faults now.file_faults)
    → ((path : List ℕ) → f ≡ fault.Vendor (vendor_fault.File path) → CountRose before.file_faults now.file_faults)
    → ((at : ℕ) → f ≡ fault.Vendor (vendor_fault.Store at) → CountRose before.disk_faults now.disk_faults)
    → HasCauses (IsAskedFault task given) before now o
unmade_causes task given before now o f end only file crate store =
    let so : IfSome o (IsMakingFault task.remedy) = ends_with (IsMakingFault task.remedy) o f end only tt in
    let P : RunFault → Type 0 = λ e. IsAskedFault task given e in
    record {
      cause = ends_with P o f end (making_case P task.remedy f only (λ told is. is) (λ reason is other. (is, other)) tt) tt;
      print_rose = λ is. absurd (of_fault (IsMakingFault task.remedy) o fault.Print so is);
      file_rose = λ path is. file path (same_fault f (fault.File path) o end is (memory_no_file path));
      crate_rose = λ path is. crate path (same_fault f (fault.Vendor (vendor_fault.File path)) o end is (memory_no_crate path));
      store_rose = λ at is. store at (same_fault f (fault.Vendor (vendor_fault.Store at)) o end is (memory_no_store at));
      start_rose = λ failed is. absurd (of_fault (IsMakingFault task.remedy) o (fault.Start failed) so is);
    }

-- ---- if it couldn't be finished

pub unfinished_causes : (task : Task) (given : Asked) (before now : World) (o : Option RunFault) (f : RunFault) → IsEndOf f o → IsFinishFault f
    → (f ≡ fault.Print → CountRose before.out_faults now.out_faults ⊎ CountRose before.err_faults now.err_faults)
    → ((failed : ℕ) → f ≡ fault.Start failed → CountRoseBy failed before.start_faults now.start_faults)
    → HasCauses (IsAskedFault task given) before now o
unfinished_causes task given before now o f end only print start =
    let so : IfSome o IsFinishFault = ends_with IsFinishFault o f end only tt in
    let P : RunFault → Type 0 = λ e. IsAskedFault task given e in
    record {
      cause = ends_with P o f end (finish_case P f only tt (λ failed some. some) tt) tt;
      print_rose = λ is. print (same_fault f fault.Print o end is memory_no_print);
      file_rose = λ path is. absurd (of_fault IsFinishFault o (fault.File path) so is);
      crate_rose = λ path is. absurd (of_fault IsFinishFault o (fault.Vendor (vendor_fault.File path)) so is);
      store_rose = λ at is. absurd (of_fault IsFinishFault o (fault.Vendor (vendor_fault.Store at)) so is);
      start_rose = λ failed is. start failed (same_fault f (fault.Start failed) o end is (memory_no_start failed));
    }

-- ---- if it only prints

pub print_causes : (before now : World) (o : Option RunFault) (f : RunFault) → IsEndOf f o → IsPrintFault f
    → (f ≡ fault.Print → CountRose before.out_faults now.out_faults ⊎ CountRose before.err_faults now.err_faults) → HasCauses IsPrintFault before now o
print_causes before now o f end only print =
    let so : IfSome o IsPrintFault = ends_with IsPrintFault o f end only tt in
    record {
      cause = so;
      print_rose = λ is. print (same_fault f fault.Print o end is memory_no_print);
      file_rose = λ path is. absurd (of_fault IsPrintFault o (fault.File path) so is);
      crate_rose = λ path is. absurd (of_fault IsPrintFault o (fault.Vendor (vendor_fault.File path)) so is);
      store_rose = λ at is. absurd (of_fault IsPrintFault o (fault.Vendor (vendor_fault.Store at)) so is);
      start_rose = λ failed is. absurd (of_fault IsPrintFault o (fault.Start failed) so is);
    }

-- if out of memory, it neither succeeded nor failed in printing
pub no_answer : {X : Type 0} (o : Option RunFault) → IsEndOf fault.NoMemory o → (o ≡ None) ⊎ (o ≡ Some fault.Print) → X
no_answer o (inl is) (inl none) = cc
no_answer o (inl is) (inr failed) = cc
no_answer o (inr is) (inl none) = cc
no_answer o (inr is) (inr failed) = cc

pub put_failed_of : (e : PrintFault) → by_print e ≡ fault.Print → e ≡ print.Put
put_failed_of print.Put is = refl
put_failed_of print.NoMemory is = absurd (memory_no_print is)
