-- A run over a host that has all that is asked for, and of which no call fails, has no fault but out of memory.
use Rattle.std.proofs.Common.{◌≡◌, ◌⊎◌, ◌<◌, inl, inr, ℕ, List, Option, Some, None, Ok, Err, IsTrue, refl, arith}
use Rattle.std.specs.Prelude.{IfSome, pos}
use Rattle.tame_names.specs.Counts.{CountRose, CountRoseBy, CountStayed}
use Rattle.tame_names.specs.Standing.{Host}
use Rattle.audit_lock.specs.declared.lockfiles.LockfileFault.{LockfileFault}
use Rattle.audit_settings.specs.declared.commands.AuditCommand.{AuditCommand}
use Rattle.audit_asked.specs.Asked.{status_told}
use Rattle.audit_asked.specs.ForBinaries.{asked_for_binaries}
use Rattle.audit_asked.specs.declared.binaries.AskedForBinaries.{AskedForBinaries}
use Rattle.audit_remedies.specs.declared.faults.RunFault.{RunFault}
use Rattle.audit_remedies.specs.declared.faults.RunFault.TheVariants as fault
use Rattle.audit_remedies.specs.Faults.{IsPrintFault}
use Rattle.audit_program.specs.Causes.{BinariesCause, CauseOf, HasCauses, HasNoLockfile, Refuses, RefusesBinaries, TaskCause}
use Rattle.audit_program.specs.Completes.{AllStayed, IsComplete, IsReady, IsTaskReady}
use Rattle.audit_program.specs.Jobs.{Asking}
use Rattle.audit_program.specs.declared.tasks.Job.TheVariants as job
use Rattle.audit_program.specs.Worlds.{World}
use Rattle.audit_program.specs.declared.tasks.Task.{Task}
use Rattle.audit_program.proofs.FaultCases.{decided, is_decided, not_asked, not_read}
use Rattle.audit_program.proofs.Ended.{not_both}

neither : (a b c d : ℕ) → CountStayed a b → CountStayed c d → CountRose a b ⊎ CountRose c d → ⊥
neither a b c d out err (inl rose) = not_both a b out rose
neither a b c d out err (inr rose) = not_both c d err rose

none_failed : (failed before now : ℕ) → 0 < failed → CountStayed before now → CountRoseBy failed before now → ⊥
none_failed failed before now some quiet rose = let same = quiet.0 in let low = quiet.1 in omega (arith, some, same, low, rose)

-- what a fault says of a count that rose
record HasRose (before now : World) (o : Option RunFault) : Type 0 where
  pub print : o ≡ Some fault.Print → CountRose before.out_faults now.out_faults ⊎ CountRose before.err_faults now.err_faults
  pub file : (path : List ℕ) → o ≡ Some (fault.File path) → CountRose before.file_faults now.file_faults
  pub start : (failed : ℕ) → o ≡ Some (fault.Start failed) → CountRoseBy failed before.start_faults now.start_faults

-- ---- of a lockfile: the host decides no refusal, and the text is a lockfile

unrefused : (told : Type 0) (task : Task) (host : Host) (reason : RunFault) (ready : IsTaskReady task host) → told → IsTrue (is_decided reason)
    → Refuses told task host reason → ⊥
unrefused told task host reason ready here by cause =
    let asked = cause.asked in
    let mine = ready.gives (status_told {T = Unit {0}} (Err asked)) in
    let other = cause.gives here (decided reason asked cause.is by) in
    cc (mine, other)

readable : (told : Type 0) (task : Task) (host : Host) (reason : LockfileFault) (ready : IsTaskReady task host) → told → HasNoLockfile told task host reason → ⊥
readable told task host reason ready here cause =
    let mine = ready.gives (pos 0) in
    let other = cause.gives here in
    let lock = ready.lockfile in
    let none = cause.lockfile in
    cc (mine, other, lock, none)

task_complete : (told : Type 0) (task : Task) (host : Host) (before now : World) (o : Option RunFault) (ready : IsTaskReady task host) → told
    → IfSome o (TaskCause told task host) → HasRose before now o → AllStayed before now → IsComplete o
task_complete told task host before now None ready here cause rose quiet = tt
task_complete told task host before now (Some fault.NoMemory) ready here cause rose quiet = tt
task_complete told task host before now (Some (fault.Usage place)) ready here cause rose quiet = not_asked (fault.Usage place) cause.asked cause.is refl
task_complete told task host before now (Some (fault.Settings reason)) ready here cause rose quiet = absurd (unrefused told task host (fault.Settings reason) ready here refl cause)
task_complete told task host before now (Some (fault.Missing path)) ready here cause rose quiet = absurd (unrefused told task host (fault.Missing path) ready here refl cause)
task_complete told task host before now (Some (fault.NotUtf8 path)) ready here cause rose quiet = absurd (unrefused told task host (fault.NotUtf8 path) ready here refl cause)
task_complete told task host before now (Some (fault.TooLarge path len)) ready here cause rose quiet = absurd (unrefused told task host (fault.TooLarge path len) ready here refl cause)
task_complete told task host before now (Some (fault.Advisory n reason)) ready here cause rose quiet = absurd (unrefused told task host (fault.Advisory n reason) ready here refl cause)
task_complete told task host before now (Some (fault.Baseline line)) ready here cause rose quiet = absurd (unrefused told task host (fault.Baseline line) ready here refl cause)
task_complete told task host before now (Some (fault.Vendor reason)) ready here cause rose quiet = tt
task_complete told task host before now (Some (fault.Generate status)) ready here cause rose quiet = absurd (unrefused told task host (fault.Generate status) ready here refl cause)
task_complete told task host before now (Some (fault.Lockfile reason)) ready here cause rose quiet = absurd (readable told task host reason ready here cause)
task_complete told task host before now (Some fault.Print) ready here cause rose quiet =
    absurd (neither before.out_faults now.out_faults before.err_faults now.err_faults quiet.out quiet.err (rose.print refl))
task_complete told task host before now (Some (fault.File path)) ready here cause rose quiet = absurd (not_both before.file_faults now.file_faults quiet.files (rose.file path refl))
task_complete told task host before now (Some (fault.Start failed)) ready here cause rose quiet =
    absurd (none_failed failed before.start_faults now.start_faults cause quiet.starts (rose.start failed refl))

-- ---- of binaries: the host decides no refusal

accepted : (told : Type 0) (command : AuditCommand) (host : Host) (given : AskedForBinaries) (reason : RunFault) → asked_for_binaries command host ≡ Ok given → told → IsTrue (is_decided reason)
    → RefusesBinaries told command host reason → ⊥
accepted told command host given reason mine here by cause = let other = cause.gives here (decided reason cause.asked cause.is by) in cc (mine, other)

binaries_complete : (told : Type 0) (command : AuditCommand) (host : Host) (given : AskedForBinaries) (before now : World) (o : Option RunFault) → asked_for_binaries command host ≡ Ok given → told
    → IfSome o (BinariesCause told command host) → HasRose before now o → AllStayed before now → IsComplete o
binaries_complete told command host given before now None gives here cause rose quiet = tt
binaries_complete told command host given before now (Some fault.NoMemory) gives here cause rose quiet = tt
binaries_complete told command host given before now (Some (fault.Usage place)) gives here cause rose quiet = not_read (fault.Usage place) cause.asked cause.is cause.only refl
binaries_complete told command host given before now (Some (fault.Settings reason)) gives here cause rose quiet = absurd (accepted told command host given (fault.Settings reason) gives here refl cause)
binaries_complete told command host given before now (Some (fault.Missing path)) gives here cause rose quiet = absurd (accepted told command host given (fault.Missing path) gives here refl cause)
binaries_complete told command host given before now (Some (fault.NotUtf8 path)) gives here cause rose quiet = absurd (accepted told command host given (fault.NotUtf8 path) gives here refl cause)
binaries_complete told command host given before now (Some (fault.TooLarge path len)) gives here cause rose quiet = absurd (accepted told command host given (fault.TooLarge path len) gives here refl cause)
binaries_complete told command host given before now (Some (fault.Advisory n reason)) gives here cause rose quiet = absurd (accepted told command host given (fault.Advisory n reason) gives here refl cause)
binaries_complete told command host given before now (Some (fault.Baseline line)) gives here cause rose quiet = absurd (accepted told command host given (fault.Baseline line) gives here refl cause)
binaries_complete told command host given before now (Some (fault.Vendor reason)) gives here cause rose quiet = not_read (fault.Vendor reason) cause.asked cause.is cause.only refl
binaries_complete told command host given before now (Some (fault.Generate status)) gives here cause rose quiet = not_read (fault.Generate status) cause.asked cause.is cause.only refl
binaries_complete told command host given before now (Some (fault.Lockfile reason)) gives here cause rose quiet = not_read (fault.Lockfile reason) cause.asked cause.is cause.only refl
binaries_complete told command host given before now (Some fault.Print) gives here cause rose quiet =
    absurd (neither before.out_faults now.out_faults before.err_faults now.err_faults quiet.out quiet.err (rose.print refl))
binaries_complete told command host given before now (Some (fault.File path)) gives here cause rose quiet = absurd (not_both before.file_faults now.file_faults quiet.files (rose.file path refl))
binaries_complete told command host given before now (Some (fault.Start failed)) gives here cause rose quiet = not_read (fault.Start failed) cause.asked cause.is cause.only refl

-- of made packages, and of a run that only prints text
print_complete : (before now : World) (o : Option RunFault) → IfSome o IsPrintFault → HasRose before now o → AllStayed before now → IsComplete o
print_complete before now None only rose quiet = tt
print_complete before now (Some fault.NoMemory) only rose quiet = tt
print_complete before now (Some fault.Print) only rose quiet =
    absurd (neither before.out_faults now.out_faults before.err_faults now.err_faults quiet.out quiet.err (rose.print refl))
print_complete before now (Some (fault.Advisory place reason)) only rose quiet = absurd only
print_complete before now (Some (fault.Baseline line)) only rose quiet = absurd only
print_complete before now (Some (fault.Vendor reason)) only rose quiet = absurd only
print_complete before now (Some (fault.Usage place)) only rose quiet = absurd only
print_complete before now (Some (fault.Settings reason)) only rose quiet = absurd only
print_complete before now (Some (fault.Missing path)) only rose quiet = absurd only
print_complete before now (Some (fault.NotUtf8 path)) only rose quiet = absurd only
print_complete before now (Some (fault.TooLarge path len)) only rose quiet = absurd only
print_complete before now (Some (fault.File path)) only rose quiet = absurd only
print_complete before now (Some (fault.Lockfile reason)) only rose quiet = absurd only
print_complete before now (Some (fault.Generate status)) only rose quiet = absurd only
print_complete before now (Some (fault.Start failed)) only rose quiet = absurd only

-- ---- of any arguments

pub all_complete : (told : Type 0) (asking : Asking) (before now : World) (o : Option RunFault) → told → HasCauses (CauseOf told asking before.host) before now o → IsReady asking before.host
    → AllStayed before now → IsComplete o
all_complete told (Ok (job.Lockfile task)) before now o here h ready quiet =
    task_complete told task before.host before now o ready here h.cause (record { print = h.print_rose; file = h.file_rose; start = h.start_rose }) quiet
all_complete told (Ok (job.Binaries command more)) before now o here h ready quiet =
    binaries_complete told command before.host ready.0 before now o ready.1 here h.cause (record { print = h.print_rose; file = h.file_rose; start = h.start_rose }) quiet
all_complete told (Ok (job.Generate n)) before now o here h ready quiet =
    print_complete before now o h.cause (record { print = h.print_rose; file = h.file_rose; start = h.start_rose }) quiet
all_complete told (Ok job.Help) before now o here h ready quiet = absurd ready
all_complete told (Ok job.Version) before now o here h ready quiet = absurd ready
all_complete told (Err broken) before now o here h ready quiet = absurd ready
