-- What was made of an audit, by how it ended.
use Rattle.std.proofs.Common.{◌≡◌, ◌⊎◌, ◌≤◌, inl, inr, ℕ, List, [], ◌∷◌, Option, Some, None, refl, sym, subst, arith}
use Rattle.std.specs.Prelude.{IfNone, IsSome}
use Rattle.tame_names.specs.Standing.{Host}
use Rattle.tame_names.specs.declared.host.FailedCall.{FailedCall}
use Rattle.audit_core.specs.declared.asking.Turn.{Turn}
use Rattle.audit_core.specs.Turns.{Chains}
use Rattle.audit_asked.specs.declared.runners.Started.{Started}
use Rattle.audit_remedies.specs.declared.faults.RunFault.{RunFault}
use Rattle.audit_remedies.specs.declared.faults.RunFault.TheVariants as fault
use Rattle.vendor_registry.specs.declared.faults.VendorFault.TheVariants as vendor_fault
use Rattle.audit_asked.specs.Calls.{AddsBy}
use Rattle.audit_asked.specs.declared.faults.AskFault.{AskFault}
use Rattle.audit_asked.specs.declared.faults.AskFault.TheVariants as ask
use Rattle.audit_remedies.specs.Calls.{AddsFileCalls, AddsMakingCalls, AddsRegistryCalls}
use Rattle.audit_program.specs.Calls.{AddsRunCall, AddsTaskCalls}
use Rattle.audit_program.specs.Tasks.{IsTaskCall}
use Rattle.audit_program.specs.declared.tasks.Task.{Task}
use Rattle.audit_remedies.specs.Finishes.{IsFinishFault}
use Rattle.audit_remedies.specs.Faults.{by_ask}
use Rattle.audit_remedies.specs.Makings.{IsMakingFault}
use Rattle.audit_remedies.specs.declared.remedies.Remedy.{Remedy}
use Rattle.audit_remedies.specs.declared.remedies.Remedy.TheVariants.{Report, Fix, Plan, Baseline, WriteBaseline, Vendor}
use Rattle.audit_program.proofs.FaultCases.{finish_case, making_case}
use Rattle.audit_remedies.specs.Steps.{AreStarted, FailedBy}
use Rattle.audit_remedies.proofs.Finishing.{all_started, each_none}

-- the counts of the disk don't fall in turns
pub chain_grows : (wire disk : ℕ) (ts : List Turn) (last_wire last_disk : ℕ) → Chains wire disk ts last_wire last_disk → disk ≤ last_disk
chain_grows wire disk [] last_wire last_disk h = let same = h.1 in omega (arith, same)
chain_grows wire disk (t ∷ ts) last_wire last_disk h =
    let more = chain_grows t.wire_after t.disk_after ts last_wire last_disk h.5 in
    let a = h.2 in
    let b = h.3 in
    let c = h.4 in
    omega (arith, more, a, b, c)

-- ---- a registry

-- ---- failed calls, by how a run ends

registry_told : (before now : List FailedCall) (f : RunFault) → AddsRegistryCalls before now (Some f) → AddsRegistryCalls before now (Some fault.NoMemory)
registry_told before now (fault.Vendor (vendor_fault.File told)) h = inr (told, h.0, h.1, h.2)
registry_told before now (fault.Vendor (vendor_fault.Name n)) h = inl h
registry_told before now (fault.Vendor (vendor_fault.Store n)) h = inl h
registry_told before now (fault.Vendor (vendor_fault.Absent n)) h = inl h
registry_told before now (fault.Vendor (vendor_fault.Record n)) h = inl h
registry_told before now (fault.Vendor (vendor_fault.NoVersion n)) h = inl h
registry_told before now (fault.Vendor (vendor_fault.NoCrate n)) h = inl h
registry_told before now (fault.Vendor (vendor_fault.TooLarge n len)) h = inl h
registry_told before now (fault.Vendor (vendor_fault.Digest n found)) h = inl h
registry_told before now (fault.Vendor (vendor_fault.NotEmpty count)) h = inl h
registry_told before now (fault.Vendor vendor_fault.NotADirectory) h = inl h
registry_told before now (fault.Vendor (vendor_fault.ReadBack why)) h = inl h
registry_told before now (fault.Vendor vendor_fault.NoMemory) h = inl h
registry_told before now fault.NoMemory h = h
registry_told before now (fault.File path) h = inl h
registry_told before now (fault.Usage place) h = inl h
registry_told before now (fault.Settings reason) h = inl h
registry_told before now (fault.Missing path) h = inl h
registry_told before now (fault.NotUtf8 path) h = inl h
registry_told before now (fault.TooLarge path len) h = inl h
registry_told before now (fault.Lockfile reason) h = inl h
registry_told before now (fault.Advisory n reason) h = inl h
registry_told before now (fault.Baseline line) h = inl h
registry_told before now fault.Print h = inl h
registry_told before now (fault.Generate status) h = inl h
registry_told before now (fault.Start failed) h = inl h

file_told : (path : List ℕ) (before now : List FailedCall) (f : RunFault) → AddsFileCalls path before now (Some f) → AddsFileCalls path before now (Some fault.NoMemory)
file_told path before now (fault.File told) h = inr (told, h.0, h.1, h.2)
file_told path before now fault.NoMemory h = h
file_told path before now (fault.Vendor reason) h = inl h
file_told path before now (fault.Usage place) h = inl h
file_told path before now (fault.Settings reason) h = inl h
file_told path before now (fault.Missing told) h = inl h
file_told path before now (fault.NotUtf8 told) h = inl h
file_told path before now (fault.TooLarge told len) h = inl h
file_told path before now (fault.Lockfile reason) h = inl h
file_told path before now (fault.Advisory n reason) h = inl h
file_told path before now (fault.Baseline line) h = inl h
file_told path before now fault.Print h = inl h
file_told path before now (fault.Generate status) h = inl h
file_told path before now (fault.Start failed) h = inl h

memory_told : (remedy : Remedy) (before now : List FailedCall) (f : RunFault) → AddsMakingCalls remedy before now (Some f) → AddsMakingCalls remedy before now (Some fault.NoMemory)
memory_told Report before now f h = h
memory_told (Fix dry_run) before now f h = h
memory_told Plan before now f h = h
memory_told (Baseline path) before now f h = h
memory_told (WriteBaseline path) before now f h = file_told path before now f h
memory_told (Vendor more) before now f h = registry_told before now f h

-- a run that fails so ends with this fault, or out of memory
pub making_told : (remedy : Remedy) (before now : List FailedCall) (f : RunFault) (o : Option RunFault) → (o ≡ Some f) ⊎ (o ≡ Some fault.NoMemory) → AddsMakingCalls remedy before now (Some f)
    → AddsMakingCalls remedy before now o
making_told remedy before now f o (inl is) h = let P : Option RunFault → Type 0 = λ x. AddsMakingCalls remedy before now x in subst P (sym is) h
making_told remedy before now f o (inr is) h = let P : Option RunFault → Type 0 = λ x. AddsMakingCalls remedy before now x in subst P (sym is) (memory_told remedy before now f h)

-- after what was made no call fails
none_case : (remedy : Remedy) (before now : List FailedCall) → AddsMakingCalls remedy before now None → now ≡ before
none_case Report before now h = h
none_case (Fix dry_run) before now h = h
none_case Plan before now h = h
none_case (Baseline path) before now h = h
none_case (WriteBaseline path) before now h = h
none_case (Vendor more) before now h = h

late_case : (remedy : Remedy) (before now : List FailedCall) (f : RunFault) → IsFinishFault f → now ≡ before → AddsMakingCalls remedy before now (Some f)
late_case Report before now f only same = same
late_case (Fix dry_run) before now f only same = same
late_case Plan before now f only same = same
late_case (Baseline path) before now f only same = same
late_case (WriteBaseline path) before now f only same =
    let P : RunFault → Type 0 = λ e. AddsFileCalls path before now (Some e) in finish_case P f only same (λ failed some. same) (inl same)
late_case (Vendor more) before now f only same =
    let P : RunFault → Type 0 = λ e. AddsRegistryCalls before now (Some e) in finish_case P f only same (λ failed some. same) (inl same)

pub finishing_told : (remedy : Remedy) (before now : List FailedCall) (f : RunFault) (o : Option RunFault) → (o ≡ Some f) ⊎ (o ≡ Some fault.NoMemory) → IsFinishFault f
    → AddsMakingCalls remedy before now None → AddsMakingCalls remedy before now o
finishing_told remedy before now f o end only h = making_told remedy before now f o end (late_case remedy before now f only (none_case remedy before now h))

-- ---- nothing is started if it couldn't be made

pub unmade_failed : (remedy : Remedy) (f : RunFault) → IsMakingFault remedy f → FailedBy [] (Some f)
unmade_failed remedy f only =
    let P : RunFault → Type 0 = λ e. FailedBy [] (Some e) in
    making_case P remedy f only (λ told is. record { none = λ is. cc; some = λ failed is. cc }) (λ reason is other. record { none = λ is. cc; some = λ failed is. cc })
    (record { none = λ is. cc; some = λ failed is. cc })

pub unmade_started : (told : Type 0) (remedy : Remedy) (before : List Started) (f : RunFault) → IsMakingFault remedy f → AreStarted told [] before before [] (Some f)
unmade_started told remedy before f only = all_started told [] before before [] (Some f) refl (λ here. each_none before) (unmade_failed remedy f only)

-- ---- in asking, or in making

pub calls_made : (task : Task) (host : Host) (before now : List FailedCall) (o : Option RunFault) → AddsMakingCalls task.remedy before now o → AddsTaskCalls task host before now o
calls_made task host before now None h = inr h
calls_made task host before now (Some (fault.Usage place)) h = inr h
calls_made task host before now (Some (fault.Settings reason)) h = inr h
calls_made task host before now (Some (fault.Missing path)) h = inr h
calls_made task host before now (Some (fault.NotUtf8 path)) h = inr h
calls_made task host before now (Some (fault.TooLarge path len)) h = inr h
calls_made task host before now (Some (fault.File path)) h = inr h
calls_made task host before now (Some (fault.Lockfile reason)) h = inr h
calls_made task host before now (Some (fault.Advisory n reason)) h = inr h
calls_made task host before now (Some (fault.Baseline line)) h = inr h
calls_made task host before now (Some (fault.Vendor reason)) h = h
calls_made task host before now (Some fault.Print) h = inr h
calls_made task host before now (Some (fault.Generate status)) h = inr h
calls_made task host before now (Some (fault.Start failed)) h = inr h
calls_made task host before now (Some fault.NoMemory) h = inr h

calls_by : (task : Task) (host : Host) (before now : List FailedCall) (e : AskFault) → AddsBy (IsTaskCall task host) before now e → AddsTaskCalls task host before now (Some (by_ask e))
calls_by task host before now (ask.Settings reason) h = inl h
calls_by task host before now (ask.Missing path) h = inl h
calls_by task host before now (ask.NotUtf8 path) h = inl h
calls_by task host before now (ask.TooLarge path len) h = inl h
calls_by task host before now (ask.File path) h = inl h
calls_by task host before now (ask.Advisory n reason) h = inl h
calls_by task host before now (ask.Baseline line) h = inl h
calls_by task host before now (ask.Generate status) h = inl h
calls_by task host before now ask.Start h = inl h
calls_by task host before now ask.NoMemory h = inl (inl h)

calls_memory : (task : Task) (host : Host) (before now : List FailedCall) (e : AskFault) → AddsBy (IsTaskCall task host) before now e → AddsTaskCalls task host before now (Some fault.NoMemory)
calls_memory task host before now (ask.Settings reason) h = inl (inl h)
calls_memory task host before now (ask.Missing path) h = inl (inl h)
calls_memory task host before now (ask.NotUtf8 path) h = inl (inl h)
calls_memory task host before now (ask.TooLarge path len) h = inl (inl h)
calls_memory task host before now (ask.File path) h = inl (inr (path, h.0, h.1, h.2))
calls_memory task host before now (ask.Advisory n reason) h = inl (inl h)
calls_memory task host before now (ask.Baseline line) h = inl (inl h)
calls_memory task host before now (ask.Generate status) h = inl (inl h)
calls_memory task host before now ask.Start h = inl (inl h)
calls_memory task host before now ask.NoMemory h = inl (inl h)

pub calls_asked : (task : Task) (host : Host) (before now : List FailedCall) (e : AskFault) (o : Option RunFault) → (o ≡ Some (by_ask e)) ⊎ (o ≡ Some fault.NoMemory)
    → AddsBy (IsTaskCall task host) before now e → AddsTaskCalls task host before now o
calls_asked task host before now e o (inl is) h =
    let P : Option RunFault → Type 0 = λ x. AddsTaskCalls task host before now x in subst P (sym is) (calls_by task host before now e h)
calls_asked task host before now e o (inr is) h =
    let P : Option RunFault → Type 0 = λ x. AddsTaskCalls task host before now x in subst P (sym is) (calls_memory task host before now e h)

-- ---- without an audit, in asking

told_by : (may : List ℕ → FailedCall → Type 0) (before now : List FailedCall) (e : AskFault) → AddsBy may before now e → AddsRunCall may before now (Some (by_ask e))
told_by may before now (ask.Settings reason) h = h
told_by may before now (ask.Missing path) h = h
told_by may before now (ask.NotUtf8 path) h = h
told_by may before now (ask.TooLarge path len) h = h
told_by may before now (ask.File path) h = h
told_by may before now (ask.Advisory n reason) h = h
told_by may before now (ask.Baseline line) h = h
told_by may before now (ask.Generate status) h = h
told_by may before now ask.Start h = h
told_by may before now ask.NoMemory h = inl h

told_memory : (may : List ℕ → FailedCall → Type 0) (before now : List FailedCall) (e : AskFault) → AddsBy may before now e → AddsRunCall may before now (Some fault.NoMemory)
told_memory may before now (ask.Settings reason) h = inl h
told_memory may before now (ask.Missing path) h = inl h
told_memory may before now (ask.NotUtf8 path) h = inl h
told_memory may before now (ask.TooLarge path len) h = inl h
told_memory may before now (ask.File path) h = inr (path, h.0, h.1, h.2)
told_memory may before now (ask.Advisory n reason) h = inl h
told_memory may before now (ask.Baseline line) h = inl h
told_memory may before now (ask.Generate status) h = inl h
told_memory may before now ask.Start h = inl h
told_memory may before now ask.NoMemory h = inl h

pub asked_told : (may : List ℕ → FailedCall → Type 0) (before now : List FailedCall) (e : AskFault) (o : Option RunFault) → (o ≡ Some (by_ask e)) ⊎ (o ≡ Some fault.NoMemory) → AddsBy may before now e
    → AddsRunCall may before now o
asked_told may before now e o (inl is) h = let P : Option RunFault → Type 0 = λ x. AddsRunCall may before now x in subst P (sym is) (told_by may before now e h)
asked_told may before now e o (inr is) h = let P : Option RunFault → Type 0 = λ x. AddsRunCall may before now x in subst P (sym is) (told_memory may before now e h)

-- once all that was asked for was given, none failed
quiet_told : (may : List ℕ → FailedCall → Type 0) (before now : List FailedCall) (o : Option RunFault) → ((path : List ℕ) → o ≡ Some (fault.File path) → ⊥) → now ≡ before → AddsRunCall may before now o
quiet_told may before now None no_file same = same
quiet_told may before now (Some (fault.Usage place)) no_file same = same
quiet_told may before now (Some (fault.Settings reason)) no_file same = same
quiet_told may before now (Some (fault.Missing path)) no_file same = same
quiet_told may before now (Some (fault.NotUtf8 path)) no_file same = same
quiet_told may before now (Some (fault.TooLarge path len)) no_file same = same
quiet_told may before now (Some (fault.File path)) no_file same = absurd (no_file path refl)
quiet_told may before now (Some (fault.Lockfile reason)) no_file same = same
quiet_told may before now (Some (fault.Advisory n reason)) no_file same = same
quiet_told may before now (Some (fault.Baseline line)) no_file same = same
quiet_told may before now (Some (fault.Vendor reason)) no_file same = same
quiet_told may before now (Some fault.Print) no_file same = same
quiet_told may before now (Some (fault.Generate status)) no_file same = same
quiet_told may before now (Some (fault.Start failed)) no_file same = same
quiet_told may before now (Some fault.NoMemory) no_file same = inl same

pub quiet_unaudited : {A : Type 0} (a : Option A) (may : List ℕ → FailedCall → Type 0) (before now : List FailedCall) (o : Option RunFault) → ((path : List ℕ) → o ≡ Some (fault.File path) → IsSome a)
    → IfNone a (now ≡ before) → IfNone a (AddsRunCall may before now o)
quiet_unaudited (Some x) may before now o some same = tt
quiet_unaudited None may before now o some same = quiet_told may before now o (λ path is. let none = some path is in cc (none)) same
