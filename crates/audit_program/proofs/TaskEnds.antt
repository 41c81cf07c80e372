-- How a run ends that must audit a lockfile: refused by what the host has, by the lockfile's text, or with the audit.
use Rattle.std.proofs.Common.{◌≡◌, ◌≢◌, ◌⊎◌, inl, inr, ℕ, ℤ, List, [], ◌∷◌, ◌++◌, Bool, true, false, Option, Some, None, Ok, Err, IsTrue, refl, sym, ap, subst, ◌∙◌, append-nil}
use Rattle.std.specs.Prelude.{pos, codes, decimal, IfSome, IsSome}
use Rattle.std.specs.Fmt.{signed_decimal}
use Rattle.tame_names.specs.Standing.{Host}
use Rattle.audit_settings.specs.Refusals.{Refusal, refusal}
use Rattle.audit_settings.specs.Refusals as no_settings
use Rattle.audit_settings.specs.declared.configs.SettingsFault.{SettingsFault}
use Rattle.audit_settings.specs.declared.configs.SettingsFault.TheVariants as settings_fault
use Rattle.audit_lock.specs.Locked.{locked}
use Rattle.audit_lock.specs.declared.lockfiles.LockfileFault.{LockfileFault}
use Rattle.audit_asked.specs.Asked.{status_of}
use Rattle.audit_asked.specs.Refusals.{Refused, is_told, refused}
use Rattle.audit_asked.specs.Refusals as no_answer
use Rattle.audit_asked.specs.Starts.{generating}
use Rattle.audit_asked.specs.declared.asking.Asked.{Asked}
use Rattle.audit_asked.specs.declared.faults.AskFault.{AskFault}
use Rattle.audit_asked.specs.declared.faults.AskFault.TheVariants as ask
use Rattle.audit_asked.specs.declared.runners.Started.{Started}
use Rattle.audit_core.specs.declared.auditing.Audited.{Audited}
use Rattle.audit_remedies.specs.Endings.{ending}
use Rattle.audit_remedies.specs.FaultLines.{fault_line, fault_words, settings_words}
use Rattle.audit_remedies.specs.Faults.{IsEarly, by_ask, fault_status, is_early}
use Rattle.audit_remedies.specs.Outputs.{IsEnded}
use Rattle.audit_remedies.specs.declared.faults.RunFault.{RunFault}
use Rattle.audit_remedies.specs.declared.faults.RunFault.TheVariants as fault
use Rattle.audit_remedies.specs.declared.remedies.Remedy.{Remedy}
use Rattle.audit_remedies.specs.declared.remedies.Remedy.TheVariants.{Report, Fix, Plan, Baseline, WriteBaseline, Vendor}
use Rattle.vendor_registry.specs.declared.faults.VendorFault.{VendorFault}
use Rattle.vendor_registry.specs.declared.faults.VendorFault.TheVariants as vendor_fault
use Rattle.audit_program.specs.AgreeingRuns.{AllTell, IsQuiet}
use Rattle.audit_program.specs.Calls.{StartsWhere}
use Rattle.audit_program.specs.Causes.{HasNoLockfile, Refuses, TaskCause}
use Rattle.audit_program.specs.Outcomes.{IsEarlyBy}
use Rattle.audit_program.specs.Runs.{IsRun}
use Rattle.audit_program.specs.TaskRuns.{IsTaskRun}
use Rattle.audit_program.specs.Tasks.{task_asked, task_generates, task_place}
use Rattle.audit_program.specs.Worlds.{Telling, Uncalled, World}
use Rattle.audit_program.specs.declared.outcomes.Outcome.{Outcome}
use Rattle.audit_program.specs.declared.tasks.Job.TheVariants as job
use Rattle.audit_program.specs.declared.tasks.Task.{Task}
use Rattle.audit_program.proofs.AgreedTexts.{not_some}
use Rattle.audit_program.proofs.Ended.{not_both}
use Rattle.audit_program.proofs.FaultCases.{decided, is_decided, not_asked}
use Rattle.audit_program.proofs.Nones.{of_none}
use Rattle.audit_program.proofs.QuietRuns.{ended_fault, no_file_failed, no_put_failed, none_failed, prefix_none}
use Rattle.audit_program.proofs.VendoredAlike.{is_said}

-- ---- a refusal decides the line that reports it

abbrev refusal_words : Refusal → List ℕ
refusal_words no_settings.no_toml = codes "invalid TOML"
refusal_words no_settings.has_a_float = codes "a float"
refusal_words (no_settings.unknown key) = codes "unknown key " ++ key
refusal_words (no_settings.missing key) = codes "missing key " ++ key
refusal_words (no_settings.wrong key) = codes "wrong value " ++ key
refusal_words no_settings.no_memory = codes "out of memory"

settings_case : (e : SettingsFault) → settings_words e ≡ refusal_words (refusal e)
settings_case settings_fault.Toml = refl
settings_case settings_fault.Float = refl
settings_case (settings_fault.Unknown key) = refl
settings_case (settings_fault.Missing key) = refl
settings_case (settings_fault.Value key) = refl
settings_case settings_fault.NoMemory = refl

abbrev refused_words : Refused → List ℕ
refused_words (no_answer.settings reason) = codes "config error: " ++ refusal_words reason
refused_words (no_answer.missing path) = path ++ codes " isn't there"
refused_words (no_answer.not_utf8 path) = path ++ codes " isn't UTF-8"
refused_words (no_answer.too_large path len) = path ++ codes " has " ++ decimal len ++ codes " bytes"
refused_words (no_answer.no_file path) = []
refused_words (no_answer.advisory n reason) = codes "parse error: advisory " ++ decimal n
refused_words (no_answer.baseline line) = codes "baseline line " ++ decimal line
refused_words (no_answer.generate status) = codes "non-zero exit status running `cargo update --workspace`: " ++ signed_decimal status
refused_words no_answer.untold = []

words_case : (place : List ℕ) (e : AskFault) → IsTrue (is_told e) → fault_words place (by_ask e) ≡ refused_words (refused e)
words_case place (ask.Settings reason) told = ap (λ (xs : List ℕ). codes "config error: " ++ xs) (settings_case reason)
words_case place (ask.Missing path) told = refl
words_case place (ask.NotUtf8 path) told = refl
words_case place (ask.TooLarge path len) told = refl
words_case place (ask.File path) told = cc (told)
words_case place (ask.Advisory n reason) told = refl
words_case place (ask.Baseline line) told = refl
words_case place (ask.Generate status) told = refl
words_case place ask.Start told = cc (told)
words_case place ask.NoMemory told = cc (told)

pub same_line : (d e : AskFault) → IsTrue (is_told d) → IsTrue (is_told e) → refused d ≡ refused e → (place : List ℕ) → fault_line place (by_ask d) ≡ fault_line place (by_ask e)
same_line d e told told_too same place =
    ap (λ (xs : List ℕ). codes "error: " ++ xs ++ codes "\n") (words_case place d told ∙ ap (λ (r : Refused). refused_words r) same ∙ sym (words_case place e told_too))

-- ---- faults that the host decides

pub told_status : (e : AskFault) → IsTrue (is_told e) → fault_status (by_ask e) ≡ 2
told_status (ask.Settings reason) told = refl
told_status (ask.Missing path) told = refl
told_status (ask.NotUtf8 path) told = refl
told_status (ask.TooLarge path len) told = refl
told_status (ask.File path) told = cc (told)
told_status (ask.Advisory n reason) told = refl
told_status (ask.Baseline line) told = refl
told_status (ask.Generate status) told = refl
told_status ask.Start told = cc (told)
told_status ask.NoMemory told = cc (told)

pub told_early : (e : AskFault) → IsTrue (is_told e) → IsTrue (is_early (by_ask e))
told_early (ask.Settings reason) told = refl
told_early (ask.Missing path) told = refl
told_early (ask.NotUtf8 path) told = refl
told_early (ask.TooLarge path len) told = refl
told_early (ask.File path) told = cc (told)
told_early (ask.Advisory n reason) told = refl
told_early (ask.Baseline line) told = refl
told_early (ask.Generate status) told = refl
told_early ask.Start told = cc (told)
told_early ask.NoMemory told = cc (told)

early_told : (remedy : Remedy) (e : AskFault) → IsTrue (is_told e) → IsEarly remedy (by_ask e)
early_told Report e told = told_early e told
early_told (Fix dry_run) e told = told_early e told
early_told Plan e told = told_early e told
early_told (Baseline path) e told = told_early e told
early_told (Vendor more) e told = told_early e told
early_told (WriteBaseline at) (ask.Settings reason) told = refl
early_told (WriteBaseline at) (ask.Missing path) told = refl
early_told (WriteBaseline at) (ask.NotUtf8 path) told = refl
early_told (WriteBaseline at) (ask.TooLarge path len) told = refl
early_told (WriteBaseline at) (ask.File path) told = cc (told)
early_told (WriteBaseline at) (ask.Advisory n reason) told = refl
early_told (WriteBaseline at) (ask.Baseline line) told = refl
early_told (WriteBaseline at) (ask.Generate status) told = refl
early_told (WriteBaseline at) ask.Start told = cc (told)
early_told (WriteBaseline at) ask.NoMemory told = cc (told)

early_lockfile : (remedy : Remedy) (reason : LockfileFault) → IsEarly remedy (fault.Lockfile reason)
early_lockfile Report reason = refl
early_lockfile (Fix dry_run) reason = refl
early_lockfile Plan reason = refl
early_lockfile (Baseline path) reason = refl
early_lockfile (WriteBaseline path) reason = refl
early_lockfile (Vendor more) reason = refl

-- ---- starts

-- the start that generates a lockfile, if one is generated, with this status, and these after it
abbrev pub StartedBy : Bool → List Started → List Started → ℤ → List Started → Type 0
StartedBy true before now status more = now ≡ before ++ generating (Some status) ∷ more
StartedBy false before now status more = now ≡ before ++ more

refused_starts : (b : Bool) (before now : List Started) (e : AskFault) → IsTrue (is_told e) → StartsWhere b before now (Some (by_ask e)) → StartedBy b before now (status_of e) []
refused_starts false before now e told h = h ∙ sym (append-nil before)
refused_starts true before now (ask.Settings reason) told h = h
refused_starts true before now (ask.Missing path) told h = h
refused_starts true before now (ask.NotUtf8 path) told h = h
refused_starts true before now (ask.TooLarge path len) told h = h
refused_starts true before now (ask.File path) told h = cc (told)
refused_starts true before now (ask.Advisory n reason) told h = h
refused_starts true before now (ask.Baseline line) told h = h
refused_starts true before now (ask.Generate status) told h = h
refused_starts true before now ask.Start told h = cc (told)
refused_starts true before now ask.NoMemory told h = cc (told)

unlocked_starts : (b : Bool) (before now : List Started) (reason : LockfileFault) → StartsWhere b before now (Some (fault.Lockfile reason)) → StartedBy b before now (pos 0) []
unlocked_starts false before now reason h = h ∙ sym (append-nil before)
unlocked_starts true before now reason h = h

-- ---- the three ends, from what is there beforehand

pub record IsRefusedRun (task : Task) (host : Host) (starts : List Started) (out err : List ℕ) (now : World) (outcome : Outcome) : Type 0 where
  pub asked : AskFault
  pub told : IsTrue (is_told asked)
  pub gives : task_asked task host (status_of asked) ≡ Err (refused asked)
  pub ends : outcome.fault ≡ Some (by_ask asked)
  pub status : outcome.status ≡ 2
  pub started : StartedBy (task_generates task host) starts now.starts (status_of asked) []
  pub put : now.out ≡ out
  pub line : now.err ≡ err ++ fault_line (task_place task) (by_ask asked)
  pub stands : now.host.stands ≡ host.stands

pub record IsUnlockedRun (task : Task) (host : Host) (starts : List Started) (out err : List ℕ) (now : World) (outcome : Outcome) : Type 0 where
  pub given : Asked
  pub gives : task_asked task host (pos 0) ≡ Ok given
  pub reason : LockfileFault
  pub lockfile : locked given.text ≡ Err reason
  pub ends : outcome.fault ≡ Some (fault.Lockfile reason)
  pub status : outcome.status ≡ 2
  pub started : StartedBy (task_generates task host) starts now.starts (pos 0) []
  pub put : now.out ≡ out
  pub line : now.err ≡ err ++ fault_line (task_place task) (fault.Lockfile reason)
  pub stands : now.host.stands ≡ host.stands

-- without a fault, or with the reason why there is no registry, which no call gave that failed
abbrev pub IsDone : Option RunFault → Type 0
IsDone end = (end ≡ None) ⊎ ((reason : VendorFault) × (end ≡ Some (fault.Vendor reason)) × IsTrue (is_said reason))

pub record IsAuditedRun (tells : Telling) (task : Task) (before now : World) (outcome : Outcome) : Type 0 where
  pub audited : Audited
  pub done : IsDone outcome.fault
  pub status : (f : RunFault) → outcome.fault ≡ Some f → outcome.status ≡ fault_status f
  pub run : IsTaskRun tells task before now (ending outcome.fault outcome.status outcome.plan) audited

abbrev pub IsOne : Telling → Task → World → World → Outcome → Type 0
IsOne tells task before now outcome =
    IsRefusedRun task before.host before.starts before.out before.err now outcome
    ⊎ (IsUnlockedRun task before.host before.starts before.out before.err now outcome
    ⊎ IsAuditedRun tells task before now outcome)

-- ---- of a run

-- an early fault leaves no audit
no_audit : (tells : Telling) (task : Task) (same : Uncalled) (before now : World) (outcome : Outcome) (f : RunFault) → IsRun tells (Ok (job.Lockfile task)) same before now outcome → outcome.fault ≡ Some f
    → IsEarly task.remedy f → outcome.audited ≡ None
no_audit tells task same before now outcome f run is early =
    let P : Option RunFault → Type 0 = λ o. IfSome o (λ e. IsEarlyBy (Ok (job.Lockfile task)) e → (outcome.audited ≡ None) × (outcome.binaries ≡ None)) in
    ((subst P is run.has.no_audit) early).0

refused_run : (tells : Telling) (task : Task) (same : Uncalled) (before now : World) (outcome : Outcome) (f : RunFault) → AllTell tells → IsRun tells (Ok (job.Lockfile task)) same before now outcome
    → IsQuiet before now outcome.fault → outcome.fault ≡ Some f → IsTrue (is_decided f) → Refuses tells.files task before.host f
    → IsRefusedRun task before.host before.starts before.out before.err now outcome
refused_run tells task same before now outcome f tell run quiet ends so cause =
    let e = cause.asked in
    let told : IsTrue (is_told e) = decided f e cause.is so in
    let is : outcome.fault ≡ Some (by_ask e) = ends ∙ ap (λ (x : RunFault). Some x) cause.is in
    let audited : outcome.audited ≡ None = no_audit tells task same before now outcome (by_ask e) run is (early_told task.remedy e told) in
    let binaries : outcome.binaries ≡ None = not_some outcome.binaries run.audits.binaries in
    let lockfile = of_none outcome.audited _ audited run.without_lockfile in
    let without = of_none outcome.binaries _ binaries (of_none outcome.audited _ audited run.without_audit) in
    let S : Option RunFault → Type 0 = λ o. StartsWhere (task_generates task before.host) before.starts now.starts o in
    let Q : Option RunFault → Type 0 = λ o. IsEnded (task_place task) before.err [] o now.err before.err_faults now.err_faults in
    record {
      asked = e;
      told = told;
      gives = cause.gives tell.files told;
      ends = is;
      status = run.ends.status (by_ask e) is ∙ told_status e told;
      started = refused_starts (task_generates task before.host) before.starts now.starts e told (subst S is (lockfile.started tell.files tell.runner));
      put = prefix_none before.out now.out (without.out tell.out).part;
      line = ended_fault (task_place task) before.err (by_ask e) now.err before.err_faults now.err_faults (subst Q is (without.err tell.err)) quiet.stayed.err;
      stands = (lockfile.files tell.files).stands;
    }

unlocked_run : (tells : Telling) (task : Task) (same : Uncalled) (before now : World) (outcome : Outcome) (reason : LockfileFault) → AllTell tells → IsRun tells (Ok (job.Lockfile task)) same before now outcome
    → IsQuiet before now outcome.fault → outcome.fault ≡ Some (fault.Lockfile reason) → HasNoLockfile tells.files task before.host reason
    → IsUnlockedRun task before.host before.starts before.out before.err now outcome
unlocked_run tells task same before now outcome reason tell run quiet is cause =
    let audited : outcome.audited ≡ None = no_audit tells task same before now outcome (fault.Lockfile reason) run is (early_lockfile task.remedy reason) in
    let binaries : outcome.binaries ≡ None = not_some outcome.binaries run.audits.binaries in
    let lockfile = of_none outcome.audited _ audited run.without_lockfile in
    let without = of_none outcome.binaries _ binaries (of_none outcome.audited _ audited run.without_audit) in
    let S : Option RunFault → Type 0 = λ o. StartsWhere (task_generates task before.host) before.starts now.starts o in
    let Q : Option RunFault → Type 0 = λ o. IsEnded (task_place task) before.err [] o now.err before.err_faults now.err_faults in
    record {
      given = cause.given;
      gives = cause.gives tell.files;
      reason = reason;
      lockfile = cause.lockfile;
      ends = is;
      status = run.ends.status (fault.Lockfile reason) is;
      started = unlocked_starts (task_generates task before.host) before.starts now.starts reason (subst S is (lockfile.started tell.files tell.runner));
      put = prefix_none before.out now.out (without.out tell.out).part;
      line = ended_fault (task_place task) before.err (fault.Lockfile reason) now.err before.err_faults now.err_faults (subst Q is (without.err tell.err)) quiet.stayed.err;
      stands = (lockfile.files tell.files).stands;
    }

pub some_of : {T : Type 0} (o : Option T) → IsSome o → (x : T) × (o ≡ Some x)
some_of None some = cc (some)
some_of (Some x) some = (x, refl)

audited_run : (tells : Telling) (task : Task) (same : Uncalled) (before now : World) (outcome : Outcome) → IsRun tells (Ok (job.Lockfile task)) same before now outcome → IsSome outcome.audited → IsDone outcome.fault
    → IsAuditedRun tells task before now outcome
audited_run tells task same before now outcome run some done =
    let found = some_of outcome.audited some in
    let P : Option Audited → Type 0 = λ o. IfSome o (λ a. IsTaskRun tells task before now (ending outcome.fault outcome.status outcome.plan) a) in
    record { audited = found.0; done = done; status = run.ends.status; run = subst P found.1 run.audits.audited }

said_case : (reason : VendorFault) → (reason ≢ vendor_fault.NoMemory) → ((at : ℕ) → reason ≡ vendor_fault.Store at → ⊥) → ((path : List ℕ) → reason ≡ vendor_fault.File path → ⊥) → IsTrue (is_said reason)
said_case (vendor_fault.Name at) memory store file = refl
said_case (vendor_fault.Absent at) memory store file = refl
said_case (vendor_fault.Record at) memory store file = refl
said_case (vendor_fault.NoVersion at) memory store file = refl
said_case (vendor_fault.NoCrate at) memory store file = refl
said_case (vendor_fault.TooLarge at len) memory store file = refl
said_case (vendor_fault.Digest at found) memory store file = refl
said_case (vendor_fault.NotEmpty count) memory store file = refl
said_case vendor_fault.NotADirectory memory store file = refl
said_case (vendor_fault.ReadBack why) memory store file = refl
said_case (vendor_fault.Store at) memory store file = absurd (store at refl)
said_case (vendor_fault.File path) memory store file = absurd (file path refl)
said_case vendor_fault.NoMemory memory store file = absurd (memory refl)

-- a registry couldn't be made
unmade_run : (tells : Telling) (task : Task) (same : Uncalled) (before now : World) (outcome : Outcome) (reason : VendorFault) → IsRun tells (Ok (job.Lockfile task)) same before now outcome
    → IsQuiet before now outcome.fault → outcome.fault ≡ Some (fault.Vendor reason) → (reason ≢ vendor_fault.NoMemory) → IsAuditedRun tells task before now outcome
unmade_run tells task same before now outcome reason run quiet is memory =
    let vendor = λ (r : VendorFault). Some (fault.Vendor r) in
    let said = said_case reason memory
    (λ at so. not_both before.disk_faults now.disk_faults quiet.disk (run.causes.store_rose at (is ∙ ap vendor so)))
    (λ path so. not_both before.file_faults now.file_faults quiet.stayed.files (run.causes.crate_rose path (is ∙ ap vendor so))) in
    audited_run tells task same before now outcome run (run.has.vendor_audit reason is) (inr (reason, is, said))

one_case : (tells : Telling) (task : Task) (same : Uncalled) (before now : World) (outcome : Outcome) → AllTell tells → IsRun tells (Ok (job.Lockfile task)) same before now outcome
    → IsQuiet before now outcome.fault → (o : Option RunFault) → outcome.fault ≡ o → IfSome o (TaskCause tells.files task before.host) → IsOne tells task before now outcome
one_case tells task same before now outcome tell run quiet None is cause = inr (inr (audited_run tells task same before now outcome run (run.has.has (inl is)) (inl is)))
one_case tells task same before now outcome tell run quiet (Some (fault.Usage place)) is cause = not_asked (fault.Usage place) cause.asked cause.is refl
one_case tells task same before now outcome tell run quiet (Some (fault.Settings reason)) is cause = inl (refused_run tells task same before now outcome (fault.Settings reason) tell run quiet is refl cause)
one_case tells task same before now outcome tell run quiet (Some (fault.Missing path)) is cause = inl (refused_run tells task same before now outcome (fault.Missing path) tell run quiet is refl cause)
one_case tells task same before now outcome tell run quiet (Some (fault.NotUtf8 path)) is cause = inl (refused_run tells task same before now outcome (fault.NotUtf8 path) tell run quiet is refl cause)
one_case tells task same before now outcome tell run quiet (Some (fault.TooLarge path len)) is cause = inl (refused_run tells task same before now outcome (fault.TooLarge path len) tell run quiet is refl cause)
one_case tells task same before now outcome tell run quiet (Some (fault.File path)) is cause = absurd (no_file_failed _ before now outcome.fault path run.causes quiet is)
one_case tells task same before now outcome tell run quiet (Some (fault.Lockfile reason)) is cause = inr (inl (unlocked_run tells task same before now outcome reason tell run quiet is cause))
one_case tells task same before now outcome tell run quiet (Some (fault.Advisory n reason)) is cause = inl (refused_run tells task same before now outcome (fault.Advisory n reason) tell run quiet is refl cause)
one_case tells task same before now outcome tell run quiet (Some (fault.Baseline line)) is cause = inl (refused_run tells task same before now outcome (fault.Baseline line) tell run quiet is refl cause)
one_case tells task same before now outcome tell run quiet (Some (fault.Vendor reason)) is cause = inr (inr (unmade_run tells task same before now outcome reason run quiet is cause.1))
one_case tells task same before now outcome tell run quiet (Some fault.Print) is cause = absurd (no_put_failed _ before now outcome.fault run.causes quiet is)
one_case tells task same before now outcome tell run quiet (Some (fault.Generate status)) is cause = inl (refused_run tells task same before now outcome (fault.Generate status) tell run quiet is refl cause)
one_case tells task same before now outcome tell run quiet (Some (fault.Start failed)) is cause = absurd (none_failed failed before.start_faults now.start_faults cause quiet.stayed.starts (run.causes.start_rose failed is))
one_case tells task same before now outcome tell run quiet (Some fault.NoMemory) is cause = absurd (quiet.memory is)

pub one_of : (tells : Telling) (task : Task) (same : Uncalled) (before now : World) (outcome : Outcome) → AllTell tells → IsRun tells (Ok (job.Lockfile task)) same before now outcome
    → IsQuiet before now outcome.fault → IsOne tells task before now outcome
one_of tells task same before now outcome tell run quiet = one_case tells task same before now outcome tell run quiet outcome.fault refl run.causes.cause
