-- What a run does with the cache, by the lock that it needs.
use Rattle.std.proofs.Common.{◌≡◌, ◌≢◌, ◌⊎◌, inl, inr, ℕ, List, Bool, true, false, Option, Some, None, Result, Ok, Err, refl, ap, subst}
use Rattle.std.specs.Prelude.{not, ◌&&◌, if◌then◌else◌, IfSome}
use Rattle.tame_names.specs.Standing.{Host}
use Rattle.tame_names.specs.declared.locks.LockState.{LockState}
use Rattle.tame_names.specs.declared.locks.LockState.TheVariants as state
use Rattle.audit_settings.specs.Overriding.{overridden}
use Rattle.audit_settings.specs.declared.commands.AuditCommand.{AuditCommand}
use Rattle.audit_settings.specs.declared.configs.AuditConfig.{AuditConfig}
use Rattle.audit_words.specs.declared.commands.BinCommand.{BinCommand}
use Rattle.audit_asked.specs.ForBinaries.{advised, asked_for_binaries}
use Rattle.audit_asked.specs.Refusals.{Refused}
use Rattle.audit_asked.specs.Settings.{settings_file, settled}
use Rattle.audit_asked.specs.Texts.{go_on}
use Rattle.audit_asked.specs.declared.binaries.AskedForBinaries.{AskedForBinaries}
use Rattle.audit_core.specs.Checks.{checks_of}
use Rattle.audit_core.specs.declared.checking.Checks.TheVariants.{Online, Offline, Off}
use Rattle.audit_remedies.specs.Remedies.{ReadsCache}
use Rattle.audit_remedies.specs.declared.faults.RunFault.{RunFault}
use Rattle.audit_remedies.specs.declared.faults.RunFault.TheVariants as fault
use Rattle.audit_remedies.specs.declared.remedies.Remedy.{Remedy}
use Rattle.audit_remedies.specs.declared.remedies.Remedy.TheVariants.{Report, Fix, Plan, Baseline, WriteBaseline, Vendor}
use Rattle.audit_program.proofs.Asking.{asked_settles}
use Rattle.audit_program.proofs.Nones.{of_none}
use Rattle.audit_program.specs.Jobs.{Asking}
use Rattle.audit_program.specs.Runs.{IsRun}
use Rattle.audit_program.specs.Worlds.{Telling, Uncalled, World}
use Rattle.audit_program.specs.declared.outcomes.Outcome.{Outcome}
use Rattle.audit_program.specs.declared.tasks.Job.TheVariants as job
use Rattle.audit_start.specs.Needs.{at_least_shared, audit_lock, lock_of, task_lock}

-- ---- checks under options

-- no versions are checked
off_by : (enabled no_yanked asks : Bool) → no_yanked ≡ true → (if not (enabled && not no_yanked) then Off else if asks then Online else Offline) ≡ Off
off_by true true asks is = refl
off_by false true asks is = refl
off_by true false asks is = cc (is)
off_by false false asks is = refl

unasked : (update fetch no_fetch : Bool) → no_fetch ≡ true → (update && (fetch && not no_fetch)) ≡ false
unasked true true true is = refl
unasked true false true is = refl
unasked false fetch true is = refl
unasked true true false is = cc (is)
unasked true false false is = refl
unasked false fetch false is = refl

offline_by : (off asks : Bool) → asks ≡ false → (if off then Off else if asks then Online else Offline) ≢ Online
offline_by true asks is = λ online. let h : Off ≡ Online = online in cc (h)
offline_by false true is = λ online. cc (is)
offline_by false false is = λ online. let h : Offline ≡ Online = online in cc (h)

part : {A B : Type 0} (p : Result A Refused) (next : A → Result B Refused) (b : B) → go_on p next ≡ Ok b → (a : A) × (p ≡ Ok a) × (next a ≡ Ok b)
part (Ok a) next b is = (a, refl, is)
part (Err e) next b is = absurd (cc)

under : (command : AuditCommand) (host : Host) (config : AuditConfig) → settled command host ≡ Ok config → (file : AuditConfig) × (overridden command file ≡ config)
under command host config settles =
    let first = part (settings_file host) (λ file. Ok (overridden command file)) config settles in
    let last = first.2 in
    (first.0, cc (last))

is_off : (command : AuditCommand) (host : Host) (config : AuditConfig) → settled command host ≡ Ok config → command.no_yanked ≡ true → checks_of config ≡ Off
is_off command host config settles by_flag =
    let file = under command host config settles in
    let P : AuditConfig → Type 0 = λ c. checks_of c ≡ Off in
    subst P file.1 (off_by file.0.yanked.enabled command.no_yanked (file.0.yanked.update_index && (file.0.database.fetch && not command.no_fetch)) by_flag)

isnt_online : (command : AuditCommand) (host : Host) (config : AuditConfig) → settled command host ≡ Ok config → command.no_fetch ≡ true → checks_of config ≢ Online
isnt_online command host config settles by_flag =
    let file = under command host config settles in
    let P : AuditConfig → Type 0 = λ c. checks_of c ≢ Online in
    subst P file.1 (offline_by (not (file.0.yanked.enabled && not command.no_yanked)) (file.0.yanked.update_index && (file.0.database.fetch && not command.no_fetch)) (unasked file.0.yanked.update_index file.0.database.fetch command.no_fetch by_flag))

-- ---- locks by options

off_of : (no_yanked no_fetch : Bool) → (if no_yanked then state.Unlocked else if no_fetch then state.Shared else state.Exclusive) ≡ state.Unlocked → no_yanked ≡ true
off_of true no_fetch is = refl
off_of false true is = let h : state.Shared ≡ state.Unlocked = is in cc (h)
off_of false false is = let h : state.Exclusive ≡ state.Unlocked = is in cc (h)

one_of : (no_yanked no_fetch : Bool) → (if no_yanked then state.Unlocked else if no_fetch then state.Shared else state.Exclusive) ≢ state.Exclusive → (no_yanked ≡ true) ⊎ (no_fetch ≡ true)
one_of true no_fetch is = inl refl
one_of false true is = inr refl
one_of false false is = absurd (is refl)

never_none : {X : Type 0} (s : LockState) → at_least_shared s ≡ state.Unlocked → X
never_none state.Unlocked is = let h : state.Shared ≡ state.Unlocked = is in cc (h)
never_none state.Shared is = let h : state.Shared ≡ state.Unlocked = is in cc (h)
never_none state.Exclusive is = let h : state.Exclusive ≡ state.Unlocked = is in cc (h)

unneeded : (remedy : Remedy) (options : AuditCommand) → task_lock remedy options ≡ state.Unlocked → (audit_lock options ≡ state.Unlocked) × (ReadsCache remedy → ⊥)
unneeded Report options is = (is, λ reads. reads)
unneeded (Fix dry_run) options is = (is, λ reads. reads)
unneeded Plan options is = never_none (audit_lock options) is
unneeded (Baseline path) options is = (is, λ reads. reads)
unneeded (WriteBaseline path) options is = (is, λ reads. reads)
unneeded (Vendor more) options is = never_none (audit_lock options) is

shared_part : (remedy : Remedy) (options : AuditCommand) → task_lock remedy options ≢ state.Exclusive → audit_lock options ≢ state.Exclusive
shared_part Report options is = is
shared_part (Fix dry_run) options is = is
shared_part Plan options is = λ alone. is (ap at_least_shared alone)
shared_part (Baseline path) options is = is
shared_part (WriteBaseline path) options is = is
shared_part (Vendor more) options is = λ alone. is (ap at_least_shared alone)

-- an audit that doesn't need the lock for itself isn't online
not_online_by : (command : AuditCommand) (host : Host) (config : AuditConfig) → settled command host ≡ Ok config → (command.no_yanked ≡ true) ⊎ (command.no_fetch ≡ true) → checks_of config ≢ Online
not_online_by command host config settles (inl by_flag) = λ online. cc (is_off command host config settles by_flag, online)
not_online_by command host config settles (inr by_flag) = isnt_online command host config settles by_flag

not_online : (command : AuditCommand) (host : Host) (config : AuditConfig) → settled command host ≡ Ok config → audit_lock command ≢ state.Exclusive → checks_of config ≢ Online
not_online command host config settles is = not_online_by command host config settles (one_of command.no_yanked command.no_fetch is)

-- ---- settings that are refused

either : {T E : Type 0} {X : Type 0} (r : Result T E) → ((t : T) → r ≡ Ok t → X) → ((e : E) → r ≡ Err e → X) → X
either (Ok t) good bad = good t refl
either (Err e) good bad = bad e refl

never_some : {T : Type 0} (o : Option T) (P : T → Type 0) → ((x : T) → P x → ⊥) → IfSome o P → o ≡ None
never_some None P never h = refl
never_some (Some x) P never h = absurd (never x h)

memory_or : (o : Option RunFault) → (o ≡ Some fault.NoMemory) ⊎ (o ≢ Some fault.NoMemory)
memory_or None = inr (λ is. cc)
memory_or (Some fault.NoMemory) = inl refl
memory_or (Some fault.Print) = inr (λ is. cc)
memory_or (Some (fault.Start failed)) = inr (λ is. cc)
memory_or (Some (fault.Usage place)) = inr (λ is. cc)
memory_or (Some (fault.Settings reason)) = inr (λ is. cc)
memory_or (Some (fault.Missing path)) = inr (λ is. cc)
memory_or (Some (fault.NotUtf8 path)) = inr (λ is. cc)
memory_or (Some (fault.TooLarge path len)) = inr (λ is. cc)
memory_or (Some (fault.File path)) = inr (λ is. cc)
memory_or (Some (fault.Lockfile reason)) = inr (λ is. cc)
memory_or (Some (fault.Advisory n reason)) = inr (λ is. cc)
memory_or (Some (fault.Baseline line)) = inr (λ is. cc)
memory_or (Some (fault.Vendor reason)) = inr (λ is. cc)
memory_or (Some (fault.Generate status)) = inr (λ is. cc)

-- nothing is given for audits of binaries whose settings are refused
ungiven : (command : AuditCommand) (host : Host) (reason : Refused) (given : AskedForBinaries) → settled command host ≡ Err reason → asked_for_binaries command host ≡ Ok given → ⊥
ungiven command host reason given refused is =
    let first = part (settled command host) (advised host) given is in
    let settles = first.1 in
    cc (settles, refused)

one_uncalled : {A B C P : Type 0} → (A × B × C) ⊎ P → (P → ⊥) → B
one_uncalled (inl all) never = all.1
one_uncalled (inr partly) never = absurd (never partly)

ended_uncalled : {A B C P : Type 0} (o : Option RunFault) → (o ≡ Some fault.NoMemory) ⊎ (o ≢ Some fault.NoMemory) → (o ≡ Some fault.NoMemory → (A × B × C) ⊎ P) → (P → ⊥) → (o ≢ Some fault.NoMemory → A × B × C) → B
ended_uncalled o (inl is) partly never early = one_uncalled (partly is) never
ended_uncalled o (inr other) partly never early = (early other).1

-- then the cache isn't called
uncalled_binaries : (tells : Telling) (command : AuditCommand) (more : BinCommand) (same : Uncalled) (before now : World) (outcome : Outcome) (reason : Refused)
    → IsRun tells (Ok (job.Binaries command more)) same before now outcome → tells.files → settled command before.host ≡ Err reason → same.disk
uncalled_binaries tells command more same before now outcome reason run told refused =
    let no_audited = never_some outcome.audited _ (λ a h. h) run.audits.audited in
    let no_binaries = never_some outcome.binaries _ (λ b h. ungiven command before.host reason h.given refused (h.asked.gives told)) run.audits.binaries in
    let without = of_none outcome.binaries _ no_binaries (of_none outcome.audited _ no_audited run.without_audit) in
    ended_uncalled outcome.fault (memory_or outcome.fault) (λ is. of_none outcome.binaries _ no_binaries (run.audits.partly is))
    (λ partly. ungiven command before.host reason partly.given refused (partly.asked.gives told)) without.early

-- ---- the lock suffices

-- a run that needs no lock doesn't call the cache
pub uncalled_unlocked : (tells : Telling) (asking : Asking) (same : Uncalled) (before now : World) (outcome : Outcome)
    → IsRun tells asking same before now outcome → tells.files → lock_of asking ≡ state.Unlocked → same.disk
uncalled_unlocked tells (Ok (job.Lockfile task)) same before now outcome run told is =
    let none = unneeded task.remedy task.command is in
    either (settled task.command before.host)
    (λ config settles. (run.leaves.calls told config settles).off (is_off task.command before.host config settles (off_of task.command.no_yanked task.command.no_fetch none.0)) none.1)
    (λ reason refused. (run.leaves.unaccepted told (λ given packages accepts. let settles = asked_settles task before.host given accepts.gives in cc (settles, refused))).1)
uncalled_unlocked tells (Ok (job.Binaries command more)) same before now outcome run told is =
    either (settled command before.host)
    (λ config settles. (run.leaves.calls told config settles).off (is_off command before.host config settles (off_of command.no_yanked command.no_fetch is)) (λ reads. reads))
    (λ reason refused. uncalled_binaries tells command more same before now outcome reason run told refused)
uncalled_unlocked tells (Ok job.Help) same before now outcome run told is = (run.leaves.uncalled tt).4
uncalled_unlocked tells (Ok job.Version) same before now outcome run told is = (run.leaves.uncalled tt).4
uncalled_unlocked tells (Ok (job.Generate n)) same before now outcome run told is = (run.leaves.uncalled tt).4
uncalled_unlocked tells (Err broken) same before now outcome run told is = (run.leaves.uncalled tt).4

-- a run that doesn't need the lock for itself leaves every file of the cache as it was
pub left_unless_exclusive : (tells : Telling) (asking : Asking) (same : Uncalled) (before now : World) (outcome : Outcome)
    → IsRun tells asking same before now outcome → (same.disk → (q : List ℕ) → now.cache q ≡ before.cache q) → tells.files → tells.disk
    → lock_of asking ≢ state.Exclusive → (q : List ℕ) → now.cache q ≡ before.cache q
left_unless_exclusive tells (Ok (job.Lockfile task)) same before now outcome run as_disk told told_disk is q =
    either (settled task.command before.host)
    (λ config settles. (run.leaves.calls told config settles).unchanged (not_online task.command before.host config settles (shared_part task.remedy task.command is)) told_disk q)
    (λ reason refused. as_disk (run.leaves.unaccepted told (λ given packages accepts. let settles = asked_settles task before.host given accepts.gives in cc (settles, refused))).1 q)
left_unless_exclusive tells (Ok (job.Binaries command more)) same before now outcome run as_disk told told_disk is q =
    either (settled command before.host)
    (λ config settles. (run.leaves.calls told config settles).unchanged (not_online command before.host config settles is) told_disk q)
    (λ reason refused. as_disk (uncalled_binaries tells command more same before now outcome reason run told refused) q)
left_unless_exclusive tells (Ok job.Help) same before now outcome run as_disk told told_disk is q = as_disk (run.leaves.uncalled tt).4 q
left_unless_exclusive tells (Ok job.Version) same before now outcome run as_disk told told_disk is q = as_disk (run.leaves.uncalled tt).4 q
left_unless_exclusive tells (Ok (job.Generate n)) same before now outcome run as_disk told told_disk is q = as_disk (run.leaves.uncalled tt).4 q
left_unless_exclusive tells (Err broken) same before now outcome run as_disk told told_disk is q = as_disk (run.leaves.uncalled tt).4 q
