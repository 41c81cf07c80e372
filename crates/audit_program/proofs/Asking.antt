-- What was asked, by its parts.
use Rattle.std.proofs.Common.{◌≡◌, ◌≤◌, ◌⊎◌, ℕ, IsTrue, List, Bool, true, false, Option, Some, None, Result, Ok, Err, refl, sym, ap, ◌∙◌, arith}
use Rattle.std.specs.Prelude.{IfSome, pos}
use Rattle.tame_names.specs.Standing.{Host}
use Rattle.audit_lock.specs.declared.lockfiles.LockfileFault.{LockfileFault}
use Rattle.audit_lock.specs.declared.resolving.Package.{Package}
use Rattle.audit_settings.specs.declared.commands.AuditCommand.{AuditCommand}
use Rattle.audit_settings.specs.declared.configs.AuditConfig.{AuditConfig}
use Rattle.audit_asked.specs.Advisories.{advisories_asked}
use Rattle.audit_asked.specs.Asked.{status_told, texts_asked}
use Rattle.audit_asked.specs.Databases.{database_asked}
use Rattle.audit_asked.specs.ForBinaries.{asked_for_binaries}
use Rattle.audit_asked.specs.KnownFindings.{baseline_asked}
use Rattle.audit_asked.specs.Places.{place_asked}
use Rattle.audit_asked.specs.Refusals.{IsAskFault, IsReadFault, Refused, is_told, refused}
use Rattle.audit_asked.specs.Settings.{settled}
use Rattle.audit_asked.specs.Starts.{RunStartsWhere}
use Rattle.audit_asked.specs.Texts.{go_on, input_or_text}
use Rattle.audit_asked.specs.declared.asking.Asked.{Asked}
use Rattle.audit_asked.specs.declared.faults.AskFault.{AskFault}
use Rattle.audit_asked.specs.declared.faults.AskFault.TheVariants as ask
use Rattle.audit_asked.specs.declared.binaries.AskedForBinaries.{AskedForBinaries}
use Rattle.audit_remedies.specs.declared.faults.RunFault.{RunFault}
use Rattle.audit_remedies.specs.declared.faults.RunFault.TheVariants as fault
use Rattle.audit_asked.specs.declared.runners.Started.{Started}
use Rattle.audit_program.specs.Causes.{BinariesCause, IsAskedFault, TaskCause}
use Rattle.audit_remedies.specs.Faults.{by_ask}
use Rattle.audit_remedies.specs.Remedies.{baseline_path}
use Rattle.audit_program.specs.Tasks.{task_asked}
use Rattle.audit_program.specs.declared.tasks.Task.{Task}
use Rattle.audit_program.proofs.FaultCases.{ends_with}
use Rattle.tame_names.specs.Counts.{CountRoseBy}

-- if all is accepted, the first part is, and the rest goes on with it
part : {A B : Type 0} (p : Result A Refused) (next : A → Result B Refused) (b : B) → go_on p next ≡ Ok b → (a : A) × (p ≡ Ok a) × (next a ≡ Ok b)
part (Ok a) next b is = (a, refl, is)
part (Err e) next b is = absurd (cc)

-- the settings are those under the command's options
texts_config : (host : Host) (config : AuditConfig) (named : Option (List ℕ)) (place : List ℕ) (given : Asked) → texts_asked host config named place ≡ Ok given → given.config ≡ config
texts_config host config named place given is =
    let database = part (database_asked config.database.path host) _ given is in
    let advisories = part (advisories_asked host database.0) _ given database.2 in
    let baseline = part (baseline_asked named host) _ given advisories.2 in
    let text = part (input_or_text host place) _ given baseline.2 in
    let last = text.2 in
    cc (last)

-- a string is a lockfile, or there is a reason why it is none
pub lockfile_or_fault : {A : Type 0} (r : Result (List Package) LockfileFault) → ((packages : List Package) → r ≡ Ok packages → A) → ((reason : LockfileFault) → r ≡ Err reason → A) → A
lockfile_or_fault (Ok packages) good bad = good packages refl
lockfile_or_fault (Err reason) good bad = bad reason refl

pub asked_config : (task : Task) (host : Host) (given : Asked) (config : AuditConfig) → task_asked task host (pos 0) ≡ Ok given → settled task.command host ≡ Ok config → given.config ≡ config
asked_config task host given config is settles =
    let first = part (settled task.command host) _ given is in
    let place = part (place_asked task.command.file host (pos 0)) _ given first.2 in
    let mine = texts_config host first.0 (baseline_path task.remedy) place.0 given place.2 in
    let other = first.1 in
    cc (mine, other, settles)

-- these settings are those of the command
pub asked_settles : (task : Task) (host : Host) (given : Asked) → task_asked task host (pos 0) ≡ Ok given → settled task.command host ≡ Ok given.config
asked_settles task host given is =
    let first = part (settled task.command host) _ given is in
    let place = part (place_asked task.command.file host (pos 0)) _ given first.2 in
    let mine = texts_config host first.0 (baseline_path task.remedy) place.0 given place.2 in
    first.1 ∙ ap (λ (c : AuditConfig). Ok c) (sym mine)

pub binaries_config : (command : AuditCommand) (host : Host) (given : AskedForBinaries) (config : AuditConfig) → asked_for_binaries command host ≡ Ok given → settled command host ≡ Ok config → given.config ≡ config
binaries_config command host given config is settles =
    let first = part (settled command host) _ given is in
    let database = part (database_asked first.0.database.path host) _ given first.2 in
    let advisories = part (advisories_asked host database.0) _ given database.2 in
    let last = advisories.2 in
    let other = first.1 in
    cc (last, other, settles)

-- a lockfile was generated, whatever was answered then
pub generated_as : (b : Bool) (given : Asked) (before now : List Started) → RunStartsWhere {T = Asked} b before now (Ok given) → RunStartsWhere {T = Unit {0}} b before now (Ok tt)
generated_as true given before now h = h
generated_as false given before now h = h

-- from an earlier moment
pub rose_from : (failed a b c : ℕ) → a ≤ b → CountRoseBy failed b c → CountRoseBy failed a c
rose_from failed a b c low rose = omega (arith, low, rose)

-- ---- causes

pub ok_same : {A E : Type 0} (r : Result A E) (a b : A) → r ≡ Ok a → r ≡ Ok b → a ≡ b
ok_same r a b is other = cc (is, other)

-- the fault of a run that has what it asked for
pub asked_cause : (told : Type 0) (task : Task) (host : Host) (given : Asked) (o : Option RunFault) → (told → task_asked task host (pos 0) ≡ Ok given) → IfSome o (IsAskedFault task given)
    → IfSome o (TaskCause told task host)
asked_cause told task host given None gives only = tt
asked_cause told task host given (Some fault.Print) gives only = tt
asked_cause told task host given (Some fault.NoMemory) gives only = tt
asked_cause told task host given (Some (fault.Start failed)) gives only = only
asked_cause told task host given (Some (fault.Vendor reason)) gives only = only
asked_cause told task host given (Some (fault.Lockfile reason)) gives only = record { given = given; gives = gives; lockfile = only.1; no_memory = only.0 }
asked_cause told task host given (Some (fault.File path)) gives only = record { asked = ask.File path; is = refl; gives = λ here no. cc (no); only = tt }
asked_cause told task host given (Some (fault.Usage place)) gives only = absurd only
asked_cause told task host given (Some (fault.Settings reason)) gives only = absurd only
asked_cause told task host given (Some (fault.Missing path)) gives only = absurd only
asked_cause told task host given (Some (fault.NotUtf8 path)) gives only = absurd only
asked_cause told task host given (Some (fault.TooLarge path len)) gives only = absurd only
asked_cause told task host given (Some (fault.Advisory n reason)) gives only = absurd only
asked_cause told task host given (Some (fault.Baseline line)) gives only = absurd only
asked_cause told task host given (Some (fault.Generate status)) gives only = absurd only

-- the fault of asking
abbrev Gives : Type 0 → Task → Host → AskFault → Type 0
Gives told task host e = told → IsTrue (is_told e) → task_asked task host (status_told {T = Unit {0}} (Err e)) ≡ Err (refused e)

one_cause : (told : Type 0) (task : Task) (host : Host) (e : AskFault) → Gives told task host e → IsAskFault (baseline_path task.remedy) e → TaskCause told task host (by_ask e)
one_cause told task host (ask.Settings reason) gives only = record { asked = ask.Settings reason; is = refl; gives = gives; only = only }
one_cause told task host (ask.Missing path) gives only = record { asked = ask.Missing path; is = refl; gives = gives; only = only }
one_cause told task host (ask.NotUtf8 path) gives only = record { asked = ask.NotUtf8 path; is = refl; gives = gives; only = only }
one_cause told task host (ask.TooLarge path len) gives only = record { asked = ask.TooLarge path len; is = refl; gives = gives; only = only }
one_cause told task host (ask.File path) gives only = record { asked = ask.File path; is = refl; gives = gives; only = only }
one_cause told task host (ask.Advisory n reason) gives only = record { asked = ask.Advisory n reason; is = refl; gives = gives; only = only }
one_cause told task host (ask.Baseline line) gives only = record { asked = ask.Baseline line; is = refl; gives = gives; only = only }
one_cause told task host (ask.Generate status) gives only = record { asked = ask.Generate status; is = refl; gives = gives; only = only }
one_cause told task host ask.Start gives only = omega (arith)
one_cause told task host ask.NoMemory gives only = tt

pub refused_cause : (told : Type 0) (task : Task) (host : Host) (e : AskFault) (o : Option RunFault) → (o ≡ Some (by_ask e)) ⊎ (o ≡ Some fault.NoMemory)
    → Gives told task host e → IsAskFault (baseline_path task.remedy) e → IfSome o (TaskCause told task host)
refused_cause told task host e o end gives only = ends_with (λ f. TaskCause told task host f) o (by_ask e) end (one_cause told task host e gives only) tt

-- ---- of binaries

abbrev GivesBinaries : Type 0 → AuditCommand → Host → AskFault → Type 0
GivesBinaries told command host e = told → IsTrue (is_told e) → asked_for_binaries command host ≡ Err (refused e)

one_refused : (told : Type 0) (command : AuditCommand) (host : Host) (e : AskFault) → GivesBinaries told command host e → IsReadFault e → BinariesCause told command host (by_ask e)
one_refused told command host (ask.Settings reason) gives only = record { asked = ask.Settings reason; is = refl; gives = gives; only = only }
one_refused told command host (ask.Missing path) gives only = record { asked = ask.Missing path; is = refl; gives = gives; only = only }
one_refused told command host (ask.NotUtf8 path) gives only = record { asked = ask.NotUtf8 path; is = refl; gives = gives; only = only }
one_refused told command host (ask.TooLarge path len) gives only = record { asked = ask.TooLarge path len; is = refl; gives = gives; only = only }
one_refused told command host (ask.File path) gives only = record { asked = ask.File path; is = refl; gives = gives; only = only }
one_refused told command host (ask.Advisory n reason) gives only = record { asked = ask.Advisory n reason; is = refl; gives = gives; only = only }
one_refused told command host (ask.Baseline line) gives only = absurd only
one_refused told command host (ask.Generate status) gives only = absurd only
one_refused told command host ask.Start gives only = absurd only
one_refused told command host ask.NoMemory gives only = tt

pub binaries_refused : (told : Type 0) (command : AuditCommand) (host : Host) (e : AskFault) (o : Option RunFault) → (o ≡ Some (by_ask e)) ⊎ (o ≡ Some fault.NoMemory)
    → GivesBinaries told command host e → IsReadFault e → IfSome o (BinariesCause told command host)
binaries_refused told command host e o end gives only = ends_with (λ f. BinariesCause told command host f) o (by_ask e) end (one_refused told command host e gives only) tt
