-- What the program starts with: its folders, and the lock of its cache (this project).
use Rattle.std.specs.Prelude.{◌≡◌, ◌++◌, ◌∷◌, [], ℕ, codes, List, Some, None, Result, Ok, Err}
use Rattle.toml_tables.specs.Results.{and_then}
use Rattle.tame_names.specs.Paths.{join}
use Rattle.tame_names.specs.Standing.{Host}
use Rattle.tame_names.specs.declared.host.EnvValue.{EnvValue}
use Rattle.tame_names.specs.declared.host.EnvValue.TheVariants.{Unset, NotUtf8, Value}
use Rattle.tame_names.specs.declared.host.FailedCall.{FailedCall}
use Rattle.tame_location.specs.Calls.{env_call}
use Rattle.audit_edges.specs.Folders.{folder_named}
use Rattle.audit_program.specs.Jobs.{asking_of}
use Rattle.audit_start.specs.Faults.{unnamed_folder, variable_name}
use Rattle.audit_start.specs.Needs.{lock_of}
use Rattle.audit_start.specs.declared.faults.FolderVariable.{FolderVariable}
use Rattle.audit_start.specs.declared.faults.FolderVariable.TheVariants as variable
use Rattle.audit_start.specs.declared.faults.StartFault.{StartFault}
use Rattle.audit_start.specs.declared.faults.StartFault.TheVariants as fault
use Rattle.audit_start.specs.declared.starting.Start.{Start}

-- ---- folders

-- the folder that the value of its variable names; the default if it is unset or empty
abbrev pub folder_by : FolderVariable → EnvValue → Result (List ℕ) StartFault
folder_by v Unset = Ok (folder_named None (unnamed_folder v))
folder_by v NotUtf8 = Err (fault.NotUtf8 v)
folder_by v (Value name) = Ok (folder_named (Some name) (unnamed_folder v))

abbrev pub folder_of : FolderVariable → Host → Result (List ℕ) StartFault
folder_of v host = folder_by v (host.environment (variable_name v))

-- ---- the start

-- the file in the cache's folder whose lock is taken
abbrev pub lock_file : List ℕ → List ℕ
lock_file cache = join cache (codes ".audit-lock")

-- in these folders, by what the arguments ask for
abbrev pub start_in : List (List ℕ) → List ℕ → List ℕ → Start
start_in arguments mirror cache = record {
  mirror = mirror;
  cache = cache;
  lock = lock_file cache;
  taken = lock_of (asking_of arguments);
}

-- in the folders that the variables of this host name, or the first of them that isn't UTF-8
abbrev pub start_of : List (List ℕ) → Host → Result Start StartFault
start_of arguments host =
    and_then (λ mirror. and_then (λ cache. Ok (start_in arguments mirror cache))
    (folder_of variable.Cache host)) (folder_of variable.Mirror host)

-- ---- why it can't start

-- the host has the reason: a variable isn't UTF-8
abbrev pub IsTold : StartFault → Type 0
IsTold (fault.NotUtf8 v) = Unit {0}
IsTold fault.Argument = ⊥
IsTold (fault.Unread v) = ⊥
IsTold fault.NoMemory = ⊥

-- a variable isn't UTF-8 or couldn't be read, or it is out of memory
abbrev pub IsStartFault : StartFault → Type 0
IsStartFault (fault.NotUtf8 v) = Unit {0}
IsStartFault (fault.Unread v) = Unit {0}
IsStartFault fault.NoMemory = Unit {0}
IsStartFault fault.Argument = ⊥

-- the calls that failed: the reading of a variable that couldn't be read, and no other
abbrev pub AddsBy : List FailedCall → List FailedCall → StartFault → Type 0
AddsBy before now (fault.Unread v) = now ≡ before ++ env_call (variable_name v) ∷ []
AddsBy before now (fault.NotUtf8 v) = now ≡ before
AddsBy before now fault.NoMemory = now ≡ before
AddsBy before now fault.Argument = now ≡ before

abbrev pub AddsVariable : {T : Type 0} → List FailedCall → List FailedCall → Result T StartFault
    → Type 0
AddsVariable before now (Ok a) = now ≡ before
AddsVariable before now (Err e) = AddsBy before now e
