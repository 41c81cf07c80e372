-- What a host has: what is at its paths, its input, its environment and its current folder; and
-- what calls on it may answer (this project).
use Rattle.std.specs.Prelude.{◌≡◌, ◌≤◌, ◌<◌, ℕ, List, [], ◌∷◌, ◌++◌, length, take, drop, codes, bytes_eq, Option, Some, None, Vec, if◌then◌else◌, Result, Ok, Err}
use Rattle.std.specs.declared.alloc.Global.{Global}
use Rattle.tame_names.specs.declared.host.EnvValue.{EnvValue}
use Rattle.tame_names.specs.declared.host.FailedCall.{FailedCall}
use Rattle.tame_names.specs.declared.host.FileCall.{FileCall}
use Rattle.tame_names.specs.declared.host.FileCall.TheVariants as file_call
use Rattle.tame_names.specs.declared.host.FileFault.{FileFault}
use Rattle.tame_names.specs.declared.host.FileFault.TheVariants as file_fault
use Rattle.tame_names.specs.declared.host.Listed.{Listed}
use Rattle.tame_names.specs.declared.host.PathKind.{PathKind}
use Rattle.tame_names.specs.declared.host.PathKind.TheVariants as kind
use Rattle.tame_names.specs.declared.host.ReadAnswer.{ReadAnswer}
use Rattle.tame_names.specs.declared.host.ReadAnswer.TheVariants as answer

-- ---- what a host has

-- what is at a path: nothing, a file with its bytes, a folder with its entries, or another thing
pub data Standing : Type 0 where
  Nothing : Standing
  File : (bytes : List ℕ) → Standing
  Folder : (entries : List Listed) → Standing
  Other : Standing

pub record Host : Type 0 where
  -- what is at each path
  pub stands : List ℕ → Standing
  -- the bytes of standard input
  pub input : List ℕ
  -- the value of each variable of the environment
  pub environment : List ℕ → EnvValue
  -- the path of the current folder
  pub current : List ℕ

-- this path is that of standard input
abbrev pub IsInput : List ℕ → Type 0
IsInput path = path ≡ codes "-"

-- a host stays, but that its input may have been read if this holds
pub record StaysButInput (reads : Type 0) (old new : Host) : Type 0 where
  pub stands : new.stands ≡ old.stands
  pub environment : new.environment ≡ old.environment
  pub current : new.current ≡ old.current
  pub input : (reads → ⊥) → new.input ≡ old.input

-- ---- what calls answer

-- absent exactly if nothing is there, whole exactly if a file within the limit is, over exactly if
-- a longer one is, with its length
abbrev pub Reads : Standing → ℕ → Result ReadAnswer FileFault → Type 0
Reads s limit (Ok answer.Absent) = s ≡ Nothing
Reads s limit (Ok (answer.Whole bytes)) = (s ≡ File bytes.items) × (length bytes.items ≤ limit)
Reads s limit (Ok (answer.Over n)) =
    (bytes : List ℕ) × (s ≡ File bytes) × (n ≡ length bytes) × (limit < n)
Reads s limit (Err fault) = Unit {0}

-- absent exactly if nothing is there; else the bytes of a file from this number on, as many as
-- there are, and no more than the limit
abbrev pub ReadsPart : Standing → ℕ → ℕ → Result (Option (Vec ℕ Global)) FileFault → Type 0
ReadsPart s from limit (Ok None) = s ≡ Nothing
ReadsPart s from limit (Ok (Some part)) =
    (bytes : List ℕ) × (s ≡ File bytes) × (part.items ≡ take limit (drop from bytes))
ReadsPart s from limit (Err fault) = Unit {0}

-- a part has no more bytes than the limit
abbrev pub IsWithin : ℕ → Result (Option (Vec ℕ Global)) FileFault → Type 0
IsWithin limit (Ok (Some part)) = length part.items ≤ limit
IsWithin limit _ = Unit {0}

-- a read of standard input that answers all of it leaves nothing
abbrev pub IsLeft : Result ReadAnswer FileFault → List ℕ → Type 0
IsLeft (Ok (answer.Whole bytes)) left = left ≡ []
IsLeft _ left = Unit {0}

-- a number of bytes that is over the limit is above it
abbrev pub IsAboveLimit : ℕ → Result ReadAnswer FileFault → Type 0
IsAboveLimit limit (Ok (answer.Over n)) = limit < n
IsAboveLimit limit _ = Unit {0}

-- the entries of a folder; nothing if no folder is there
abbrev pub listing : Standing → Option (List Listed)
listing (Folder entries) = Some entries
listing _ = None

abbrev pub kind_of : Standing → PathKind
kind_of Nothing = kind.Absent
kind_of (File bytes) = kind.File
kind_of (Folder entries) = kind.Folder
kind_of Other = kind.Other

-- ---- calls that failed

-- a call that failed is added to the list of failed calls; being out of memory is no failure
abbrev pub with_fault : List FailedCall → FileCall → Option (List ℕ) → FileFault → List FailedCall
with_fault before call path file_fault.Failed = before ++ record { call = call; path = path } ∷ []
with_fault before call path file_fault.NoMemory = before

abbrev pub failed_calls : {T : Type 0} → List FailedCall → FileCall → Option (List ℕ)
    → Result T FileFault → List FailedCall
failed_calls before call path (Err fault) = with_fault before call path fault
failed_calls before call path (Ok a) = before

-- the call that reads what is at a path; `-` is standard input
abbrev pub reading_call : List ℕ → FailedCall
reading_call path =
    if bytes_eq path (codes "-") then record { call = file_call.ReadStdin; path = None }
    else record { call = file_call.Read; path = Some path }
