-- Why the program can't start: the status and the line of each fault (this project, after
-- cargo-audit).
use Rattle.std.specs.Prelude.{ℕ, List, ◌++◌, codes}
use Rattle.audit_start.specs.declared.faults.FolderVariable.{FolderVariable}
use Rattle.audit_start.specs.declared.faults.FolderVariable.TheVariants as variable
use Rattle.audit_start.specs.declared.faults.StartFault.{StartFault}
use Rattle.audit_start.specs.declared.faults.StartFault.TheVariants as fault

-- ---- the variables that name a folder

abbrev pub variable_name : FolderVariable → List ℕ
variable_name variable.Mirror = codes "CARGO_AUDIT_MIRROR"
variable_name variable.Cache = codes "CARGO_AUDIT_INDEX"

-- the folder if the variable is unset or empty
abbrev pub unnamed_folder : FolderVariable → List ℕ
unnamed_folder variable.Mirror = codes "index-mirror"
unnamed_folder variable.Cache = codes "index-cache"

-- ---- faults

-- 3 if it is out of memory, else 2, as of a run's faults
abbrev pub start_status : StartFault → ℕ
start_status fault.Argument = 2
start_status (fault.NotUtf8 v) = 2
start_status (fault.Unread v) = 2
start_status fault.NoMemory = 3

abbrev pub start_words : StartFault → List ℕ
start_words fault.Argument = codes "a word isn't UTF-8"
start_words (fault.NotUtf8 v) =
    codes "environment variable '" ++ variable_name v ++ codes "' has a non-utf8 value"
start_words (fault.Unread v) =
    codes "environment variable '" ++ variable_name v ++ codes "' couldn't be read"
start_words fault.NoMemory = codes "out of memory"

abbrev pub start_line : StartFault → List ℕ
start_line f = codes "error: " ++ start_words f ++ codes "\n"
