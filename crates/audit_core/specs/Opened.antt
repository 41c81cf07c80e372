-- The text of a lockfile at a path of the host (this project).
use Rattle.std.specs.Prelude.{◌≡◌, ◌≢◌, ◌<◌, ℕ, codes, List, length, bytes_eq, nat_lt, if◌then◌else◌, Result, Ok, Err}
use Rattle.std.specs.Str.{is_utf8}
use Rattle.tame_names.specs.Standing.{Host, Standing, Nothing, File, Folder, Other}
use Rattle.audit_lock.specs.Locked.{locked}
use Rattle.audit_core.specs.declared.auditing.AuditError.TheVariants as audit_error
use Rattle.audit_core.specs.declared.opening.FileAuditError.{FileAuditError}
use Rattle.audit_core.specs.declared.opening.FileAuditError.TheVariants as fault
use Rattle.audit_lock.specs.declared.lockfiles.LockfileFault.TheVariants as lockfile_fault

-- the largest lockfile that is read: 64 MiB
abbrev pub lockfile_limit : ℕ
lockfile_limit = 67108864

-- what is at a path; `-` is standard input
abbrev pub standing_at : Host → List ℕ → Standing
standing_at host path = if bytes_eq path (codes "-") then File host.input else host.stands path

-- the text of these bytes, or why there is none: there are too many, or they aren't UTF-8
abbrev pub text_in : List ℕ → Result (List ℕ) FileAuditError
text_in bytes =
    if nat_lt lockfile_limit (length bytes) then Err (fault.TooLarge (length bytes))
    else if is_utf8 bytes then Ok bytes
    else Err fault.NotUtf8

-- the text of what is there, or why there is none
abbrev pub opened_text : Standing → Result (List ℕ) FileAuditError
opened_text Nothing = Err fault.Missing
opened_text (File bytes) = text_in bytes
opened_text (Folder entries) = Err fault.File
opened_text Other = Err fault.File

-- these say why a text wasn't read: nothing is there, it is too long, or it isn't UTF-8
abbrev pub IsTextFault : FileAuditError → Type 0
IsTextFault fault.Missing = Unit {0}
IsTextFault fault.NotUtf8 = Unit {0}
IsTextFault (fault.TooLarge n) = Unit {0}
IsTextFault _ = ⊥

-- a reason in what is there: why its text wasn't read, or why the text is no lockfile, which is
-- never `NoMemory`; that a count rose is said separately
abbrev pub IsUnopenedFor : Type 0 → Standing → FileAuditError → Type 0
IsUnopenedFor told standing fault.Missing = told → opened_text standing ≡ Err fault.Missing
IsUnopenedFor told standing fault.NotUtf8 = told → opened_text standing ≡ Err fault.NotUtf8
IsUnopenedFor told standing (fault.TooLarge n) =
    (lockfile_limit < n) × (told → opened_text standing ≡ Err (fault.TooLarge n))
IsUnopenedFor told standing fault.File = Unit {0}
IsUnopenedFor told standing (fault.Audit (audit_error.Lockfile f)) =
    (f ≢ lockfile_fault.NoMemory) × (text : List ℕ) × (told → opened_text standing ≡ Ok text)
    × (locked text ≡ Err f)
IsUnopenedFor told standing (fault.Audit (audit_error.Advisory n f)) = ⊥
IsUnopenedFor told standing (fault.Audit audit_error.NoMemory) = Unit {0}

-- nothing is asked if the text isn't one of a lockfile
abbrev pub IsEarly : FileAuditError → Type 0
IsEarly (fault.Audit audit_error.NoMemory) = ⊥
IsEarly _ = Unit {0}
