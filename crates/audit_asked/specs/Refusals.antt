-- Why what a run asks of its host is refused (this project).
use Rattle.std.specs.Prelude.{◌≡◌, ◌≢◌, ◌<◌, ℕ, ℤ, pos, List, Bool, true, false, IsTrue, Option, IsSome, Result, Ok, Err, IfOk, IfErr}
use Rattle.audit_advisory.specs.declared.faults.AdvisoryFault.{AdvisoryFault}
use Rattle.audit_advisory.specs.declared.faults.AdvisoryFault.TheVariants as advisory_fault
use Rattle.audit_settings.specs.Refusals.{Refusal, refusal}
use Rattle.audit_settings.specs.declared.configs.SettingsFault.TheVariants as settings_fault
use Rattle.audit_asked.specs.declared.faults.AskFault.{AskFault}
use Rattle.audit_asked.specs.declared.faults.AskFault.TheVariants as fault

-- the largest settings, advisories and lockfiles that are read: 64 MiB
abbrev pub limit : ℕ
limit = 67108864

-- the settings are refused; nothing is at a path; what is there isn't UTF-8, has too many bytes, or
-- is no file; the n-th advisory is refused; a line of the baseline is no finding; cargo ended with
-- a status other than 0; no host causes the last one
pub data Refused : Type 0 where
  settings : (reason : Refusal) → Refused
  missing : (path : List ℕ) → Refused
  not_utf8 : (path : List ℕ) → Refused
  too_large : (path : List ℕ) → (len : ℕ) → Refused
  no_file : (path : List ℕ) → Refused
  advisory : (n : ℕ) → (reason : AdvisoryFault) → Refused
  baseline : (line : ℕ) → Refused
  generate : (status : ℤ) → Refused
  untold : Refused

-- the refusal that a fault reports
abbrev pub refused : AskFault → Refused
refused (fault.Settings reason) = settings (refusal reason)
refused (fault.Missing path) = missing path
refused (fault.NotUtf8 path) = not_utf8 path
refused (fault.TooLarge path len) = too_large path len
refused (fault.Advisory n reason) = advisory n reason
refused (fault.Baseline line) = baseline line
refused (fault.Generate status) = generate status
refused _ = untold

-- what a host has decides this fault: no call failed, and it isn't out of memory
abbrev pub is_told : AskFault → Bool
is_told (fault.File path) = false
is_told fault.Start = false
is_told fault.NoMemory = false
is_told _ = true

-- the faults that reading may end with, except a baseline's: a text is too large only above the
-- limit, and out of memory is a fault of its own
abbrev pub IsReadFault : AskFault → Type 0
IsReadFault (fault.Settings reason) = reason ≢ settings_fault.NoMemory
IsReadFault (fault.Missing path) = Unit {0}
IsReadFault (fault.NotUtf8 path) = Unit {0}
IsReadFault (fault.TooLarge path len) = limit < len
IsReadFault (fault.File path) = Unit {0}
IsReadFault (fault.Advisory n reason) = reason ≢ advisory_fault.NoMemory
IsReadFault fault.NoMemory = Unit {0}
IsReadFault _ = ⊥

-- the same if a baseline is read too: a line of it is reported only if one is named
abbrev pub IsTextsFault : Option (List ℕ) → AskFault → Type 0
IsTextsFault named (fault.Baseline line) = IsSome named
IsTextsFault named e = IsReadFault e

-- the faults that asking may end with: also, a start ended with a status other than 0, or failed
abbrev pub IsAskFault : Option (List ℕ) → AskFault → Type 0
IsAskFault named (fault.Generate status) = status ≢ pos 0
IsAskFault named fault.Start = Unit {0}
IsAskFault named e = IsTextsFault named e

-- a call on the files failed, or out of memory
abbrev pub IsCallFault : AskFault → Type 0
IsCallFault (fault.File path) = Unit {0}
IsCallFault fault.NoMemory = Unit {0}
IsCallFault _ = ⊥

-- what the parts give, and what was answered: an answer is theirs, and so is a refusal that the
-- host decides
pub record Gives {A : Type 0} (part : Result A Refused) (result : Result A AskFault) : Type 0 where
  pub ok : IfOk result (λ a. part ≡ Ok a)
  pub refused : IfErr result (λ e. IsTrue (is_told e) → part ≡ Err (refused e))
