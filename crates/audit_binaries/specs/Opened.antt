-- What a binary says: the text that a decoder reads from the bytes at a path (this project, after
-- cargo-audit).
use Rattle.std.specs.Prelude.{◌≡◌, ◌<◌, ◌⊎◌, ℕ, List, [], ◌∷◌, length, nat_lt, Some, if◌then◌else◌, Result, Ok, Err}
use Rattle.tame_names.specs.Standing.{Standing, Nothing, File, Folder, Other}
use Rattle.tame_names.specs.declared.host.FailedCall.{FailedCall}
use Rattle.tame_names.specs.declared.host.FileCall.TheVariants as file_call
use Rattle.audit_binaries.specs.Decoding.{Answer, DecoderAnswers}
use Rattle.audit_binaries.specs.declared.answers.BinaryFault.{BinaryFault}
use Rattle.audit_binaries.specs.declared.answers.BinaryFault.TheVariants as fault
use Rattle.audit_binaries.specs.declared.answers.PackagesFound.TheVariants as found
use Rattle.audit_binaries.specs.declared.decoders.Decoded.TheVariants as decoded
use Rattle.audit_binaries.specs.declared.limits.BinaryLimits.{BinaryLimits}
use Rattle.audit_binaries.specs.declared.opening.FoundText.{FoundText}
use Rattle.audit_binaries.specs.declared.opening.Unopened.{Unopened}
use Rattle.audit_binaries.specs.declared.opening.Unopened.TheVariants.{Refused, NoMemory}

-- ---- what is there

-- the bytes of the file at a path, or why there are none
abbrev pub bytes_at : ℕ → Standing → Result (List ℕ) BinaryFault
bytes_at limit Nothing = Err fault.Missing
bytes_at limit (File bytes) =
    if nat_lt limit (length bytes) then Err (fault.TooLarge (length bytes)) else Ok bytes
bytes_at limit (Folder entries) = Err fault.File
bytes_at limit Other = Err fault.File

-- the lockfile's text in a decoder's answer, and whether it is of all packages; or why there is
-- none
abbrev pub said_text : Answer → Result FoundText BinaryFault
said_text (Ok (decoded.Complete text)) = Ok (record { found = found.Complete; text = text })
said_text (Ok (decoded.Incomplete text)) = Ok (record { found = found.Incomplete; text = text })
said_text (Ok decoded.Nothing) = Err fault.NoInformation
said_text (Err n) = Err (fault.PayloadOver n)

-- ---- if it is told

-- these are the bytes there
abbrev pub IsRead : Type 0 → ℕ → Standing → List ℕ → Type 0
IsRead told limit standing bytes = told → bytes_at limit standing ≡ Ok bytes

-- this is what the decoder's answer says
abbrev pub IsSaid : Type 0 → Answer → Result FoundText BinaryFault → Type 0
IsSaid told answer said = told → said_text answer ≡ said

-- the bytes at the path say this
abbrev pub IsOpened : Type 0 → Type 0 → BinaryLimits → Standing → DecoderAnswers → FoundText
    → Type 0
IsOpened files_tell decoder_tells limits standing answers said =
    (bytes : List ℕ) × IsRead files_tell limits.binary standing bytes
    × IsSaid decoder_tells (answers bytes limits.payload) (Ok said)

-- ---- why there is none

-- by the file: nothing is there, or it is too large; that a read failed is in its count
abbrev pub HasNoBytes : Type 0 → ℕ → Standing → BinaryFault → Type 0
HasNoBytes told limit standing fault.Missing = told → bytes_at limit standing ≡ Err fault.Missing
HasNoBytes told limit standing (fault.TooLarge n) =
    (limit < n) × (told → bytes_at limit standing ≡ Err (fault.TooLarge n))
HasNoBytes told limit standing fault.File = Unit {0}
HasNoBytes told limit standing _ = ⊥

-- by the decoder's answer: it is over the limit, or says nothing; that decoding failed is in its
-- count
abbrev pub IsUnsaid : Type 0 → ℕ → Answer → BinaryFault → Type 0
IsUnsaid told limit answer (fault.PayloadOver n) =
    (limit < n) × IsSaid told answer (Err (fault.PayloadOver n))
IsUnsaid told limit answer fault.NoInformation = IsSaid told answer (Err fault.NoInformation)
IsUnsaid told limit answer fault.Decode = Unit {0}
IsUnsaid told limit answer _ = ⊥

-- there are no bytes, or they say nothing
abbrev pub IsUnopened : Type 0 → Type 0 → BinaryLimits → Standing → DecoderAnswers → BinaryFault
    → Type 0
IsUnopened files_tell decoder_tells limits standing answers f =
    HasNoBytes files_tell limits.binary standing f
    ⊎ ((bytes : List ℕ) × IsRead files_tell limits.binary standing bytes
    × IsUnsaid decoder_tells limits.payload (answers bytes limits.payload) f)

-- out of memory needs no reason
abbrev pub IfRefused : (BinaryFault → Type 0) → Unopened → Type 0
IfRefused P (Refused f) = P f
IfRefused P NoMemory = Unit {0}

-- ---- calls that failed

-- the read that failed, if the fault is that of the file
abbrev pub failed_reads : List ℕ → BinaryFault → List FailedCall
failed_reads path fault.File = record { call = file_call.Read; path = Some path } ∷ []
failed_reads path _ = []
