-- The texts of a host's files (this project).
use Rattle.std.specs.Prelude.{◌≡◌, ℕ, codes, List, [], length, bytes_eq, nat_lt, Option, Some, None, if◌then◌else◌, Result, Ok, Err}
use Rattle.toml_tables.specs.Results.{and_then, or_fault}
use Rattle.tame_names.specs.Standing.{Host, IsInput, Standing, Nothing, File, Folder, Other}
use Rattle.tame_names.specs.Utf8.{utf8_text}
use Rattle.audit_asked.specs.Refusals.{Refused, limit, missing, no_file, not_utf8, too_large}

-- the text of these bytes, which must be UTF-8 and within the limit
abbrev pub limited_text : List ℕ → List ℕ → Result (List ℕ) Refused
limited_text path bytes =
    if nat_lt limit (length bytes) then Err (too_large path (length bytes))
    else or_fault (not_utf8 path) (utf8_text bytes)

-- goes on with what a part gives; a refusal ends it
abbrev pub go_on : {A B : Type 0} → Result A Refused → (A → Result B Refused) → Result B Refused
go_on part next = and_then next part

-- the text of a file, if there is one
abbrev pub text_there : List ℕ → Standing → Result (Option (List ℕ)) Refused
text_there path Nothing = Ok None
text_there path (File bytes) = go_on (limited_text path bytes) (λ text. Ok (Some text))
text_there path (Folder entries) = Err (no_file path)
text_there path Other = Err (no_file path)

-- the text of a file that must be there
abbrev pub file_text : List ℕ → Standing → Result (List ℕ) Refused
file_text path standing = go_on (text_there path standing) (or_fault (missing path))

-- the text at a path; `-` is standard input
abbrev pub input_or_text : Host → List ℕ → Result (List ℕ) Refused
input_or_text host path =
    if bytes_eq path (codes "-") then limited_text path host.input
    else file_text path (host.stands path)

-- if this path is standard input, nothing is left of it
abbrev pub IsUsedUp : List ℕ → Host → Type 0
IsUsedUp path host = IsInput path → host.input ≡ []
