-- Whether a line says that its version is yanked, found from its end without reading the line as
-- JSON.
use Rattle.std.specs.Prelude.{ℕ, ◌-◌, codes, List, [], ◌∷◌, length, take, reverse, ◌==◌, bytes_eq, nat_eq, Bool, true, false, Option, Some, None, Result, Ok, Err, if◌then◌else◌}
use Rattle.std.specs.List.{ends_with}
use Rattle.semver.specs.Parse.{Parts}
use Rattle.tame_names.specs.declared.errors.Error.{Error}
use Rattle.tame_names.specs.declared.errors.Error.TheVariants as error
use Rattle.tame_names.specs.declared.errors.IoKind.{IoKind}
use Rattle.tame_names.specs.declared.errors.IoKind.TheVariants.{InvalidData, UnexpectedEof}
use Rattle.tame_entry.specs.Raw.{cut_at, without_space}

abbrev pub Flag : Type 0
Flag = Result Bool IoKind

abbrev pub flag_value : List ℕ → Flag
flag_value text =
    if bytes_eq text (codes "true") then Ok true else if bytes_eq text (codes "false") then Ok false
    else Err InvalidData

abbrev pub names_yanked : List ℕ → Bool
names_yanked key = ends_with nat_eq key (codes "\"yanked\"")

abbrev pub flag_by : Option (List ℕ × List ℕ) → Option Flag
flag_by None = None
flag_by (Some p) = if names_yanked p.0 then Some (flag_value (without_space p.1)) else None

-- what a part says if its text before its first colon ends with `"yanked"`; others say nothing
abbrev pub part_flag : List ℕ → Option Flag
part_flag part = flag_by (cut_at 58 part)

abbrev pub decided : Option Flag → Flag → Flag
decided None later = later
decided (Some flag) later = flag

-- Back over the bytes: a `}` ends the search, a comma ends the part after it, which may decide,
-- and another byte is added before the part. Without a decision the version isn't yanked.
abbrev pub flag_back : List ℕ → List ℕ → Flag
flag_back [] part = Ok false
flag_back (b ∷ back) part =
    if b == 125 then Ok false
    else if b == 44 then decided (part_flag part) (flag_back back [])
    else flag_back back (b ∷ part)

abbrev pub without_last : List ℕ → List ℕ
without_last bytes = take (length bytes - 1) bytes

-- Back over the bytes to the last comma or `}`, which must be a `}`. What it begins is, without
-- the line's last byte, the end of the first part.
abbrev pub flag_from : List ℕ → List ℕ → Flag
flag_from [] behind = Err UnexpectedEof
flag_from (b ∷ back) behind =
    if b == 125 then flag_back back (without_last (b ∷ behind))
    else if b == 44 then Err UnexpectedEof
    else flag_from back (b ∷ behind)

abbrev pub line_flag : List ℕ → Flag
line_flag line = flag_from (reverse line) []

abbrev pub with_flag : Parts → Flag → Result (Parts × Bool) Error
with_flag v (Ok flag) = Ok (v, flag)
with_flag v (Err kind) = Err (error.Io kind)

-- the version first, then the flag
abbrev pub scanned : Option Parts → Flag → Result (Parts × Bool) Error
scanned None flag = Err error.Semver
scanned (Some v) flag = with_flag v flag
