-- The payload of bytes: what is between two lines (this project).
use Rattle.std.specs.Prelude.{ℕ, codes, List, [], ◌∷◌, ◌++◌, bytes_eq, Option, Some, None, option_map, if◌then◌else◌}
use Rattle.tame_names.specs.Pieces.{pieces}

-- a line is what is between newlines; a carriage return belongs to its line
abbrev pub begin_line : List ℕ
begin_line = codes "#cargo-lock begin"

abbrev pub end_line : List ℕ
end_line = codes "#cargo-lock end"

-- the lines before the first end line, if there is one
abbrev pub before_end : List (List ℕ) → Option (List (List ℕ))
before_end [] = None
before_end (line ∷ lines) =
    if bytes_eq line end_line then Some [] else option_map (λ more. line ∷ more) (before_end lines)

-- the lines between the first begin line and the next end line, if there are both
abbrev pub between : List (List ℕ) → Option (List (List ℕ))
between [] = None
between (line ∷ lines) = if bytes_eq line begin_line then before_end lines else between lines

-- lines, each with its newline
abbrev pub with_newlines : List (List ℕ) → List ℕ
with_newlines [] = []
with_newlines (line ∷ lines) = line ++ 10 ∷ with_newlines lines

-- the bytes after the newline of the begin line, up to the first byte of the end line
abbrev pub payload_of : List ℕ → Option (List ℕ)
payload_of bytes = option_map with_newlines (between (pieces 10 bytes))
