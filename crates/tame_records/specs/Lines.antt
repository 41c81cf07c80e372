-- The lines of an index file (Cargo Book, "Registry Index", index files).
use Rattle.std.specs.Prelude.{ℕ, List}
use Rattle.tame_names.specs.Pieces.{pieces, without_end}

-- a body without the newlines that end it
abbrev pub trimmed : List ℕ → List ℕ
trimmed body = without_end 10 body

-- the lines: what is left, cut at its newlines; a body of only newlines has no line
abbrev pub lines : List ℕ → List (List ℕ)
lines body = pieces 10 (trimmed body)
