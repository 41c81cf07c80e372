-- The body of an index file: a JSON object a line (Cargo Book, "Registry Index", index files).
use Rattle.std.specs.Prelude.{ℕ, ◌-◌, List, length, slice_index, Bool, not, nat_le, ◌==◌, ◌&&◌, Option, Some, is_none, option_map, position, if◌then◌else◌}
use Rattle.std.specs.List.{list_all}
use Rattle.tame_records.specs.Lines.{lines, trimmed}
use Rattle.tame_names.specs.declared.errors.InvalidJsonLines.{InvalidJsonLines}
use Rattle.tame_names.specs.declared.errors.InvalidJsonLines.TheVariants.{Empty, NotJson}

-- two bytes or more, the first `{` and the last `}`
abbrev pub is_object_line : List ℕ → Bool
is_object_line line =
    nat_le 2 (length line) && slice_index line 0 == 123 && slice_index line (length line - 1) == 125

-- why a body isn't valid: there is no line, or this is the first that doesn't look like an object
abbrev pub invalid : List ℕ → Option InvalidJsonLines
invalid body =
    if length (trimmed body) == 0 then Some Empty
    else option_map (λ n. NotJson n) (position (λ line. not (is_object_line line)) (lines body))

abbrev pub valid : List ℕ → Bool
valid body = is_none (invalid body)

-- valid, and no byte is zero
abbrev pub plain : List ℕ → Bool
plain body = valid body && list_all (λ b. not (b == 0)) body
