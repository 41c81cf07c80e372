-- Valid lines, as a list.
use Rattle.std.specs.Prelude.{ℕ, List}
use Rattle.tame_names.specs.Pieces.{pieces}
use Rattle.tame_entry.specs.declared.json_lines.JsonLines.{JsonLines}

abbrev pub lines_of : JsonLines → List (List ℕ)
lines_of json_lines = pieces 10 json_lines.text.now
