use Rattle.std.proofs.Common.{◌≡◌, ◌++◌, length, string_bytes, flat_map}
use denote.Text.{Utf8}
use denote.Shadow.{shadow}
use Rattle.std.specs.List.{slice_split}
use Rattle.tame_names.specs.KrateNames.{text_of}
use Rattle.tame_entry.specs.Config.{filled_part, is_brace}
use Rattle.tame_entry.proofs.config.push_parts.Given as goal

-- what is put, before what is put for the parts that are left
abbrev pub invariant-loop-part : goal.invariant-loop-part
invariant-loop-part l = record {
  is_text : shadow (Utf8 l.left);
  put : string_bytes l.out ++ flat_map (filled_part (text_of l.name) l.version) (slice_split is_brace l.left)
      ≡ string_bytes l.initial.out ++ flat_map (filled_part (text_of l.name) l.version) (slice_split is_brace l.parts);
}

abbrev pub decreases-loop-part : goal.decreases-loop-part
decreases-loop-part l = length (slice_split is_brace l.left)
