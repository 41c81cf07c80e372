use Rattle.std.proofs.Common.{◌≡◌, take}
use Rattle.tame_records.specs.Written.{json_lines}
use Rattle.tame_records.proofs.writing.with_lines.Given as goal

abbrev pub invariant-loop-version : goal.invariant-loop-version
invariant-loop-version l = l.bytes.items ≡ json_lines (take l.version-index l.versions)
