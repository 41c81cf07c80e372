use Rattle.std.proofs.Common.{◌≡◌}
use Rattle.tame_entry.specs.Raw.{comma_parts, version_in}
use Rattle.tame_entry.proofs.raw.version_in.Given as goal

-- what is left decides
abbrev pub invariant-loop-part : goal.invariant-loop-part
invariant-loop-part l = version_in (comma_parts l.line) ≡ version_in l.part-iterator
