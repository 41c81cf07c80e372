use Rattle.std.proofs.Common.{◌≡◌, ◌++◌, map, drop}
use Rattle.std.specs.Prelude.{flat_map}
use Rattle.tame_entry.specs.Entry.{pair_bytes, version_pair}
use Rattle.tame_entry.proofs.writes.with_versions.Given as goal

-- what is written, and what is left to write
abbrev pub invariant-loop-version : goal.invariant-loop-version
invariant-loop-version l =
    l.all.items ++ flat_map pair_bytes (map version_pair (drop l.version-index l.versions)) ≡ l.fn.bytes.items ++ flat_map pair_bytes (map version_pair l.versions)
