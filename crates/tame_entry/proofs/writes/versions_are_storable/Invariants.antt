use Rattle.std.proofs.Common.{◌≡◌, map, drop}
use Rattle.std.specs.List.{list_all}
use Rattle.tame_entry.specs.Entry.{is_storable_pair, version_pair}
use Rattle.tame_entry.proofs.writes.versions_are_storable.Given as goal

-- what is left decides
abbrev pub invariant-loop-version : goal.invariant-loop-version
invariant-loop-version l =
    list_all is_storable_pair (map version_pair l.versions) ≡ list_all is_storable_pair (map version_pair (drop l.version-index l.versions))
