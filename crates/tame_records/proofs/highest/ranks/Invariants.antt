use Rattle.std.proofs.Common.{◌≡◌, ◌++◌, drop, map, option_map}
use Rattle.semver.specs.Identifiers.{parts_of}
use Rattle.tame_records.specs.Highest.{precedence}
use Rattle.tame_records.proofs.highest.ranks.Given as goal

-- the ranks so far, before those of what is left
abbrev pub invariant-loop-version : goal.invariant-loop-version
invariant-loop-version l = map precedence l.versions ≡ map (option_map parts_of) l.ranks.items ++ map precedence (drop l.version-index l.versions)
