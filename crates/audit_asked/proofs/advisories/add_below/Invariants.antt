use Rattle.std.proofs.Common.{◌≡◌, ◌++◌, map}
use Rattle.tame_names.specs.Paths.{join}
use Rattle.audit_asked.proofs.advisories.add_below.Given as goal

-- the paths so far, and those of what is left
abbrev pub invariant-loop-name : goal.invariant-loop-name
invariant-loop-name l =
    l.initial.paths ++ map (join l.folder) l.names.keys ≡ l.paths ++ map (join l.folder) l.name-iterator
