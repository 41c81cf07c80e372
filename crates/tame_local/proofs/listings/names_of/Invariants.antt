use Rattle.std.proofs.Common.{◌≡◌, [], drop}
use Rattle.tame_local.specs.Registries.{crate_file_names}
use Rattle.tame_local.proofs.listings.names_of.Given as goal

-- the names so far, and those of what is left
abbrev pub invariant-loop-entry : goal.invariant-loop-entry
invariant-loop-entry l =
    crate_file_names [] l.entries ≡ crate_file_names l.names.keys (drop l.entry-index l.entries)
