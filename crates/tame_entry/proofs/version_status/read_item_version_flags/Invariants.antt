use Rattle.std.proofs.Common.{◌≡◌, map}
use Rattle.tame_entry.specs.VersionStatuses.{version_flags}
use Rattle.tame_entry.proofs.Ahead.{before}
use Rattle.tame_entry.proofs.version_status.read_item_version_flags.Given as goal

-- what was read, before what is left
abbrev pub invariant-loop-item : goal.invariant-loop-item
invariant-loop-item l = version_flags (map (λ i. i.1) l.fn.items) ≡ before l.flags (version_flags (map (λ i. i.1) l.item-iterator))
