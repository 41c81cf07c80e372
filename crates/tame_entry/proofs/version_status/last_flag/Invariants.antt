use Rattle.std.proofs.Common.{◌≡◌, drop}
use Rattle.tame_entry.specs.VersionStatuses.{last_from, flags_of_version, last_flag}
use Rattle.tame_entry.proofs.version_status.last_flag.Given as goal

-- what is left is looked through from what was found
abbrev pub invariant-loop-flag : goal.invariant-loop-flag
invariant-loop-flag l = last_flag l.flags l.version ≡ last_from l.found (flags_of_version l.version (drop l.flag-index l.flags))
