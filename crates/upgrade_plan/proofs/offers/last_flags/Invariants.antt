use Rattle.std.proofs.Common.{◌≡◌, ℕ, List, drop, map}
use Rattle.std.specs.BTreeMap.{get_by_text}
use Rattle.tame_entry.specs.VersionStatuses.{flags_of_version, last_flag, last_from}
use Rattle.tame_records.specs.Record.{version_flag}
use Rattle.upgrade_plan.proofs.offers.last_flags.Given as goal

-- the last flag of what is left, or the last one so far
abbrev pub invariant-loop-version : goal.invariant-loop-version
invariant-loop-version l =
    (text : List ℕ) →
    last_flag (map version_flag l.versions) text
    ≡ last_from (get_by_text l.flags text) (flags_of_version text (map version_flag (drop l.version-index l.versions)))
