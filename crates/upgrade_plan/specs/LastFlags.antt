-- For each version, the flag of the last line that has it (this project).
use Rattle.std.specs.Prelude.{◌≡◌, List, ℕ, Bool, map, String}
use Rattle.std.specs.BTreeMap.{BTreeMap, get_by_text}
use Rattle.std.specs.declared.alloc.Global.{Global}
use Rattle.tame_records.specs.Record.{version_flag}
use Rattle.tame_records.specs.declared.versions.IndexVersion.{IndexVersion}
use Rattle.tame_entry.specs.VersionStatuses.{last_flag}

-- the map has these flags, and nothing else
abbrev pub AreLastFlags : BTreeMap (String Global) Bool → List IndexVersion → Type 0
AreLastFlags flags versions =
    (text : List ℕ) → get_by_text flags text ≡ last_flag (map version_flag versions) text
