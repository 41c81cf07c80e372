-- The current file of each path of a disk in memory, next to its changes.
use Rattle.std.specs.Prelude.{◌≡◌, List, ℕ, [], Option, None, String, Vec}
use Rattle.std.specs.Option.{option_map_or}
use Rattle.std.specs.BTreeMap.{BTreeMap, get_by_text}
use Rattle.std.specs.declared.alloc.Global.{Global}
use Rattle.tame_cache.specs.declared.calls.Call.{Call}
use Rattle.tame_cache.specs.Disk.{File, reads}
use Rattle.tame_cache.specs.Calls.{file_of, past_of}

-- the file that a map has at a path; none if it has none
abbrev pub file_in : BTreeMap (String Global) (Option (Vec ℕ Global)) → List ℕ → File
file_in files path = option_map_or file_of (get_by_text files path) None

-- the map has for each path what a read gives after these calls
abbrev pub AreCurrent : BTreeMap (String Global) (Option (Vec ℕ Global)) → List Call → Type 0
AreCurrent files calls = (path : List ℕ) → file_in files path ≡ reads (past_of path [] calls)
