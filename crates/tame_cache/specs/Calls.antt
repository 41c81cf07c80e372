-- What the record of a disk in memory says about each file.
use Rattle.std.specs.Prelude.{ℕ, List, [], ◌∷◌, Option, option_map, Vec, if◌then◌else◌}
use Rattle.std.specs.String.{string_bytes}
use Rattle.std.specs.Str.{bytes_eq}
use Rattle.std.specs.declared.alloc.Global.{Global}
use Rattle.tame_cache.specs.declared.calls.Call.{Call}
use Rattle.tame_cache.specs.declared.calls.Change.{Change}
use Rattle.tame_cache.specs.declared.calls.Change.TheVariants.{Write, Cut, Sync}
use Rattle.tame_cache.specs.Disk.{File, Step, Wrote, WasCut, Synced}

abbrev pub step_of : Change → File → Step
step_of (Write at n) now = Wrote at n now
step_of (Cut len) now = WasCut len now
step_of Sync now = Synced now

-- where a file's bytes are kept
abbrev pub file_of : Option (Vec ℕ Global) → File
file_of now = option_map (λ (bytes : Vec ℕ Global). bytes.items) now

-- one more change, if it is one of this path
abbrev pub with_change : List ℕ → List Step → List ℕ → Change → File → List Step
with_change path past changed change now =
    if bytes_eq changed path then step_of change now ∷ past else past

-- the changes of one file by these calls, the oldest first, after those of before
abbrev pub past_of : List ℕ → List Step → List Call → List Step
past_of path past [] = past
past_of path past (call ∷ calls) =
    past_of path (with_change path past (string_bytes call.path) call.change (file_of call.file))
    calls
