-- Calls that fail by their numbers.
use Rattle.std.specs.Prelude.{◌≡◌, ◌⊎◌, ◌≤◌, Result, IsOk, IsErr}
use Rattle.tame_names.specs.Counts.{IsListed, CountRose, next_call}
use Rattle.tame_cache.specs.declared.counting.Counts.{Counts}

-- the next call is to fail: its number, from 1, is listed, or isn't below the stop
abbrev pub IsToFail : Counts → Type 0
IsToFail counts =
    (counts.stop ≤ next_call counts.made) ⊎ IsListed (next_call counts.made) counts.failing.items

-- the object itself ran out of memory, which it counts separately
abbrev pub RanOutOfMemory : Counts → Counts → Type 0
RanOutOfMemory old new = CountRose old.starved new.starved

-- one call happened, and failed if it was to; which calls are to fail stays, and so do both counts
-- if the call succeeds
pub record IsCalled {T E : Type 0} (old new : Counts) (result : Result T E) : Type 0 where
  pub made : new.made ≡ next_call old.made
  pub failing : new.failing ≡ old.failing
  pub stop : new.stop ≡ old.stop
  pub fails : IsToFail old → IsErr result
  pub quiet : IsOk result → new.faults ≡ old.faults
  pub fed : IsOk result → new.starved ≡ old.starved
