-- Why a call on a disk fails.
use Rattle.std.specs.Prelude.{◌≡◌, ℕ, ◌≤◌, Result, IsOk, IsErr}
use Rattle.tame_names.specs.Counts.{CountRose}

-- the count never falls; each failure raised it, and a success left it
pub record HasDiskCause {T E : Type 0} (before now : ℕ) (result : Result T E) : Type 0 where
  pub later : before ≤ now
  pub failed : IsErr result → CountRose before now
  pub stayed : IsOk result → now ≡ before
