-- What a sink holds after a put.
use Rattle.std.specs.Prelude.{◌≡◌, ◌≤◌, ℕ, List, ◌++◌, take, Result, Ok, Err, IsErr, IsOk}
use Rattle.tame_names.specs.Counts.{CountRose}

-- a part from the front of a piece was added
abbrev pub AddsPrefix : List ℕ → List ℕ → List ℕ → Type 0
AddsPrefix before piece now = (n : ℕ) × (now ≡ before ++ take n piece)

-- all of the piece after success, a part from its front after a fault
abbrev pub Puts : {E : Type 0} → List ℕ → List ℕ → List ℕ → Result Unit E → Type 0
Puts before piece now (Ok done) = now ≡ before ++ piece
Puts before piece now (Err fault) = AddsPrefix before piece now

-- the count never falls; each failure raised it, and a success left it
pub record HasPutCause {T E : Type 0} (before now : ℕ) (result : Result T E) : Type 0 where
  pub later : before ≤ now
  pub failed : IsErr result → CountRose before now
  pub stayed : IsOk result → now ≡ before
