-- Counts of faults. Each outside object counts how often it has failed.
use Rattle.std.specs.Prelude.{◌≡◌, ◌≢◌, ◌+◌, ◌-◌, ◌^◌, ◌<◌, ◌≤◌, ℕ, min, nat_eq, List, IsTrue, Result, IfErr, IsOk}
use Rattle.std.specs.List.{list_any}

-- a count rose: it is higher at the second moment, or is at its maximum there
abbrev pub CountRose : ℕ → ℕ → Type 0
CountRose before now = min (before + 1) (2 ^ 64 - 1) ≤ now

-- a count rose by this much, or is at its maximum
abbrev pub CountRoseBy : ℕ → ℕ → ℕ → Type 0
CountRoseBy more before now = min (before + more) (2 ^ 64 - 1) ≤ now

-- a count stayed: it is the same at both moments, and below its maximum
abbrev pub CountStayed : ℕ → ℕ → Type 0
CountStayed before now = (now ≡ before) × (before < 2 ^ 64 - 1)

-- the count never falls; a call that failed raised it, and one that succeeded left it; being out of
-- memory is no fault
pub record HasCause {T E : Type 0} (no_memory : E) (before now : ℕ)
    (result : Result T E) : Type 0 where
  pub later : before ≤ now
  pub failed : IfErr result (λ e. e ≢ no_memory → CountRose before now)
  pub stayed : IsOk result → now ≡ before

-- ---- calls that must fail, by their numbers

-- one call more; the count stays at its maximum
abbrev pub next_call : ℕ → ℕ
next_call count = min (count + 1) (2 ^ 64 - 1)

abbrev pub IsListed : ℕ → List ℕ → Type 0
IsListed number numbers = IsTrue (list_any (λ n. nat_eq n number) numbers)
