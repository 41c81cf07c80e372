-- The starts of the steps of a plan (this project).
use Rattle.std.specs.Prelude.{◌≡◌, ℕ, ℤ, List, ◌++◌, length, take, map, zip, count_by, is_none, Option}
use Rattle.audit_asked.specs.declared.runners.Started.{Started}
use Rattle.audit_fix.specs.declared.plans.FixStep.{FixStep}

-- a step as it was started, with the status that it ended with; none if it couldn't be started
abbrev pub started : FixStep × Option ℤ → Started
started each = record { words = each.0.words; status = each.1 }

-- each of these steps was added to the starts once, in order, each with its status
pub record StartsEach (steps : List FixStep) (statuses : List (Option ℤ))
    (before now : List Started) : Type 0 where
  pub one_each : length statuses ≡ length steps
  pub added : now ≡ before ++ map started (zip steps statuses)

-- the first n steps, for some n, were added to the starts
abbrev pub StartsPart : List FixStep → List Started → List Started → Type 0
StartsPart steps before now =
    (n : ℕ) × (statuses : List (Option ℤ)) × StartsEach (take n steps) statuses before now

-- how many couldn't be started
abbrev pub failed_starts : List (Option ℤ) → ℕ
failed_starts statuses = count_by (λ status. is_none status) statuses
