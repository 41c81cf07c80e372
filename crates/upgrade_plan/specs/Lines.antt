-- The lines of a plan, and the status that it ends with (this project).
use Rattle.std.specs.Prelude.{ℕ, codes, List, [], ◌∷◌, ◌++◌, slice_get, Bool, true, false, Option, Some, None, if◌then◌else◌}
use Rattle.std.specs.List.{list_all}
use Rattle.json.specs.Print.{quoted}
use Rattle.audit_lock.specs.declared.resolving.Package.{Package}
use Rattle.upgrade_plan.specs.declared.records.NoRecord.{NoRecord}
use Rattle.upgrade_plan.specs.declared.records.NoRecord.TheVariants as why
use Rattle.upgrade_plan.specs.declared.plans.PlanItem.{PlanItem}
use Rattle.upgrade_plan.specs.declared.plans.PlanOutcome.{PlanOutcome}
use Rattle.upgrade_plan.specs.declared.plans.PlanOutcome.TheVariants as outcome

-- ---- lines

abbrev pub cause_word : NoRecord → List ℕ
cause_word why.Source = codes "source"
cause_word why.Name = codes "name"
cause_word why.Store = codes "store"
cause_word why.Absent = codes "absent"
cause_word why.Record = codes "record"

abbrev pub outcome_words : PlanOutcome → List ℕ
outcome_words (outcome.To w) = codes "to " ++ w
outcome_words outcome.NoneSafe = codes "no safe version"
outcome_words (outcome.NoRecord cause) = codes "no record " ++ cause_word cause

-- the name as JSON text, the locked version, and what is planned, separated by single spaces
abbrev pub item_line : List ℕ → List ℕ → PlanOutcome → List ℕ
item_line name version o =
    quoted name ++ codes " " ++ version ++ codes " " ++ outcome_words o ++ codes "\n"

-- a place without a package gives nothing
abbrev pub line_at : Option Package → PlanOutcome → List ℕ
line_at None o = []
line_at (Some p) o = item_line p.name p.version o

-- the lines of the items, in their order
abbrev pub plan_lines : List Package → List PlanItem → List ℕ
plan_lines packages [] = []
plan_lines packages (item ∷ items) =
    line_at (slice_get packages item.«package») item.outcome ++ plan_lines packages items

-- ---- status

-- there is a version to go to
abbrev pub is_to : PlanOutcome → Bool
is_to (outcome.To w) = true
is_to outcome.NoneSafe = false
is_to (outcome.NoRecord cause) = false

-- 0 if there is one for each item, else 1
abbrev pub plan_status : List PlanItem → ℕ
plan_status items = if list_all (λ item. is_to item.outcome) items then 0 else 1
