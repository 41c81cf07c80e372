-- How a run ends that made the audit of a lockfile (this project).
use Rattle.std.specs.Prelude.{◌≡◌, ◌⊎◌, ℕ, ℤ, Bool, List, [], Option, Some, None, Result, Ok, Err, IfOk, IfErr, IfSome}
use Rattle.audit_advisory.specs.declared.advisories.Advisory.{Advisory}
use Rattle.audit_core.specs.declared.auditing.Audited.{Audited}
use Rattle.audit_fix.specs.declared.plans.FixStep.{FixStep}
use Rattle.upgrade_plan.specs.declared.plans.PlanItem.{PlanItem}
use Rattle.audit_remedies.specs.Finishes.{IsFinishFault}
use Rattle.audit_remedies.specs.Makings.{plan_in}
use Rattle.audit_remedies.specs.Outputs.{lines_behind, remedy_lines}
use Rattle.audit_remedies.specs.Statuses.{made_status, steps_of}
use Rattle.audit_remedies.specs.declared.faults.RunFault.{RunFault}
use Rattle.audit_remedies.specs.declared.faults.RunFault.TheVariants as fault
use Rattle.audit_remedies.specs.declared.makings.Made.{Made}

-- how a run ended: with what fault, with what status, and with what plan
pub record Ending : Type 0 where
  pub fault : Option RunFault
  pub status : ℕ
  pub plan : Option (List PlanItem)

abbrev pub ending : Option RunFault → ℕ → Option (List PlanItem) → Ending
ending reason status plan = record { fault = reason; status = status; plan = plan }

-- the starts that are planned, and the lines of `fix`; none if nothing could be made
abbrev pub steps_by : List Advisory → Audited → Result Made RunFault → List FixStep
steps_by advisories audited (Ok it) = steps_of it advisories audited
steps_by advisories audited (Err reason) = []

abbrev pub lines_by : Bool → List Advisory → Audited → Result Made RunFault → List (Option ℤ)
    → List ℕ
lines_by verdicts advisories audited (Ok it) statuses =
    lines_behind (steps_of it advisories audited) statuses
    (remedy_lines verdicts it advisories audited statuses)
lines_by verdicts advisories audited (Err reason) statuses = []

-- if a run couldn't make what it was to, the fault says why, or is out of memory if no memory was
-- left for that; once it was made, printing failed, steps couldn't be started, or it is out of
-- memory; the status of a run that ends without a fault; and the plan that was made
pub record IsEndBy (advisories : List Advisory) (audited : Audited) (it : Result Made RunFault)
    (end : Ending) : Type 0 where
  pub unmade : IfErr it (λ reason. (end.fault ≡ Some reason) ⊎ (end.fault ≡ Some fault.NoMemory))
  pub made : IfOk it (λ what. IfSome end.fault IsFinishFault)
  pub status : IfOk it (λ what. end.fault ≡ None
      → end.status ≡ made_status advisories audited what)
  pub plan : end.plan ≡ plan_in it
