-- What is printed on the two outputs, by what was made of an audit and by how a run ends (this
-- project).
use Rattle.std.specs.Prelude.{◌≡◌, ◌++◌, ℕ, ℤ, codes, decimal, nat_eq, List, [], length, Bool, Option, Some, None, if◌then◌else◌, Result, Ok, Err}
use Rattle.tame_names.specs.Counts.{CountStayed}
use Rattle.tame_names.specs.Output.{AddsPrefix}
use Rattle.audit_advisory.specs.declared.advisories.Advisory.{Advisory}
use Rattle.audit_remedies.specs.declared.faults.RunFault.{RunFault}
use Rattle.audit_remedies.specs.declared.faults.RunFault.TheVariants as fault
use Rattle.known_findings.specs.Baselines.{written}
use Rattle.audit_core.specs.declared.auditing.Audited.{Audited}
use Rattle.audit_fix.specs.Lines.{fix_lines}
use Rattle.audit_fix.specs.declared.plans.FixStep.{FixStep}
use Rattle.audit_remedies.specs.FaultLines.{fault_line}
use Rattle.audit_output.specs.Outputs.{Output}
use Rattle.upgrade_plan.specs.Lines.{plan_lines}
use Rattle.vendor_registry.specs.declared.vendoring.Vendored.{Vendored}
use Rattle.audit_remedies.specs.declared.makings.Made.{Made}
use Rattle.audit_remedies.specs.declared.makings.Made.TheVariants as made

abbrev pub vendored_line : Vendored → List ℕ
vendored_line v =
    codes "vendored " ++ decimal v.packages ++ codes " packages, "
    ++ decimal v.bytes ++ codes " bytes\n"

abbrev pub on_out : List ℕ → Output
on_out text = record { out = text; err = [] }

-- instead of an audit's output: the lines of a plan, those of the findings that a baseline doesn't
-- list, nothing of a baseline that was written, and the line of a registry
abbrev pub made_output : Output → Audited → Made → Output
made_output output audited made.Report = output
made_output output audited (made.Fix dry_run) = output
made_output output audited (made.Planned items) = on_out (plan_lines audited.lockfile items)
made_output output audited (made.Unlisted found) = on_out (written found)
made_output output audited made.Written = on_out []
made_output output audited (made.Vendored v) = on_out (vendored_line v)

-- nothing is printed if it couldn't be made
abbrev pub output_by : Output → Audited → Result Made RunFault → Output
output_by output audited (Ok it) = made_output output audited it
output_by output audited (Err reason) = on_out []

-- by the statuses that its steps ended with; none if the lines of verdicts are printed
abbrev pub remedy_lines : Bool → Made → List Advisory → Audited → List (Option ℤ) → List ℕ
remedy_lines verdicts (made.Fix dry_run) advisories audited statuses = if verdicts then []
    else fix_lines dry_run advisories audited.lockfile audited.report.vulnerabilities statuses
remedy_lines verdicts it advisories audited statuses = []

-- they begin once each step was started: if there isn't a status for each, there are none
abbrev pub lines_behind : List FixStep → List (Option ℤ) → List ℕ → List ℕ
lines_behind steps statuses lines =
    if nat_eq (length statuses) (length steps) then lines else []

-- all was done: the run has no fault, or that steps couldn't be started
abbrev pub IsWhole : Option RunFault → Type 0
IsWhole None = Unit {0}
IsWhole (Some (fault.Start failed)) = Unit {0}
IsWhole (Some _) = ⊥

-- a part of the text was printed, from its beginning, and all of it if all was done
pub record IsPutBy (before text : List ℕ) (reason : Option RunFault) (now : List ℕ) : Type 0 where
  pub part : AddsPrefix before text now
  pub whole : IsWhole reason → now ≡ before ++ text

-- all of the text was printed, and more may come after it
pub record IsPutFirst (before text now : List ℕ) : Type 0 where
  pub more : List ℕ
  pub whole : now ≡ (before ++ text) ++ more

-- the line was printed: a part of it, from its beginning, and all of it if the output's count of
-- faults stayed
pub record IsLinePut (before line now : List ℕ) (faults faults_now : ℕ) : Type 0 where
  pub part : AddsPrefix before line now
  pub whole : CountStayed faults faults_now → now ≡ before ++ line

-- the fault's line comes after what was printed
abbrev pub IsEnded : List ℕ → List ℕ → List ℕ → Option RunFault → List ℕ → ℕ → ℕ → Type 0
IsEnded place before text None now faults faults_now = IsPutBy before text None now
IsEnded place before text (Some reason) now faults faults_now =
    (put : List ℕ) × IsPutBy before text (Some reason) put
    × IsLinePut put (fault_line place reason) now faults faults_now
