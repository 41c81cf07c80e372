-- What is printed for the audit of a lockfile (this project, after cargo-audit).
use Rattle.std.specs.Prelude.{ℕ, List, [], ◌∷◌, ◌++◌, length, Bool, true, false, slice_get, Option, Some, None, if◌then◌else◌}
use Rattle.audit_lock.specs.declared.resolving.Package.{Package}
use Rattle.audit_advisory.specs.Outputs.{is_quiet}
use Rattle.audit_advisory.specs.declared.advisories.Advisory.{Advisory}
use Rattle.audit_advisory.specs.declared.outputs.OutputConfig.{OutputConfig}
use Rattle.audit_core.specs.Auditors.{self_advisories}
use Rattle.audit_core.specs.Checks.{checks_of}
use Rattle.audit_core.specs.declared.auditing.Audited.{Audited}
use Rattle.audit_core.specs.declared.checking.Checks.{Checks}
use Rattle.audit_core.specs.declared.checking.Checks.TheVariants.{Online, Offline, Off}
use Rattle.audit_core.specs.declared.verdicts.Judged.{Judged}
use Rattle.audit_core.specs.declared.verdicts.Verdict.{Verdict}
use Rattle.audit_core.specs.declared.verdicts.Verdict.TheVariants.{Unchecked}
use Rattle.audit_report.specs.Printed.{Printed, printed}
use Rattle.audit_report.specs.SelfReports.{self_summary, self_text}
use Rattle.audit_report.specs.StatusLines.{loaded_line, scanning_line_in, unchecked_line, updating_line}
use Rattle.audit_report.specs.declared.presenters.Presenter.{Presenter}
use Rattle.audit_output.specs.Printed.{cause_word, verdict_lines}
use Rattle.audit_output.specs.declared.printing.AuditSheet.{AuditSheet}

-- the text for standard output, and the text for standard error
pub record Output : Type 0 where
  pub out : List ℕ
  pub err : List ℕ

-- ---- status lines

abbrev pub is_online : Checks → Bool
is_online Online = true
is_online Offline = false
is_online Off = false

-- how many advisories there are; and if online, that the index is asked
abbrev pub loaded_lines : ℕ → List ℕ → Checks → List ℕ
loaded_lines count database checks =
    loaded_line count database ++ (if is_online checks then updating_line else [])

-- those lines, unless status lines are left out
abbrev pub loaded_lines_in : OutputConfig → ℕ → List ℕ → Checks → List ℕ
loaded_lines_in config count database checks =
    if is_quiet config then [] else loaded_lines count database checks

-- a line, if it isn't known whether the package is yanked
abbrev pub unchecked_at : Option Package → Verdict → List ℕ
unchecked_at (Some p) (Unchecked c) = unchecked_line p.name p.version (cause_word c)
unchecked_at _ _ = []

-- those lines, in the order of the verdicts
abbrev pub unchecked_lines : List Package → List Judged → List ℕ
unchecked_lines packages [] = []
unchecked_lines packages (j ∷ js) =
    unchecked_at (slice_get packages j.«package») j.verdict ++ unchecked_lines packages js

-- ---- what is shown, and how

-- how audits are shown, the database's path, how versions are checked, and the advisories
pub record Shown : Type 0 where
  pub config : OutputConfig
  pub database : List ℕ
  pub checks : Checks
  pub advisories : List Advisory

abbrev pub shown_on : AuditSheet → Shown
shown_on sheet = record {
  config = sheet.config.now;
  database = sheet.database.now;
  checks = sheet.auditor.now.checks;
  advisories = sheet.auditor.now.database;
}

-- ---- the parts of an output

-- the status lines before all audits
abbrev pub loaded_by : Shown → List ℕ
loaded_by shown =
    loaded_lines_in shown.config (length shown.advisories) shown.database shown.checks

-- a presenter that has shown no tree, and has no symbols
abbrev pub presenter_of : OutputConfig → Presenter
presenter_of config = record { config = config; trees = []; symbols = None }

-- what advisories on the auditor itself say
abbrev pub self_output : Shown → Output
self_output shown = record {
  out = self_text shown.advisories (self_advisories shown.advisories);
  err = self_summary shown.config.deny (self_advisories shown.advisories);
}

-- ---- the output of an audit

-- all status lines of the audit of the lockfile at a path, in their order
abbrev pub status_lines : Shown → List ℕ → Audited → List ℕ
status_lines shown place audited =
    loaded_by shown ++ scanning_line_in shown.config place (length audited.lockfile)
    ++ unchecked_lines audited.lockfile audited.verdicts

-- what is printed for the report itself
abbrev pub report_printed : Shown → Audited → Printed
report_printed shown audited =
    printed (presenter_of shown.config) None shown.advisories audited.lockfile audited.report

-- the report, and what advisories on the auditor itself say; on standard error the status lines,
-- the summary of the report, and that there are such advisories
abbrev pub report_output : Shown → List ℕ → Audited → Output
report_output shown place audited = record {
  out = (report_printed shown audited).out ++ (self_output shown).out;
  err = status_lines shown place audited ++ (report_printed shown audited).err
      ++ (self_output shown).err;
}

-- the lines of the verdicts alone
abbrev pub verdict_output : Audited → Output
verdict_output audited =
    record { out = verdict_lines audited.lockfile audited.verdicts; err = [] }

abbrev pub output_of : Bool → Shown → List ℕ → Audited → Output
output_of verdicts shown place audited =
    if verdicts then verdict_output audited else report_output shown place audited
