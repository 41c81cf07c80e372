-- What is printed for the audits of binaries (this project, after cargo-audit).
use Rattle.std.specs.Prelude.{ℕ, codes, decimal, List, [], ◌∷◌, ◌++◌, length, Bool, true, false, Some, if◌then◌else◌}
use Rattle.audit_advisory.specs.declared.advisories.Advisory.{Advisory}
use Rattle.audit_advisory.specs.declared.outputs.OutputConfig.{OutputConfig}
use Rattle.audit_binaries.specs.declared.answers.BinaryAnswer.{BinaryAnswer}
use Rattle.audit_binaries.specs.declared.answers.BinaryAnswer.TheVariants as answer
use Rattle.audit_binaries.specs.declared.answers.BinaryFault.{BinaryFault}
use Rattle.audit_binaries.specs.declared.answers.BinaryFault.TheVariants as fault
use Rattle.audit_binaries.specs.declared.answers.PackagesFound.{PackagesFound}
use Rattle.audit_binaries.specs.declared.answers.PackagesFound.TheVariants.{Complete, Incomplete}
use Rattle.audit_core.specs.Auditors.{IsReportOf}
use Rattle.audit_report.specs.Printed.{Printed, printed}
use Rattle.audit_report.specs.StatusLines.{binary_line_in}
use Rattle.audit_report.specs.declared.binaries.Found.{Found}
use Rattle.audit_report.specs.declared.binaries.Found.TheVariants as found
use Rattle.audit_report.specs.declared.presenters.Presenter.{Presenter}
use Rattle.audit_report.specs.declared.shown_trees.ShownTree.{ShownTree}
use Rattle.audit_output.specs.LockfileWords.{lockfile_words}
use Rattle.audit_output.specs.Outputs.{Output, Shown, loaded_by, presenter_of, self_output, unchecked_lines, verdict_output}
use Rattle.audit_output.specs.declared.binary_printing.BinarySheet.{BinarySheet}

abbrev pub binaries_shown_on : BinarySheet → Shown
binaries_shown_on sheet = record {
  config = sheet.config.now;
  database = sheet.database.now;
  checks = sheet.auditor.now.checks;
  advisories = sheet.auditor.now.database;
}

-- the report of an audit is one of these advisories
abbrev pub IsAnswerOf : List Advisory → BinaryAnswer → Type 0
IsAnswerOf advisories (answer.Audited found audited) = IsReportOf advisories audited
IsAnswerOf advisories (answer.Refused f) = Unit {0}

-- the same for each of the answers
abbrev pub AreReportsOf : List Advisory → List BinaryAnswer → Type 0
AreReportsOf advisories [] = Unit {0}
AreReportsOf advisories (a ∷ answers) = IsAnswerOf advisories a × AreReportsOf advisories answers

-- ---- why there is no audit

abbrev pub binary_words : BinaryFault → List ℕ
binary_words fault.Missing = codes "isn't there"
binary_words fault.File = codes "I/O error"
binary_words (fault.TooLarge len) = codes "has " ++ decimal len ++ codes " bytes"
binary_words fault.Decode = codes "can't be decoded"
binary_words (fault.PayloadOver len) = codes "payload has " ++ decimal len ++ codes " bytes"
binary_words fault.NoInformation = codes "no dependency information"
binary_words (fault.Lockfile reason) = lockfile_words reason

abbrev pub refused_line : List ℕ → BinaryFault → List ℕ
refused_line path f = codes "error: " ++ path ++ codes ": " ++ binary_words f ++ codes "\n"

-- ---- status lines

abbrev pub found_of : PackagesFound → Found
found_of Complete = found.Complete
found_of Incomplete = found.Incomplete

-- the line that the binary has no information; a binary refused otherwise has no status line
abbrev pub refused_status_line : OutputConfig → List ℕ → BinaryFault → List ℕ
refused_status_line config path fault.NoInformation = binary_line_in config found.Nothing 0 path
refused_status_line config path _ = []

-- how much the binary says, and for which of its packages it isn't known whether they are yanked
abbrev pub binary_status_lines : OutputConfig → List ℕ → BinaryAnswer → List ℕ
binary_status_lines config path (answer.Audited found audited) =
    binary_line_in config (found_of found) (length audited.lockfile) path
    ++ unchecked_lines audited.lockfile audited.verdicts
binary_status_lines config path (answer.Refused f) = refused_status_line config path f

-- ---- one binary

-- the line that says why there is no audit
abbrev pub refused_output : List ℕ → BinaryFault → Output
refused_output path f = record { out = []; err = refused_line path f }

-- the lines of the verdicts alone
abbrev pub binary_verdicts : List ℕ → BinaryAnswer → Output
binary_verdicts path (answer.Audited found audited) = verdict_output audited
binary_verdicts path (answer.Refused f) = refused_output path f

-- an output that shows no tree
abbrev pub without_trees : Presenter → Output → Printed
without_trees presenter output =
    record { out = output.out; err = output.err; trees = presenter.trees }

-- the report by the presenter, with the binary's path
abbrev pub binary_report : List Advisory → Presenter → List ℕ → BinaryAnswer → Printed
binary_report advisories presenter path (answer.Audited found audited) =
    printed presenter (Some path) advisories audited.lockfile audited.report
binary_report advisories presenter path (answer.Refused f) =
    without_trees presenter (refused_output path f)

-- with lines before it on standard error
abbrev pub behind_lines : List ℕ → Printed → Printed
behind_lines lines p = record { out = p.out; err = lines ++ p.err; trees = p.trees }

-- the status lines and the report
abbrev pub answer_printed : Shown → Presenter → List ℕ → BinaryAnswer → Printed
answer_printed shown presenter path a =
    behind_lines (binary_status_lines shown.config path a)
    (binary_report shown.advisories presenter path a)

-- the verdicts, or the status lines and the report
abbrev pub binary_printed : Bool → Shown → Presenter → List ℕ → BinaryAnswer → Printed
binary_printed verdicts shown presenter path a =
    if verdicts then without_trees presenter (binary_verdicts path a)
    else answer_printed shown presenter path a

-- ---- one after the other

-- the presenter, once these trees are shown
abbrev pub with_trees : Presenter → List ShownTree → Presenter
with_trees presenter trees = record presenter { trees = trees }

-- an output before another one
abbrev pub in_front : Printed → Output → Output
in_front p output = record { out = p.out ++ output.out; err = p.err ++ output.err }

-- each binary is printed by the presenter that the earlier ones left; a path without an answer
-- prints nothing, nor does an answer without a path
abbrev pub binaries_printed : Bool → Shown → Presenter → List (List ℕ) → List BinaryAnswer
    → Output
binaries_printed verdicts shown presenter [] answers = record { out = []; err = [] }
binaries_printed verdicts shown presenter (path ∷ paths) [] = record { out = []; err = [] }
binaries_printed verdicts shown presenter (path ∷ paths) (a ∷ answers) =
    in_front (binary_printed verdicts shown presenter path a)
    (binaries_printed verdicts shown
    (with_trees presenter (binary_printed verdicts shown presenter path a).trees) paths answers)

-- ---- the output

-- by a presenter that has shown no tree
abbrev pub answers_output : Bool → Shown → List (List ℕ) → List BinaryAnswer → Output
answers_output verdicts shown paths answers =
    binaries_printed verdicts shown (presenter_of shown.config) paths answers

-- between the status lines before all and what advisories on the auditor itself say
abbrev pub reports_output : Shown → Output → Output
reports_output shown output = record {
  out = output.out ++ (self_output shown).out;
  err = loaded_by shown ++ output.err ++ (self_output shown).err;
}

-- the verdicts alone, or the full output
abbrev pub binaries_output : Bool → Shown → List (List ℕ) → List BinaryAnswer → Output
binaries_output verdicts shown paths answers =
    if verdicts then answers_output true shown paths answers
    else reports_output shown (answers_output false shown paths answers)
