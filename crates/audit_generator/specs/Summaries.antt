-- The lines that sum up two audits of generated packages (this project).
use Rattle.std.specs.Prelude.{◌≡◌, ◌↔◌, ℕ, IsTrue, codes, decimal, List, ◌++◌, length, Bool, true, false, if◌then◌else◌}
use Rattle.std.specs.List.{count_by}
use Rattle.tame_sparse.specs.Serving.{answered}
use Rattle.audit_advisory.specs.declared.reports.Report.{Report}
use Rattle.audit_core.specs.Auditors.{audit_exit, audit_report}
use Rattle.audit_core.specs.declared.auditors.Auditor.{Auditor}
use Rattle.audit_core.specs.declared.verdicts.Judged.{Judged}
use Rattle.audit_core.specs.declared.verdicts.Verdict.{Verdict}
use Rattle.audit_core.specs.declared.verdicts.Verdict.TheVariants.{NotYanked, Unchecked, Yanked}
use Rattle.audit_generator.specs.Moments.{auditor_for}
use Rattle.audit_generator.specs.Packages.{packages}
use Rattle.audit_generator.specs.Outcomes.{verdicts_of}
use Rattle.audit_generator.specs.declared.generating.Generated.{Generated}

abbrev pub is_yanked : Verdict → Bool
is_yanked Yanked = true
is_yanked NotYanked = false
is_yanked (Unchecked c) = false

abbrev pub yanked_count : List Judged → ℕ
yanked_count judged = count_by (λ j. is_yanked j.verdict) judged

-- a word, a number and a newline
abbrev pub number_line : List ℕ → ℕ → List ℕ
number_line word number = word ++ codes " " ++ decimal number ++ codes "\n"

abbrev pub same_line : Bool → List ℕ
same_line same = if same then codes "same yes\n" else codes "same no\n"

-- packages, advisories, vulnerabilities and yanked packages; files that were sent and that were
-- confirmed; whether the verdicts are the same; and the exit
abbrev pub lines_of : ℕ → ℕ → ℕ → ℕ → ℕ → ℕ → Bool → ℕ → List ℕ
lines_of n advisories vulnerabilities yanked cold warm same exit =
    number_line (codes "packages") n ++ number_line (codes "advisories") advisories
    ++ number_line (codes "vulnerabilities") vulnerabilities
    ++ number_line (codes "yanked") yanked
    ++ number_line (codes "cold") cold
    ++ number_line (codes "warm") warm
    ++ same_line same
    ++ number_line (codes "exit") exit

-- the lines over what two audits left: those of the second, the answers of the server, and whether
-- both say the same about each package
pub record AreLinesOver (n : ℕ) (generated : Generated) (text : List ℕ) : Type 0 where
  pub same : Bool
  pub compared : IsTrue same ↔ (generated.first.verdicts ≡ generated.second.verdicts)
  pub lines : text ≡ lines_of n generated.second.report.advisory_count
      (length generated.second.report.vulnerabilities)
      (yanked_count generated.second.verdicts)
      (answered 200 generated.wire.exchanges) (answered 304 generated.wire.exchanges) same
      generated.second.exit

-- the report of an auditor on n packages
abbrev pub report_by : ℕ → Auditor → Report
report_by n auditor = audit_report auditor (packages n) (verdicts_of n)

-- the lines for n packages and an auditor
abbrev pub summary_by : ℕ → Auditor → List ℕ
summary_by n auditor =
    lines_of n (report_by n auditor).advisory_count (length (report_by n auditor).vulnerabilities)
    (yanked_count (verdicts_of n)) n n true (audit_exit auditor (report_by n auditor))

-- the lines for n packages, a function of only their number
abbrev pub summary_for : ℕ → List ℕ
summary_for n = summary_by n (auditor_for n)
