-- The reports of audits are of the auditor's advisories.
use Rattle.std.proofs.Common.{ℕ, List, [], ◌∷◌, ap}
use Rattle.audit_advisory.specs.declared.reports.Report.{Report}
use Rattle.audit_binaries.specs.Binaries.{AreBinaries, Outside, Scan, Tells}
use Rattle.audit_binaries.specs.declared.answers.BinaryAnswer.{BinaryAnswer}
use Rattle.audit_binaries.specs.declared.answers.BinaryAnswer.TheVariants as answer
use Rattle.audit_core.specs.Auditors.{IsReportOf}
use Rattle.audit_core.specs.Audits.{IsAuditOf, Moment}
use Rattle.audit_core.specs.declared.auditing.Audited.{Audited}
use Rattle.audit_core.specs.declared.auditors.Auditor.{Auditor}
use Rattle.audit_output.specs.BinaryOutputs.{AreReportsOf}

-- an audit's report is one of the auditor's advisories and of its packages
pub reported : (auditor : Auditor) (wire disk : Type 0) (began ended : Moment) (text : List ℕ) (audited : Audited) → IsAuditOf auditor wire disk began ended text audited → IsReportOf auditor.database audited
reported auditor wire disk began ended text audited h = record {
  placed = h.placed;
  counted = ap (λ (r : Report). r.advisory_count) h.report;
  packages = ap (λ (r : Report). r.dependency_count) h.report;
}

pub all_reported : (tells : Tells) (scan : Scan) (began ended : Outside) (paths : List (List ℕ)) (answers : List BinaryAnswer) → AreBinaries tells scan began ended paths answers
    → AreReportsOf scan.auditor.database answers
all_reported tells scan began ended [] [] h = tt
all_reported tells scan began ended [] (a ∷ answers) h = absurd h
all_reported tells scan began ended (path ∷ paths) [] h = absurd h
all_reported tells scan began ended (path ∷ paths) (answer.Audited found audited ∷ answers) h =
    (reported scan.auditor tells.wire tells.disk began.moment h.0.moment h.1.answered.text audited h.1.answered.audit, all_reported tells scan h.0 ended paths answers h.2)
all_reported tells scan began ended (path ∷ paths) (answer.Refused f ∷ answers) h = (tt, all_reported tells scan h.0 ended paths answers h.2)
