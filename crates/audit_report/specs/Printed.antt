-- What a presenter prints for a report: a function of how it shows reports, of the trees that it
-- has shown, of the symbols that are set, of the report, and of the advisories and packages in the
-- report.
use Rattle.std.specs.Prelude.{ℕ, List, [], Option}
use Rattle.audit_lock.specs.declared.resolving.Package.{Package}
use Rattle.audit_advisory.specs.declared.advisories.Advisory.{Advisory}
use Rattle.audit_advisory.specs.declared.outputs.OutputFormat.{OutputFormat}
use Rattle.audit_advisory.specs.declared.outputs.OutputFormat.TheVariants as format
use Rattle.audit_advisory.specs.declared.reports.Report.{Report}
use Rattle.audit_report.specs.Blocks.{blocks_of}
use Rattle.audit_report.specs.Documents.{report_line}
use Rattle.audit_sarif.specs.Sarif.{sarif_log, uri_of}
use Rattle.audit_sarif.specs.SarifObjects.{sarif_line}
use Rattle.audit_report.specs.Shown.{blocks_text, shown_after}
use Rattle.audit_report.specs.Summaries.{summary}
use Rattle.audit_report.specs.declared.presenters.Presenter.{Presenter}
use Rattle.audit_report.specs.declared.shown_trees.ShownTree.{ShownTree}

-- the text for standard output, the text for standard error, and the trees shown by then
pub record Printed : Type 0 where
  pub out : List ℕ
  pub err : List ℕ
  pub trees : List ShownTree

-- the blocks on standard output, and their summary on standard error
abbrev pub terminal_form : Presenter → Option (List ℕ) → List Advisory → List Package → Report
    → Printed
terminal_form p path advisories packages report = record {
  out =
      blocks_text p.config.show_tree p.trees (blocks_of p.symbols advisories packages report);
  err = summary p.config.deny path report;
  trees =
      shown_after p.config.show_tree p.trees (blocks_of p.symbols advisories packages report);
}

-- one line on standard output
abbrev pub json_form : Presenter → List Advisory → List Package → Report → Printed
json_form p advisories packages report =
    record { out = report_line advisories packages report; err = []; trees = p.trees }

-- one line on standard output
abbrev pub sarif_form : Presenter → Option (List ℕ) → List Advisory → List Package → Report
    → Printed
sarif_form p path advisories packages report = record {
  out = sarif_line (sarif_log (uri_of path) advisories packages report);
  err = [];
  trees = p.trees;
}

abbrev pub printed_as : OutputFormat → Presenter → Option (List ℕ) → List Advisory → List Package
    → Report → Printed
printed_as format.Terminal p path advisories packages report =
    terminal_form p path advisories packages report
printed_as format.Json p path advisories packages report = json_form p advisories packages report
printed_as format.Sarif p path advisories packages report =
    sarif_form p path advisories packages report

-- what a presenter prints, by its format; the path is that of a binary, if there is one
abbrev pub printed : Presenter → Option (List ℕ) → List Advisory → List Package → Report → Printed
printed p path advisories packages report =
    printed_as p.config.format p path advisories packages report
