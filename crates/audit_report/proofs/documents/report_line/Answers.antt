use Rattle.std.proofs.Common.{ap, sym, ◌∙◌}
use Rattle.json.specs.Json.{document}
use Rattle.audit_report.specs.Documents.{report_line, report_object}
use Rattle.report_parts.specs.Values.{json_text}
use Rattle.report_parts.proofs.Newline.{document-newline}
use Rattle.audit_report.proofs.documents.report_line.Goals as goal

pub returns-clause-reads_back : goal.returns-clause-reads_back
unfolding report_line
returns-clause-reads_back c =
    document-newline (json_text (report_object c.args.advisories.now c.args.packages.now c.args.report.now))
    ∙ ap document (sym c.in_ok-line.ensures.text)
    ∙ c.in_ok-line.ensures.reads_back
