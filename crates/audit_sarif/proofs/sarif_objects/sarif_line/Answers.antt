use Rattle.std.proofs.Common.{ap, sym, ◌∙◌}
use Rattle.json.specs.Json.{document}
use Rattle.report_parts.proofs.Newline.{document-newline}
use Rattle.audit_sarif.specs.SarifObjects.{sarif_line, sarif_object}
use Rattle.report_parts.specs.Values.{json_text}
use Rattle.audit_sarif.proofs.sarif_objects.sarif_line.Goals as goal

pub returns-clause-reads_back : goal.returns-clause-reads_back
unfolding sarif_line
returns-clause-reads_back c =
    document-newline (json_text (sarif_object c.args.log.now))
    ∙ ap document (sym c.in_ok-line.ensures.text)
    ∙ c.in_ok-line.ensures.reads_back
