use Rattle.std.specs.List.{flat_map}
use Rattle.report_parts.proofs.Writing.{adds_array, behind}
use Rattle.audit_report.specs.Documents.{kind_warning_at}
use Rattle.audit_report.proofs.listed.write_warning_list.Goals as goal

pub returns : goal.returns
returns c =
    adds_array (flat_map (kind_warning_at c.args.kind c.args.advisories.now c.args.packages.now) c.args.warnings.now) _ _
    (behind (behind c.in_ok-close_array.ensures c.in_ok-write_warnings_of.ensures) c.in_ok-open_array.ensures)
