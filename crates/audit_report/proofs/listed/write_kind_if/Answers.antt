use Rattle.std.proofs.Common.{arith}
use Rattle.std.specs.List.{flat_map}
use Rattle.audit_report.specs.Documents.{kind_warning_at}
use Rattle.report_parts.proofs.Writing.{behind}
use Rattle.report_parts.specs.Values.{array_of}
use Rattle.report_parts.proofs.Joining.{adds_member_if}
use Rattle.report_parts.specs.Words.{kind_word}
use Rattle.audit_report.proofs.listed.write_kind_if.Goals as goal

pub returns : goal.returns
returns c =
    adds_member_if c.args.occurs (kind_word c.args.kind)
    (array_of (flat_map (kind_warning_at c.args.kind c.args.advisories.now c.args.packages.now) c.args.warnings.now))
    _ _ (grind (arith, c.if-not-occurs.false))
    (behind c.in_ok-write_warning_list.ensures c.in_ok-write_kind_name.ensures)
