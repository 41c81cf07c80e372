use Rattle.report_parts.proofs.Writing.{behind}
use Rattle.report_parts.proofs.Joining.{adds_four}
use Rattle.audit_report.specs.Documents.{kind_member}
use Rattle.audit_advisory.specs.declared.outputs.WarningKind.TheVariants as kind
use Rattle.audit_report.proofs.listed.write_warnings.Goals as goal

pub returns : goal.returns
returns c =
    adds_four
    (kind_member kind.Notice c.args.advisories.now c.args.packages.now c.args.warnings.now)
    (kind_member kind.Unmaintained c.args.advisories.now c.args.packages.now c.args.warnings.now)
    (kind_member kind.Unsound c.args.advisories.now c.args.packages.now c.args.warnings.now)
    (kind_member kind.Yanked c.args.advisories.now c.args.packages.now c.args.warnings.now)
    _ _
    (behind (behind (behind (behind (behind c.in_ok-close_object.ensures
    c.in_ok-write_kind-4.ensures)
    c.in_ok-write_kind-3.ensures)
    c.in_ok-write_kind-2.ensures)
    c.in_ok-write_kind.ensures)
    c.in_ok-open_object.ensures)
