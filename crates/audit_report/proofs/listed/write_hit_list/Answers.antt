use Rattle.std.specs.List.{flat_map}
use Rattle.report_parts.proofs.Writing.{adds_array, behind}
use Rattle.audit_report.specs.Documents.{hit_at}
use Rattle.audit_report.proofs.listed.write_hit_list.Goals as goal

pub returns : goal.returns
returns c =
    adds_array (flat_map (hit_at c.args.advisories.now c.args.packages.now) c.args.found.now) _ _
    (behind (behind c.in_ok-close_array.ensures c.in_ok-write_hits.ensures) c.in_ok-open_array.ensures)
