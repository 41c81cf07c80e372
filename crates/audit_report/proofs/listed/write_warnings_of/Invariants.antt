use Rattle.std.proofs.Common.{take}
use Rattle.std.specs.List.{flat_map}
use Rattle.json.specs.Tree.{json_tokens}
use Rattle.report_parts.specs.WrittenTokens.{WritesTokens}
use Rattle.audit_report.specs.Documents.{kind_warning_at}
use Rattle.audit_report.proofs.listed.write_warnings_of.Given as goal

-- the values so far
abbrev pub invariant-loop-warning : goal.invariant-loop-warning
invariant-loop-warning l =
    WritesTokens l.initial.out l.out
    (flat_map json_tokens (flat_map (kind_warning_at l.kind l.advisories l.packages) (take l.warning-index l.warnings)))
