use Rattle.std.proofs.Common.{take}
use Rattle.std.specs.List.{flat_map}
use Rattle.json.specs.Tree.{json_tokens}
use Rattle.report_parts.specs.WrittenTokens.{WritesTokens}
use Rattle.audit_report.specs.Documents.{hit_at}
use Rattle.audit_report.proofs.listed.write_hits.Given as goal

-- the values so far
abbrev pub invariant-loop-hit : goal.invariant-loop-hit
invariant-loop-hit l =
    WritesTokens l.initial.out l.out
    (flat_map json_tokens (flat_map (hit_at l.advisories l.packages) (take l.hit-index l.found)))
