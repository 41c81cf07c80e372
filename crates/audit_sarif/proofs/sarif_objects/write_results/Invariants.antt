use Rattle.std.proofs.Common.{map, take}
use Rattle.std.specs.List.{flat_map}
use Rattle.json.specs.Tree.{json_tokens}
use Rattle.report_parts.specs.WrittenTokens.{WritesTokens}
use Rattle.audit_sarif.specs.SarifObjects.{result_object}
use Rattle.audit_sarif.proofs.sarif_objects.write_results.Given as goal

-- the values so far
abbrev pub invariant-loop-told : goal.invariant-loop-told
invariant-loop-told l =
    WritesTokens l.initial.out l.out (flat_map json_tokens (map result_object (take l.told-index l.results)))
