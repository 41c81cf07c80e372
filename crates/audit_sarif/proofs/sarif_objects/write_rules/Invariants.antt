use Rattle.std.proofs.Common.{map, take}
use Rattle.std.specs.List.{flat_map}
use Rattle.json.specs.Tree.{json_tokens}
use Rattle.report_parts.specs.WrittenTokens.{WritesTokens}
use Rattle.audit_sarif.specs.SarifObjects.{rule_object}
use Rattle.audit_sarif.proofs.sarif_objects.write_rules.Given as goal

-- the values so far
abbrev pub invariant-loop-rule : goal.invariant-loop-rule
invariant-loop-rule l =
    WritesTokens l.initial.out l.out (flat_map json_tokens (map rule_object (take l.rule-index l.rules)))
