use Rattle.std.proofs.Common.{◌≡◌, ◌++◌, drop, map}
use Rattle.json.specs.Json.{string}
use Rattle.json.specs.Tree.{items_tokens}
use Rattle.report_parts.specs.Values.{items_of}
use Rattle.report_parts.proofs.members.write_requirements.Given as goal

-- what is written, and what is left to write
abbrev pub invariant-loop-requirement : goal.invariant-loop-requirement
invariant-loop-requirement l = record {
  tokens : l.initial.out.tokens ++ items_tokens (items_of (map string l.requirements))
      ≡ l.out.tokens ++ items_tokens (items_of (map string (drop l.requirement-index l.requirements)));
  before : l.out.before ≡ l.initial.out.before;
}
