use Rattle.std.proofs.Common.{◌≡◌, ◌++◌, drop, map}
use Rattle.json.specs.Json.{string}
use Rattle.json.specs.Tree.{items_tokens}
use Rattle.report_parts.specs.Values.{items_of}
use Rattle.report_parts.proofs.members.write_texts.Given as goal

-- what is written, and what is left to write
abbrev pub invariant-loop-text : goal.invariant-loop-text
invariant-loop-text l = record {
  tokens : l.initial.out.tokens ++ items_tokens (items_of (map string l.items))
      ≡ l.out.tokens ++ items_tokens (items_of (map string (drop l.text-index l.items)));
  before : l.out.before ≡ l.initial.out.before;
}
