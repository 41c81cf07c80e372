use Rattle.std.proofs.Common.{◌≡◌, ◌++◌}
use Rattle.json.specs.Json.{object}
use Rattle.json.specs.Tree.{members_tokens, json_tokens}
use Rattle.tame_records.specs.Written.{lists_tree}
use Rattle.tame_records.proofs.writing.write_lists.Given as goal

-- what is written, and what is left to write
abbrev pub invariant-loop-name : goal.invariant-loop-name
invariant-loop-name l = record {
  before : l.writer.before ≡ l.fn.writer.before;
  written : l.writer.tokens ++ members_tokens (lists_tree l.name-iterator) ≡ l.fn.writer.tokens ++ json_tokens (object (lists_tree l.lists));
}
