use Rattle.std.proofs.Common.{◌≡◌, ◌++◌, drop}
use Rattle.json.specs.Json.{array}
use Rattle.json.specs.Tree.{items_tokens, json_tokens}
use Rattle.tame_records.specs.Written.{dependencies_tree}
use Rattle.tame_records.proofs.writing.write_dependencies.Given as goal

-- what is written, and what is left to write
abbrev pub invariant-loop-dependency : goal.invariant-loop-dependency
invariant-loop-dependency l = record {
  before : l.writer.before ≡ l.fn.writer.before;
  written : l.writer.tokens ++ items_tokens (dependencies_tree (drop l.dependency-index l.dependencies)) ≡ l.fn.writer.tokens ++ json_tokens (array (dependencies_tree l.dependencies));
}
