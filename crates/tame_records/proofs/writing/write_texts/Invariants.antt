use Rattle.std.proofs.Common.{◌≡◌, ◌++◌, drop}
use Rattle.json.specs.Json.{array}
use Rattle.json.specs.Tree.{items_tokens, json_tokens}
use Rattle.tame_records.specs.Written.{texts_tree}
use Rattle.tame_records.proofs.writing.write_texts.Given as goal

-- what is written, and what is left to write
abbrev pub invariant-loop-text : goal.invariant-loop-text
invariant-loop-text l = record {
  before : l.writer.before ≡ l.fn.writer.before;
  written : l.writer.tokens ++ items_tokens (texts_tree (drop l.text-index l.texts)) ≡ l.fn.writer.tokens ++ json_tokens (array (texts_tree l.texts));
}
