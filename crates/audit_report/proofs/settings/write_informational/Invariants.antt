use Rattle.std.proofs.Common.{◌≡◌, ◌++◌, drop, map}
use Rattle.json.specs.Json.{string}
use Rattle.json.specs.Tree.{items_tokens}
use Rattle.report_parts.specs.Words.{informational_word}
use Rattle.report_parts.specs.Values.{items_of}
use Rattle.audit_report.proofs.settings.write_informational.Given as goal

-- what is written, and what is left to write
abbrev pub invariant-loop-one : goal.invariant-loop-one
invariant-loop-one l = record {
  tokens : l.initial.out.tokens ++ items_tokens (items_of (map string (map informational_word l.informational)))
      ≡ l.out.tokens ++ items_tokens (items_of (map string (map informational_word (drop l.one-index l.informational))));
  before : l.out.before ≡ l.initial.out.before;
}
