use Rattle.std.proofs.Common.{◌≡◌, drop}
use Rattle.std.specs.List.{list_any}
use Rattle.audit_binaries.specs.Summaries.{is_refused}
use Rattle.audit_binaries.proofs.summaries.has_refused.Given as goal

-- what is left decides
abbrev pub invariant-loop-answer : goal.invariant-loop-answer
invariant-loop-answer l = list_any is_refused l.answers ≡ list_any is_refused (drop l.answer-index l.answers)
