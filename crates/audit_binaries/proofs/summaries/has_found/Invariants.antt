use Rattle.std.proofs.Common.{◌≡◌, drop}
use Rattle.std.specs.List.{list_any}
use Rattle.audit_binaries.specs.Summaries.{is_found}
use Rattle.audit_binaries.proofs.summaries.has_found.Given as goal

-- what is left decides
abbrev pub invariant-loop-answer : goal.invariant-loop-answer
invariant-loop-answer l = list_any (is_found l.deny) l.answers ≡ list_any (is_found l.deny) (drop l.answer-index l.answers)
