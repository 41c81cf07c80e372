use Rattle.std.proofs.Common.{length}
use Rattle.audit_binaries.proofs.PayloadLemmas.{IsReached}
use Rattle.audit_binaries.proofs.payloads.before_end.Given as goal

abbrev pub invariant-loop-left : goal.invariant-loop-left
invariant-loop-left l = IsReached l.bytes l.left

abbrev pub decreases-loop-left : goal.decreases-loop-left
decreases-loop-left l = length l.left
