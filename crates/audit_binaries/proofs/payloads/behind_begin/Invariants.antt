use Rattle.std.proofs.Common.{◌≡◌, length}
use Rattle.tame_names.specs.Pieces.{pieces}
use Rattle.audit_binaries.specs.Payloads.{between}
use Rattle.audit_binaries.proofs.payloads.behind_begin.Given as goal

-- what is left decides
abbrev pub invariant-loop-left : goal.invariant-loop-left
invariant-loop-left l = between (pieces 10 l.bytes) ≡ between (pieces 10 l.left)

abbrev pub decreases-loop-left : goal.decreases-loop-left
decreases-loop-left l = length l.left
