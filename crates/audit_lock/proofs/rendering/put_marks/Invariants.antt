use Rattle.std.proofs.Common.{◌≡◌, ◌++◌, drop}
use Rattle.std.proofs.Common.{string_bytes}
use Rattle.audit_lock.specs.Rendering.{marks}
use Rattle.audit_lock.proofs.rendering.put_marks.Given as goal

-- the marks so far, before those that are left
abbrev pub invariant-loop-i : goal.invariant-loop-i
invariant-loop-i l = string_bytes l.initial.out ++ marks l.levels ≡ string_bytes l.out ++ marks (drop l.i l.levels)
