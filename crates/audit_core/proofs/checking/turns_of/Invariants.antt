use Rattle.std.proofs.Common.{◌≡◌, ◌++◌, map}
use Rattle.std.specs.Vec.Iter.{into_iter_items}
use Rattle.audit_core.proofs.checking.turns_of.Given as goal

-- the turns so far, before those of what is left
abbrev pub invariant-loop-h : goal.invariant-loop-h
invariant-loop-h l = map (λ h. h.turn) l.fn.answered_turns ≡ l.turns ++ map (λ h. h.turn) (into_iter_items l.h-iterator)
