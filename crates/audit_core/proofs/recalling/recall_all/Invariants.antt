use Rattle.std.proofs.Common.{◌≡◌, ℕ, List, Some, map, take}
use Rattle.tame_names.specs.Names.{path}
use Rattle.audit_core.specs.FailedReads.{BlameReads}
use Rattle.audit_core.specs.Recalled.{AreRecalled, AreUnasked}
use Rattle.audit_core.specs.Turns.{AreCaused, Chains}
use Rattle.audit_core.specs.declared.asking.AnsweredTurn.{AnsweredTurn}
use Rattle.audit_core.proofs.recalling.recall_all.Given as goal

abbrev pub invariant-loop-name : goal.invariant-loop-name
invariant-loop-name g l = record {
  paths : map (λ (h : AnsweredTurn). Some h.turn.path) l.answered_turns ≡ map path (take l.name-index l.names);
  counts : Chains (g.W.Wire.faults l.wire) (g.D.CacheDisk.faults l.initial.disk) (map (λ (h : AnsweredTurn). h.turn) l.answered_turns) (g.W.Wire.faults l.wire) (g.D.CacheDisk.faults l.disk);
  unasked : AreUnasked (map (λ (h : AnsweredTurn). h.turn) l.answered_turns);
  caused : AreCaused l.answered_turns;
  recalled : AreRecalled g.D.CacheDisk.tells (g.D.CacheDisk.past l.initial.disk) l.answered_turns;
  blames : BlameReads (g.D.CacheDisk.failed l.initial.disk) l.answered_turns (g.D.CacheDisk.failed l.disk);
  same : g.D.CacheDisk.tells → (q : List ℕ) → g.D.CacheDisk.past l.disk q ≡ g.D.CacheDisk.past l.initial.disk q;
  folders : g.D.CacheDisk.tells → g.D.CacheDisk.folders l.disk ≡ g.D.CacheDisk.folders l.initial.disk;
}
