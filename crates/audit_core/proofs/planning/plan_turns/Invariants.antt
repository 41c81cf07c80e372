use Rattle.std.proofs.Common.{◌≡◌, ◌++◌, drop, take}
use Rattle.audit_core.specs.Paths.{asked_paths, default_paths, distinct_after}
use Rattle.audit_core.specs.Plans.{AreAt, ArePlanned}
use Rattle.audit_core.proofs.planning.plan_turns.Given as goal

-- the paths so far, before those that what is left adds; and the turns so far
abbrev pub invariant-loop-locked : goal.invariant-loop-locked
invariant-loop-locked l = record {
  places : AreAt l.places;
  paths : asked_paths l.packages ≡ l.places.paths ++ distinct_after l.places.paths (default_paths (drop l.locked-index l.packages));
  planned : ArePlanned l.places.paths (take l.locked-index l.packages) l.turns;
}
