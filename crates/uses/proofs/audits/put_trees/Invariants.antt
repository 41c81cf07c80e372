use Rattle.std.proofs.Common.{◌≡◌, ◌≤◌, ◌++◌, drop}
use Rattle.tame_names.specs.Output.{AddsPrefix}
use Rattle.uses.specs.Trees.{trees_from, trees_of}
use Rattle.uses.proofs.audits.put_trees.Given as goal

-- the trees so far, a part of all from the front, and those of what is left
abbrev pub invariant-loop-place : goal.invariant-loop-place
invariant-loop-place g l = record {
  put : g.S.Sink.tells → g.S.Sink.holds l.sink ++ trees_from l.packages l.name l.place (drop l.place l.packages)
      ≡ g.S.Sink.holds l.initial.sink ++ trees_of l.name l.packages;
  part : g.S.Sink.tells → AddsPrefix (g.S.Sink.holds l.initial.sink) (trees_of l.name l.packages) (g.S.Sink.holds l.sink);
  later : g.S.Sink.faults l.initial.sink ≤ g.S.Sink.faults l.sink;
}
