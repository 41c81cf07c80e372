use Rattle.std.proofs.Common.{◌≡◌, drop}
use Rattle.serde_json.specs.View.{items_view}
use Rattle.tame_records.specs.Dependencies.{dependencies_of}
use Rattle.tame_records.proofs.Ahead.{before}
use Rattle.tame_records.proofs.dependencies.dependencies_of.Given as goal

abbrev pub invariant-loop-item : goal.invariant-loop-item
invariant-loop-item l = dependencies_of (items_view l.items) ≡ before l.all (dependencies_of (items_view (drop l.item-index l.items)))
