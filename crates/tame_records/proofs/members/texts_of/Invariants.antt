use Rattle.std.proofs.Common.{◌≡◌, drop}
use Rattle.serde_json.specs.View.{items_view}
use Rattle.tame_records.specs.Members.{texts_of}
use Rattle.tame_records.proofs.Ahead.{before}
use Rattle.tame_records.proofs.members.texts_of.Given as goal

abbrev pub invariant-loop-item : goal.invariant-loop-item
invariant-loop-item l = texts_of (items_view l.items) ≡ before l.texts (texts_of (items_view (drop l.item-index l.items)))
