use Rattle.std.proofs.Common.{◌≡◌, drop}
use Rattle.toml.specs.View.{items_view}
use Rattle.toml_tables.specs.Members.{texts_in}
use Rattle.toml_tables.proofs.Ahead.{before}
use Rattle.toml_tables.proofs.members.texts_in.Given as goal

abbrev pub invariant-loop-item : goal.invariant-loop-item
invariant-loop-item l = texts_in (items_view l.items) ≡ before l.texts (texts_in (items_view (drop l.item-index l.items)))
