use Rattle.std.proofs.Common.{◌≡◌, drop}
use Rattle.toml.specs.View.{items_view, members_view}
use Rattle.toml_tables.specs.Floats.{items_have_float, members_have_float}
use Rattle.toml_tables.proofs.floats.+floats.Given as goal

-- what is left decides
abbrev pub invariant-items_have_float-loop-item : goal.invariant-items_have_float-loop-item
invariant-items_have_float-loop-item l =
    items_have_float (items_view l.item-items) ≡ items_have_float (items_view (drop l.item-index l.item-items))

abbrev pub invariant-table_has_float-loop-member : goal.invariant-table_has_float-loop-member
invariant-table_has_float-loop-member l =
    members_have_float (members_view l.table.entries) ≡ members_have_float (members_view l.member-iterator)
