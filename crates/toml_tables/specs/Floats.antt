-- Floats in a TOML value, at any depth (TOML, "Float").
use Rattle.std.specs.Prelude.{Bool, true, false, ◌||◌}
use Rattle.toml.specs.Data.{Data, float, array, table, Items, no_items, item, Members, no_members, member}

abbrev mutual
  pub has_float : Data → Bool
  has_float (float x) = true
  has_float (array ds) = items_have_float ds
  has_float (table ms) = members_have_float ms
  has_float _ = false

  pub items_have_float : Items → Bool
  items_have_float no_items = false
  items_have_float (item d ds) = has_float d || items_have_float ds

  pub members_have_float : Members → Bool
  members_have_float no_members = false
  members_have_float (member k d ms) = has_float d || members_have_float ms
