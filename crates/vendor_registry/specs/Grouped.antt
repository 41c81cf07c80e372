-- What was checked, by the paths of the index (this project).
use Rattle.std.specs.Prelude.{◌≡◌, ℕ, List, [], unwrap_or, String}
use Rattle.std.specs.BTreeMap.{BTreeMap, get_by_text}
use Rattle.std.specs.declared.alloc.Global.{Global}
use Rattle.audit_core.specs.Paths.{is_among}
use Rattle.vendor_registry.specs.Vendored.{on}
use Rattle.vendor_registry.specs.declared.checks.CheckedCrate.{CheckedCrate}

-- what a map has for each path
abbrev pub Groups : Type 0
Groups = BTreeMap (String Global) (List CheckedCrate)

-- what it has for a path; nothing if the path isn't in it
abbrev pub group_at : Groups → List ℕ → List CheckedCrate
group_at groups q = unwrap_or (get_by_text groups q) []

-- it has for each path what is put there, in the lockfile's order
abbrev pub AreGroups : List CheckedCrate → Groups → Type 0
AreGroups cs groups = (q : List ℕ) → group_at groups q ≡ on q cs

-- a set has the paths of a list
abbrev pub HasPaths : List (List ℕ) → List (List ℕ) → Type 0
HasPaths keys qs = (q : List ℕ) → is_among q keys ≡ is_among q qs
