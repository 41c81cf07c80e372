-- The places of advisories in the order of the names they are about (this project).
use Rattle.std.specs.Prelude.{ℕ, List, [], Option, Some, None, Bool, true, false, slice_get, length, ◌≡◌, IsSortedByKey}
use Rattle.std.specs.List.{filter}
use Rattle.std.specs.Cmp.Lexicographic.{slice_cmp}
use Rattle.std.specs.Ordering.{nat_cmp, is_eq}
use Rattle.std.specs.declared.cmp.Ordering.{Ordering}
use Rattle.std.specs.declared.cmp.Ordering.TheVariants.{Less, Equal, Greater}
use Rattle.audit_advisory.specs.Places.{places_from}
use Rattle.audit_advisory.specs.declared.advisories.Advisory.{Advisory}

abbrev pub name_of : Option Advisory → List ℕ
name_of None = []
name_of (Some a) = a.metadata.«package»

-- the name that the advisory at a place is about
abbrev pub name_at : List Advisory → ℕ → List ℕ
name_at advisories place = name_of (slice_get advisories place)

-- it is this name
abbrev pub has_name : List Advisory → List ℕ → ℕ → Bool
has_name advisories name place = is_eq (slice_cmp nat_cmp (name_at advisories place) name)

-- a search goes on to the right of a name with this order; with `past`, of an equal one too
abbrev pub goes_on : Bool → Ordering → Bool
goes_on past Less = true
goes_on past Equal = past
goes_on past Greater = false

-- places in the order of their names; those of one name are complete, and in their own order
pub record IsByName (advisories : List Advisory) (places : List ℕ) : Type 0 where
  pub sorted : IsSortedByKey (name_at advisories) (slice_cmp nat_cmp) places
  pub same : (q : List ℕ) → filter (has_name advisories q) places
      ≡ filter (has_name advisories q) (places_from 0 advisories)
  pub long : length places ≡ length advisories
