-- The turns of a lockfile's packages, and the paths so far with the place of each (this project).
use Rattle.std.specs.Prelude.{◌≡◌, ℕ, List, [], ◌∷◌, ◌++◌, true, false, map, Option, Some, None, if◌then◌else◌}
use Rattle.std.specs.BTreeMap.{get_by_text}
use Rattle.tame_names.specs.Names.{path}
use Rattle.audit_lock.specs.declared.resolving.Package.{Package}
use Rattle.audit_core.specs.Paths.{is_among, is_default, place_in}
use Rattle.audit_core.specs.declared.planning.Planned.{Planned}
use Rattle.audit_core.specs.declared.planning.Planned.TheVariants.{Elsewhere, Nameless, Turn}
use Rattle.audit_core.specs.declared.planning.Places.{Places}

-- ---- plans

-- a package of another registry has no turn, one whose name has no path has no turn, and any other
-- has that of its path
abbrev pub IsPlanned : List (List ℕ) → Package → Planned → Type 0
IsPlanned paths p Elsewhere = is_default p ≡ false
IsPlanned paths p Nameless = (is_default p ≡ true) × (path p.name ≡ None)
IsPlanned paths p (Turn place) =
    (is_default p ≡ true) × (q : List ℕ) × (path p.name ≡ Some q) × (place_in paths q ≡ Some place)

abbrev pub ArePlanned : List (List ℕ) → List Package → List Planned → Type 0
ArePlanned paths [] [] = Unit {0}
ArePlanned paths (p ∷ ps) (t ∷ ts) = IsPlanned paths p t × ArePlanned paths ps ts
ArePlanned paths _ _ = ⊥

-- ---- the paths so far

-- the map has the place of each path, and nothing else; and each has its name
pub record AreAt (places : Places) : Type 0 where
  pub found : (q : List ℕ) → get_by_text places.map q ≡ place_in places.paths q
  pub named : map path places.names ≡ map (λ q. Some q) places.paths

abbrev pub IsPathOf : List ℕ → List ℕ → Type 0
IsPathOf name q = path name ≡ Some q

-- one more path, unless it is there
abbrev pub with_path : List (List ℕ) → List ℕ → List (List ℕ)
with_path qs q = if is_among q qs then qs else qs ++ q ∷ []

-- a path, if there is one
abbrev pub with_each : List (List ℕ) → Option (List ℕ) → List (List ℕ)
with_each qs None = qs
with_each qs (Some q) = with_path qs q
