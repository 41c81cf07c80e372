-- Which packages depend on which.
use Rattle.std.specs.Prelude.{ℕ, List, [], ◌∷◌, length, map, get_or, Bool, false, ◌||◌, ◌==◌}
use Rattle.std.specs.List.{filter, range_with_len}
use Rattle.audit_lock.specs.declared.resolving.Package.{Package}

-- whether a place is among these
abbrev pub is_among : ℕ → List ℕ → Bool
is_among place [] = false
is_among place (p ∷ ps) = (p == place) || is_among place ps

-- the places that a package depends on
abbrev pub dependencies_at : List Package → ℕ → List ℕ
dependencies_at packages place = get_or (map (λ p. p.dependencies) packages) place []

-- whether the package at the last place depends on this one
abbrev pub depends_on : List Package → ℕ → ℕ → Bool
depends_on packages place other = is_among place (dependencies_at packages other)

-- the packages before a place that depend on this one, in lockfile order
abbrev pub parents_before : List Package → ℕ → ℕ → List ℕ
parents_before packages end place = filter (depends_on packages place) (range_with_len 0 end)

-- the packages that depend on this one, in lockfile order
abbrev pub parents_of : List Package → ℕ → List ℕ
parents_of packages place = parents_before packages (length packages) place

-- the parents of each package
abbrev pub tree_of : List Package → List (List ℕ)
tree_of packages = map (parents_of packages) (range_with_len 0 (length packages))

-- the parents that a tree has at a place
abbrev pub parents_at : List (List ℕ) → ℕ → List ℕ
parents_at tree place = get_or tree place []
