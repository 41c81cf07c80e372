-- Which packages of a lockfile go into a registry (this project).
use Rattle.std.specs.Prelude.{◌≡◌, ◌≤◌, ℕ, ◌+◌, List, [], ◌∷◌, Bool, true, false, ◌==◌, ◌&&◌, bytes_eq, filter, Option, Some, None}
use Rattle.std.specs.List.{AllByRecursion, enumerate_from, list_any, position_from, slice_get}
use Rattle.std.specs.declared.cmp.Ordering.{Ordering}
use Rattle.std.specs.Ordering.{nat_cmp, ordering_then}
use Rattle.std.specs.Cmp.Lexicographic.{slice_cmp}
use Rattle.audit_core.specs.Paths.{is_default}
use Rattle.audit_lock.specs.declared.resolving.Package.{Package}
use Rattle.vendor_registry.specs.declared.looking.Pair.{Pair}

-- a package of the default registry with the name and the version of another, by their bytes
abbrev pub stands_for : Package → Package → Bool
stands_for p other =
    is_default other && bytes_eq other.name p.name && bytes_eq other.version p.version

-- the first place of such a package
abbrev pub first_place : List Package → Package → Option ℕ
first_place packages p = position_from (stands_for p) 0 packages

abbrev pub is_place : ℕ → Option ℕ → Bool
is_place place None = false
is_place place (Some first) = first == place

-- a package of the default registry that is at the first place of its name and version
abbrev pub is_looked : List Package → ℕ × Package → Bool
is_looked packages p = is_default p.1 && is_place p.0 (first_place packages p.1)

-- the packages that are looked at, with their places, in the lockfile's order: those of the default
-- registry, each pair of name and version once
abbrev pub looked : List Package → List (ℕ × Package)
looked packages = filter (is_looked packages) (enumerate_from 0 packages)

-- ---- the pairs so far

abbrev pub pair_of : List ℕ → List ℕ → Pair
pair_of name version = record { name = name; version = version }

-- by name, and then by version
abbrev pub pair_cmp : Pair → Pair → Ordering
pair_cmp a b =
    ordering_then (slice_cmp nat_cmp a.name b.name) (slice_cmp nat_cmp a.version b.version)

-- the pair of a package
abbrev pub is_pair : Package → Pair → Bool
is_pair p pair = bytes_eq pair.name p.name && bytes_eq pair.version p.version

-- these are the pairs of the packages of the default registry among those before
abbrev pub HasPairs : List Pair → List Package → Type 0
HasPairs pairs front = (p : Package) → list_any (is_pair p) pairs ≡ list_any (stands_for p) front

-- ---- which packages these are

-- packages that are in a lockfile at their places, in its order, from a place on
abbrev pub AreInOrder : List Package → ℕ → List (ℕ × Package) → Type 0
AreInOrder packages from [] = Unit {0}
AreInOrder packages from (p ∷ ps) =
    (from ≤ p.0) × (slice_get packages p.0 ≡ Some p.1) × AreInOrder packages (p.0 + 1) ps

-- a package has the name and the version of another
abbrev pub is_alike : Package → Package → Bool
is_alike p other = bytes_eq other.name p.name && bytes_eq other.version p.version

abbrev pub has_alike : Package → List (ℕ × Package) → Bool
has_alike p others = list_any (λ other. is_alike p other.1) others

-- no two have the same name and version
abbrev pub AreUnlike : List (ℕ × Package) → Type 0
AreUnlike [] = Unit {0}
AreUnlike (p ∷ ps) = (has_alike p.1 ps ≡ false) × AreUnlike ps

-- these are of the default registry, in the lockfile's order, each pair of name and version once,
-- and the pair of every package of the default registry is among them
pub record AreEachPair (packages : List Package) (found : List (ℕ × Package)) : Type 0 where
  pub default : AllByRecursion (λ p. is_default p.1 ≡ true) found
  pub order : AreInOrder packages 0 found
  pub once : AreUnlike found
  pub every : AllByRecursion (λ p. is_default p ≡ true → has_alike p found ≡ true) packages
