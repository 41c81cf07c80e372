-- Packages of a lockfile, read one after the other.
use Rattle.std.specs.Prelude.{◌≡◌, ℕ, List, [], ◌∷◌, Option, Some, Ok, ⊤}
use Rattle.toml.specs.Data.{Data, Items, no_items, item}
use Rattle.audit_lock.specs.Listed.{listed_of}
use Rattle.audit_lock.specs.Locked.{package_at}
use Rattle.audit_lock.specs.Naming.{each_place}
use Rattle.audit_lock.specs.declared.listed.ListedPackage.{ListedPackage}
use Rattle.audit_lock.specs.declared.resolving.Package.{Package}

-- these values as a TOML array
abbrev pub array_of : List Data → Items
array_of [] = no_items
array_of (d ∷ ds) = item d (array_of ds)

-- each value is the package at its place
abbrev pub AreListed : List Data → List ListedPackage → Type 0
AreListed [] [] = ⊤
AreListed (d ∷ ds) (p ∷ ps) = (listed_of d ≡ Ok p) × AreListed ds ps
AreListed _ _ = ⊥

-- at each package's place is the list of the places of its dependencies
abbrev pub ArePlaced : (List ℕ → Option ℕ) → List ListedPackage → List (List ℕ) → Type 0
ArePlaced place [] [] = ⊤
ArePlaced place (p ∷ ps) (at ∷ ats) =
    (each_place place p.dependencies ≡ Some at) × ArePlaced place ps ats
ArePlaced place _ _ = ⊥

-- each package with the places at its place
abbrev pub packages_at : List ListedPackage → List (List ℕ) → List Package
packages_at (p ∷ ps) (at ∷ ats) = package_at p at ∷ packages_at ps ats
packages_at _ _ = []
