-- The inverse dependency trees of the packages of a name.
use Rattle.std.specs.Prelude.{ℕ, suc, List, [], ◌∷◌, ◌++◌, bytes_eq, if◌then◌else◌}
use Rattle.audit_lock.specs.Rendering.{rendering}
use Rattle.audit_lock.specs.declared.resolving.Package.{Package}

-- the trees of those that have the name among packages from a place on, one after the other
abbrev pub trees_from : List Package → List ℕ → ℕ → List Package → List ℕ
trees_from all name place [] = []
trees_from all name place (p ∷ ps) =
    (if bytes_eq p.name name then rendering all place else []) ++ trees_from all name (suc place) ps

abbrev pub trees_of : List ℕ → List Package → List ℕ
trees_of name packages = trees_from packages name 0 packages
