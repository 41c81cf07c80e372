-- The first in byte order of two lists, one after the other.
use Rattle.std.proofs.Common.{◌≡◌, ℕ, List, [], ◌∷◌, ◌++◌, Option, Some, refl}
use Rattle.audit_settings.specs.Unknown.{earlier, noted}

pub noted_append : (first : Option (List ℕ)) (xs ys : List (List ℕ)) → noted first (xs ++ ys) ≡ noted (noted first xs) ys
noted_append first [] ys = refl
noted_append first (x ∷ xs) ys = noted_append (Some (earlier first x)) xs ys
