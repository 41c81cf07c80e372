-- Which paths an audit asks for (this project).
use Rattle.std.specs.Prelude.{ℕ, List, [], ◌∷◌, ◌++◌, Bool, bytes_eq, filter, Option, Some, None, if◌then◌else◌}
use Rattle.std.specs.List.{enumerate_from, filter_map, list_any, position_from}
use Rattle.tame_names.specs.Names.{path}
pub use Rattle.audit_lock.specs.Defaults.{is_default}
use Rattle.audit_lock.specs.declared.resolving.Package.{Package}

-- the packages of the default registry, with their places
abbrev pub defaults : List Package → List (ℕ × Package)
defaults packages = filter (λ p. is_default p.1) (enumerate_from 0 packages)

-- the path of a package of the default registry, if its name has one
abbrev pub default_path : Package → Option (List ℕ)
default_path p = if is_default p then path p.name else None

abbrev pub default_paths : List Package → List (List ℕ)
default_paths packages = filter_map default_path packages

abbrev pub is_among : List ℕ → List (List ℕ) → Bool
is_among q qs = list_any (λ p. bytes_eq p q) qs

-- each path once, at its first place; a law says what the list is
abbrev pub distinct_after : List (List ℕ) → List (List ℕ) → List (List ℕ)
distinct_after seen [] = []
distinct_after seen (q ∷ qs) =
    if is_among q seen then distinct_after seen qs else q ∷ distinct_after (seen ++ q ∷ []) qs

-- the paths that are asked for: each distinct path of these packages, in the order of their first
-- packages
abbrev pub asked_paths : List Package → List (List ℕ)
asked_paths packages = distinct_after [] (default_paths packages)

-- the place of a path among paths
abbrev pub place_in : List (List ℕ) → List ℕ → Option ℕ
place_in qs q = position_from (λ p. bytes_eq p q) 0 qs
