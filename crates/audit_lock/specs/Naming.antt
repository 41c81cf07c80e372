-- The strings by which dependencies name packages.
use Rattle.std.specs.Prelude.{ℕ, codes, List, [], ◌∷◌, ◌++◌, Bool, false, ◌||◌, ◌==◌, bytes_eq, Option, Some, None, option_map, option_and_then, if◌then◌else◌}
use Rattle.std.specs.List.{before_first, position_from}
use Rattle.audit_lock.specs.declared.listed.ListedPackage.{ListedPackage}

abbrev pub name_and_version : ListedPackage → List ℕ
name_and_version p = p.name ++ codes " " ++ p.version

-- name, version and a source in parentheses
abbrev pub full_name : ListedPackage → List ℕ → List ℕ
full_name p source = p.name ++ codes " " ++ p.version ++ codes " (" ++ source ++ codes ")"

-- what is before the first `#`
abbrev pub before_hash : List ℕ → List ℕ
before_hash source = before_first (λ c. c == 35) source

-- the source is named whole, or by the part before its first `#`
abbrev pub names_source : ListedPackage → Option (List ℕ) → List ℕ → Bool
names_source p None text = false
names_source p (Some source) text =
    bytes_eq (full_name p source) text || bytes_eq (full_name p (before_hash source)) text

-- a string names a package: it is `name`, `name version` or `name version (source)`
abbrev pub names_it : List ℕ → ListedPackage → Bool
names_it text p =
    bytes_eq p.name text || bytes_eq (name_and_version p) text || names_source p p.source text

-- the place of the first package that a string names
abbrev pub place_of : List ListedPackage → List ℕ → Option ℕ
place_of packages text = position_from (names_it text) 0 packages

-- the place of each string, if each has one
abbrev pub each_place : (List ℕ → Option ℕ) → List (List ℕ) → Option (List ℕ)
each_place place [] = Some []
each_place place (text ∷ texts) =
    option_and_then (λ p. option_map (λ ps. p ∷ ps) (each_place place texts)) (place text)

-- this place, if the string is this name; below, if it names this package
abbrev pub at_name : List ℕ → ℕ → List ℕ → Option ℕ
at_name name place text = if bytes_eq name text then Some place else None

abbrev pub named_at : ListedPackage → ℕ → List ℕ → Option ℕ
named_at p place text = if names_it text p then Some place else None
