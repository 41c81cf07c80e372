-- Dependencies of a version in the index (Cargo Book, "Registry Index", JSON schema).
use Rattle.std.specs.Prelude.{ℕ, codes, List, [], ◌∷◌, bytes_eq, Option, Some, None, option_map, option_and_then, if◌then◌else◌}
use Rattle.serde_json.specs.Data.{Data, null, string, Items, no_items, item}
use Rattle.serde_json.specs.Find.{get, as_array}
use Rattle.tame_records.specs.Members.{text_at, text_or_null, flag_at, texts_at}
use Rattle.tame_records.specs.declared.dependencies.IndexDependency.{IndexDependency}
use Rattle.tame_records.specs.declared.dependencies.DependencyKind.{DependencyKind}
use Rattle.tame_records.specs.declared.dependencies.DependencyKind.TheVariants.{Normal, Dev, Build}

abbrev pub kind_named : List ℕ → Option DependencyKind
kind_named text =
    if bytes_eq text (codes "normal") then Some Normal
    else if bytes_eq text (codes "dev") then Some Dev
    else if bytes_eq text (codes "build") then Some Build
    else None

-- null or absent: a normal dependency
abbrev pub kind_of : Option Data → Option DependencyKind
kind_of None = Some Normal
kind_of (Some null) = Some Normal
kind_of (Some (string s)) = kind_named s
kind_of (Some _) = None

-- the dependency that an object is, member by member
abbrev pub dependency_of : Data → Option IndexDependency
dependency_of d =
    option_and_then (λ name. option_and_then
    (λ req. option_and_then
    (λ features. option_and_then
    (λ optional. option_and_then
    (λ default_features. option_and_then (λ target. option_and_then (λ kind. option_map (λ renamed.
    record {
      name = name;
      req = req;
      features = features;
      optional = optional;
      default_features = default_features;
      target = target;
      kind = kind;
      «package» = renamed;
    })
    (text_or_null (get (codes "package") d)))
    (kind_of (get (codes "kind") d)))
    (text_or_null (get (codes "target") d)))
    (flag_at (codes "default_features") d))
    (flag_at (codes "optional") d))
    (texts_at (codes "features") d))
    (text_at (codes "req") d))
    (text_at (codes "name") d)

abbrev pub dependencies_of : Items → Option (List IndexDependency)
dependencies_of no_items = Some []
dependencies_of (item d ds) =
    option_and_then (λ x. option_map (λ xs. x ∷ xs) (dependencies_of ds)) (dependency_of d)

-- a required array of dependencies
abbrev pub dependencies_at : List ℕ → Data → Option (List IndexDependency)
dependencies_at key d = option_and_then dependencies_of (option_and_then as_array (get key d))
