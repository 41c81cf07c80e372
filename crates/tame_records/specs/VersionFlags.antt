-- What one pass over the tokens of a line finds. For private clauses.
use Rattle.std.specs.Prelude.{◌≡◌, ◌≤◌, ◌&&◌, ℕ, codes, List, [], ◌++◌, Bool, true, false, bytes_eq, is_some, Option, Some, option_and_then, unwrap_or, if◌then◌else◌}
use Rattle.json.specs.Token.{Token}
use Rattle.json.specs.Json as json
use Rattle.json.specs.Tree as tree
use Rattle.serde_json.specs.Data.{Data, Items, no_items, item, Members, no_members, member}
use Rattle.serde_json.specs.Read.{of_json, of_items, of_members}
use Rattle.serde_json.specs.Find.{get_member, as_str, as_bool, as_array, as_object}
use Rattle.serde_json.specs.Written.{has_float, items_have_float, members_have_float}
use Rattle.tame_records.specs.Dependencies.{dependency_of, dependencies_of, kind_of}
use Rattle.tame_records.specs.Members.{flag_or_false, lists_or_null, lists_with, u32_or_null, text_or_null, texts_of}
use Rattle.tame_records.specs.Record.{chksum_of_data}
use Rattle.tame_records.specs.declared.keys.VersionKey.{VersionKey}
use Rattle.tame_records.specs.declared.keys.VersionKey.TheVariants as key
use Rattle.tame_records.specs.declared.keys.DependencyKey.{DependencyKey}
use Rattle.tame_records.specs.declared.keys.DependencyKey.TheVariants as dependency
use Rattle.tame_records.specs.declared.keys.DependencySeen.{DependencySeen}

-- ---- tokens that begin with a value, and what follows it

-- the value reads as d, has no float, and nests at most n deep
pub record IsValue (n : ℕ) (old : List Token) (d : Data) (new : List Token) : Type 0 where
  pub value : json.Json
  pub tokens : old ≡ tree.json_tokens value ++ new
  pub reads : of_json value ≡ Some d
  pub shallow : tree.depth value ≤ n
  pub whole : has_float d ≡ false

-- the items up to the closing bracket
pub record AreItems (n : ℕ) (old : List Token) (ds : Items) (new : List Token) : Type 0 where
  pub values : json.Items
  pub tokens : old ≡ tree.items_tokens values ++ new
  pub reads : of_items values ≡ Some ds
  pub shallow : tree.items_depth values ≤ n
  pub whole : items_have_float ds ≡ false

-- the members up to the closing brace, added at their names after those found
pub record AreMembers (n : ℕ) (old : List Token) (found : Members) (ms : Members)
    (new : List Token) : Type 0 where
  pub values : json.Members
  pub tokens : old ≡ tree.members_tokens values ++ new
  pub reads : of_members values found ≡ Some ms
  pub shallow : tree.members_depth values ≤ n

abbrev pub all_items : (Data → Bool) → Items → Bool
all_items f no_items = true
all_items f (item d ds) = f d && all_items f ds

abbrev pub all_members : (List ℕ → Data → Bool) → Members → Bool
all_members f no_members = true
all_members f (member k d ms) = f k d && all_members f ms

-- a value of this form comes first
abbrev pub Takes : ℕ → (Data → Bool) → List Token → List Token → Type 0
Takes n form old new = (d : Data) × IsValue n old d new × (form d ≡ true)

abbrev pub TakesItems : ℕ → (Data → Bool) → List Token → List Token → Type 0
TakesItems n form old new = (ds : Items) × AreItems n old ds new × (all_items form ds ≡ true)

-- ---- forms of members

abbrev pub is_any : Data → Bool
is_any d = true

abbrev pub is_text : Data → Bool
is_text d = is_some (as_str d)

abbrev pub is_flag : Data → Bool
is_flag d = is_some (as_bool d)

abbrev pub is_text_or_null : Data → Bool
is_text_or_null d = is_some (text_or_null (Some d))

abbrev pub is_u32_or_null : Data → Bool
is_u32_or_null d = is_some (u32_or_null (Some d))

abbrev pub is_kind : Data → Bool
is_kind d = is_some (kind_of (Some d))

abbrev pub is_digest : Data → Bool
is_digest d = is_some (chksum_of_data (Some d))

abbrev pub are_texts : Data → Bool
are_texts d = is_some (option_and_then texts_of (as_array d))

abbrev pub are_lists : Data → Bool
are_lists d = is_some (option_and_then (lists_with []) (as_object d))

abbrev pub are_lists_or_null : Data → Bool
are_lists_or_null d = is_some (lists_or_null (Some d))

abbrev pub is_dependency : Data → Bool
is_dependency d = is_some (dependency_of d)

abbrev pub are_dependencies : Data → Bool
are_dependencies d = is_some (option_and_then dependencies_of (as_array d))

-- ---- members by their names

abbrev pub version_key : List ℕ → VersionKey
version_key k =
    if bytes_eq k (codes "name") then key.Name
    else if bytes_eq k (codes "vers") then key.Version
    else if bytes_eq k (codes "deps") then key.Deps
    else if bytes_eq k (codes "cksum") then key.Checksum
    else if bytes_eq k (codes "features") then key.Features
    else if bytes_eq k (codes "yanked") then key.Yanked
    else if bytes_eq k (codes "links") then key.Text
    else if bytes_eq k (codes "rust_version") then key.Text
    else if bytes_eq k (codes "pubtime") then key.Text
    else if bytes_eq k (codes "features2") then key.Features2
    else if bytes_eq k (codes "v") then key.Number
    else key.Other

abbrev pub version_key_fits : VersionKey → Data → Bool
version_key_fits key.Name d = is_text d
version_key_fits key.Version d = is_text d
version_key_fits key.Deps d = are_dependencies d
version_key_fits key.Checksum d = is_digest d
version_key_fits key.Features d = are_lists d
version_key_fits key.Features2 d = are_lists_or_null d
version_key_fits key.Yanked d = is_flag d
version_key_fits key.Text d = is_text_or_null d
version_key_fits key.Number d = is_u32_or_null d
version_key_fits key.Other d = true

abbrev pub dependency_key : List ℕ → DependencyKey
dependency_key k =
    if bytes_eq k (codes "name") then dependency.Name
    else if bytes_eq k (codes "req") then dependency.Req
    else if bytes_eq k (codes "features") then dependency.Features
    else if bytes_eq k (codes "optional") then dependency.Optional
    else if bytes_eq k (codes "default_features") then dependency.DefaultFeatures
    else if bytes_eq k (codes "target") then dependency.Text
    else if bytes_eq k (codes "package") then dependency.Text
    else if bytes_eq k (codes "kind") then dependency.Kind
    else dependency.Other

abbrev pub dependency_key_fits : DependencyKey → Data → Bool
dependency_key_fits dependency.Name d = is_text d
dependency_key_fits dependency.Req d = is_text d
dependency_key_fits dependency.Features d = are_texts d
dependency_key_fits dependency.Optional d = is_flag d
dependency_key_fits dependency.DefaultFeatures d = is_flag d
dependency_key_fits dependency.Text d = is_text_or_null d
dependency_key_fits dependency.Kind d = is_kind d
dependency_key_fits dependency.Other d = true

-- ---- what was seen of the members found

abbrev pub Has : List ℕ → Members → Type 0
Has k ms = is_some (get_member k ms) ≡ true

abbrev pub with_dependency_key : DependencyKey → DependencySeen → DependencySeen
with_dependency_key dependency.Name s = record s { name = true }
with_dependency_key dependency.Req s = record s { req = true }
with_dependency_key dependency.Features s = record s { features = true }
with_dependency_key dependency.Optional s = record s { optional = true }
with_dependency_key dependency.DefaultFeatures s = record s { default_features = true }
with_dependency_key dependency.Text s = s
with_dependency_key dependency.Kind s = s
with_dependency_key dependency.Other s = s

pub record KnowsDependency (found : Members) (s : DependencySeen) : Type 0 where
  pub fits : all_members (λ k d. dependency_key_fits (dependency_key k) d) found ≡ true
  pub whole : members_have_float found ≡ false
  pub name : s.name ≡ true → Has (codes "name") found
  pub req : s.req ≡ true → Has (codes "req") found
  pub features : s.features ≡ true → Has (codes "features") found
  pub optional : s.optional ≡ true → Has (codes "optional") found
  pub default_features : s.default_features ≡ true → Has (codes "default_features") found

pub record Seen : Type 0 where
  pub name : Bool
  pub version : Option (List ℕ)
  pub deps : Bool
  pub checksum : Bool
  pub features : Bool
  pub yanked : Bool

abbrev pub with_version_key : VersionKey → Data → Seen → Seen
with_version_key key.Name d s = record s { name = true }
with_version_key key.Version d s = record s { version = as_str d }
with_version_key key.Deps d s = record s { deps = true }
with_version_key key.Checksum d s = record s { checksum = true }
with_version_key key.Features d s = record s { features = true }
with_version_key key.Features2 d s = s
with_version_key key.Yanked d s = record s { yanked = unwrap_or (as_bool d) s.yanked }
with_version_key key.Text d s = s
with_version_key key.Number d s = s
with_version_key key.Other d s = s

pub record KnowsVersion (found : Members) (s : Seen) : Type 0 where
  pub fits : all_members (λ k d. version_key_fits (version_key k) d) found ≡ true
  pub whole : members_have_float found ≡ false
  pub name : s.name ≡ true → Has (codes "name") found
  pub version : s.version ≡ option_and_then as_str (get_member (codes "vers") found)
  pub deps : s.deps ≡ true → Has (codes "deps") found
  pub checksum : s.checksum ≡ true → Has (codes "cksum") found
  pub features : s.features ≡ true → Has (codes "features") found
  pub yanked : flag_or_false (get_member (codes "yanked") found) ≡ Some s.yanked
