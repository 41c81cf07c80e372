-- The line that a version writes: the compact text of a JSON object with its members in this order
-- (RFC 8259; Cargo Book, "Registry Index", JSON schema).
use Rattle.std.specs.Prelude.{◌≡◌, ◌<◌, ◌^◌, ℕ, codes, decimal, List, [], ◌∷◌, ◌++◌, map, Option, Some, None, IfSome, Ok, flat_map}
use Rattle.std.specs.Cmp.Lexicographic.{slice_cmp}
use Rattle.std.specs.List.Sorted.{IsStrictlySortedBy}
use Rattle.std.specs.Ordering.{nat_cmp}
use Rattle.hex.specs.Hex.{encode_lower}
use Rattle.json.specs.Json.{Json, null, boolean, number, string, array, object, Items, no_items, item, Members, no_members, member}
use Rattle.json.specs.Print.{print}
use Rattle.json.specs.Tree.{json_tokens}
use Rattle.tame_records.specs.Checksums.{chksum_of}
use Rattle.tame_records.specs.Members.{Lists}
use Rattle.tame_records.specs.declared.dependencies.IndexDependency.{IndexDependency}
use Rattle.tame_records.specs.declared.dependencies.DependencyKind.{DependencyKind}
use Rattle.tame_records.specs.declared.dependencies.DependencyKind.TheVariants.{Normal, Dev, Build}
use Rattle.tame_records.specs.declared.versions.IndexVersion.{IndexVersion}

abbrev pub texts_tree : List (List ℕ) → Items
texts_tree [] = no_items
texts_tree (t ∷ ts) = item (string t) (texts_tree ts)

-- the lists of strings by their names, in the order that they have
abbrev pub lists_tree : Lists → Members
lists_tree [] = no_members
lists_tree (l ∷ ls) = member l.0 (array (texts_tree l.1)) (lists_tree ls)

-- ---- members that are there only if there is a value

abbrev pub text_if : List ℕ → Option (List ℕ) → Members → Members
text_if key None more = more
text_if key (Some t) more = member key (string t) more

abbrev pub lists_if : List ℕ → Option Lists → Members → Members
lists_if key None more = more
lists_if key (Some ls) more = member key (object (lists_tree ls)) more

abbrev pub number_if : List ℕ → Option ℕ → Members → Members
number_if key None more = more
number_if key (Some n) more = member key (number (decimal n)) more

-- ---- dependencies

abbrev pub text_or_null_tree : Option (List ℕ) → Json
text_or_null_tree None = null
text_or_null_tree (Some t) = string t

abbrev pub kind_text : DependencyKind → List ℕ
kind_text Normal = codes "normal"
kind_text Dev = codes "dev"
kind_text Build = codes "build"

abbrev pub dependency_tree : IndexDependency → Json
dependency_tree d =
    object (member (codes "name") (string d.name)
    (member (codes "req") (string d.req) (member (codes "features") (array (texts_tree d.features))
    (member (codes "optional") (boolean d.optional)
    (member (codes "default_features") (boolean d.default_features)
    (member (codes "target") (text_or_null_tree d.target)
    (member (codes "kind") (string (kind_text d.kind))
    (text_if (codes "package") d.«package» no_members))))))))

abbrev pub dependencies_tree : List IndexDependency → Items
dependencies_tree [] = no_items
dependencies_tree (d ∷ ds) = item (dependency_tree d) (dependencies_tree ds)

-- ---- versions

-- what follows the features
abbrev pub later_members : IndexVersion → Members
later_members v =
    lists_if (codes "features2") v.features2 (member (codes "yanked") (boolean v.yanked)
    (text_if (codes "links") v.links
    (text_if (codes "rust_version") v.rust_version
    (text_if (codes "pubtime") v.pubtime (number_if (codes "v") v.v no_members)))))

abbrev pub version_tree : IndexVersion → Json
version_tree v =
    object (member (codes "name") (string v.name)
    (member (codes "vers") (string v.version)
    (member (codes "deps") (array (dependencies_tree v.deps))
    (member (codes "cksum") (string (encode_lower v.checksum.0))
    (member (codes "features") (object (lists_tree v.features)) (later_members v))))))

-- the line of a version
abbrev pub line : IndexVersion → List ℕ
line v = print (json_tokens (version_tree v))

-- the lines of versions, each ended by a newline
abbrev pub json_lines : List IndexVersion → List ℕ
json_lines = flat_map (λ v. line v ++ 10 ∷ [])

-- ---- what every version has, by the types of its members

abbrev pub AreOrdered : Lists → Type 0
AreOrdered ls = IsStrictlySortedBy (slice_cmp nat_cmp) (map (λ l. l.0) ls)

-- the names of features ascend, the number has 32 bits, and the digest's digits parse to it
pub record HasForm (v : IndexVersion) : Type 0 where
  pub features : AreOrdered v.features
  pub features2 : IfSome v.features2 AreOrdered
  pub number : IfSome v.v (λ n. n < 2 ^ 32)
  pub digits : chksum_of (encode_lower v.checksum.0) ≡ Ok v.checksum
