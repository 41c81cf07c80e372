-- A written line reads as the version that wrote it.
use Rattle.std.proofs.Common.{◌≡◌, ℕ, ◌≤◌, List, [], ◌∷◌, ◌++◌, false, Option, Some, None, option_map, codes, refl, sym, ap, ◌∙◌, arith, append-nil, IsUtf8}
use Rattle.std.specs.Prelude.{option_and_then}
use Rattle.hex.specs.Hex.{encode_lower}
use Rattle.json.specs.Json as json
use Rattle.json.specs.Lex.{tokens}
use Rattle.json.specs.Tree as tree
use Rattle.json.proofs.Printed.Trees.{value-json_tokens}
use Rattle.serde_json.specs.Data.{Data, null, boolean, string, array, object, Items, no_items, item, Members, no_members, put}
use Rattle.serde_json.specs.Find.{get}
use Rattle.serde_json.specs.Read.{of_json, of_items, of_members, read, max_depth}
use Rattle.serde_json.specs.Written.{has_float, items_have_float}
use Rattle.tame_names.proofs.Utf8Lemmas.{utf8_text-utf8}
use Rattle.tame_records.specs.Dependencies.{dependency_of, dependencies_of, kind_of}
use Rattle.tame_records.specs.Members.{lists_or_null, u32_or_null, text_or_null}
use Rattle.tame_records.specs.Record.{record_of, record_of_data, unless_float}
use Rattle.tame_records.specs.Written.{HasForm, dependencies_tree, dependency_tree, kind_text, later_members, line, number_if, text_if, text_or_null_tree, version_tree}
use Rattle.tame_records.specs.declared.dependencies.DependencyKind.{DependencyKind}
use Rattle.tame_records.specs.declared.dependencies.DependencyKind.TheVariants.{Normal, Dev, Build}
use Rattle.tame_records.specs.declared.dependencies.IndexDependency.{IndexDependency}
use Rattle.tame_records.specs.declared.versions.IndexVersion.{IndexVersion}
use Rattle.tame_records.proofs.ReadBack.{Entry, built, features_data, features_data_back, features_data_whole, found_built, last_at, lists_back, lists_data, lists_if_read, lists_if_shallow, lists_read, lists_shallow, lists_whole, number_data, number_data_back, number_data_whole, number_if_read, number_if_shallow, put_if, text_data, text_data_back, text_data_whole, text_if_read, text_if_shallow, texts_back, texts_data, texts_read, texts_shallow, texts_whole, whole_built}

-- ---- a dependency

abbrev target_data : Option (List ℕ) → Data
target_data None = null
target_data (Some t) = string t

target_read : (o : Option (List ℕ)) → of_json (text_or_null_tree o) ≡ Some (target_data o)
target_read None = refl
target_read (Some t) = refl

target_back : (o : Option (List ℕ)) → text_or_null (Some (target_data o)) ≡ Some o
target_back None = refl
target_back (Some t) = refl

target_whole : (o : Option (List ℕ)) → has_float (target_data o) ≡ false
target_whole None = refl
target_whole (Some t) = refl

target_shallow : (o : Option (List ℕ)) → tree.depth (text_or_null_tree o) ≤ 0
target_shallow None = omega arith
target_shallow (Some t) = omega arith

kind_back : (k : DependencyKind) → kind_of (Some (string (kind_text k))) ≡ Some k
kind_back Normal = refl
kind_back Dev = refl
kind_back Build = refl

-- but the last
abbrev dependency_front : IndexDependency → List Entry
dependency_front d =
    (codes "name", Some (string d.name)) ∷ (codes "req", Some (string d.req)) ∷ (codes "features", Some (array (texts_data d.features)))
    ∷ (codes "optional", Some (boolean d.optional)) ∷ (codes "default_features", Some (boolean d.default_features)) ∷ (codes "target", Some (target_data d.target))
    ∷ (codes "kind", Some (string (kind_text d.kind))) ∷ []

abbrev dependency_entries : IndexDependency → List Entry
dependency_entries d = dependency_front d ++ (codes "package", text_data d.«package») ∷ []

abbrev dependency_data : IndexDependency → Data
dependency_data d = object (built no_members (dependency_entries d))

dependency_read : (d : IndexDependency) → of_json (dependency_tree d) ≡ Some (dependency_data d)
dependency_read d =
    let front : Members = built no_members (dependency_front d) in
    rw (texts_read d.features, target_read d.target) (ap (option_map object) (text_if_read (codes "package") d.«package» json.no_members front))

at_key : (key : List ℕ) (es : List Entry) → get key (object (built no_members es)) ≡ last_at key None es
at_key key es = found_built key es no_members

dependency_found : (x : Data) (d : IndexDependency) → get (codes "name") x ≡ Some (string d.name) → get (codes "req") x ≡ Some (string d.req) → get (codes "features") x ≡ Some (array (texts_data d.features))
    → get (codes "optional") x ≡ Some (boolean d.optional) → get (codes "default_features") x ≡ Some (boolean d.default_features) → text_or_null (get (codes "target") x) ≡ Some d.target
    → kind_of (get (codes "kind") x) ≡ Some d.kind → text_or_null (get (codes "package") x) ≡ Some d.«package» → dependency_of x ≡ Some d
dependency_found x d name req features optional defaults target kind renamed =
    rw (name, req, features, optional, defaults, target, kind, renamed, texts_back d.features) refl

dependency_back : (d : IndexDependency) → dependency_of (dependency_data d) ≡ Some d
dependency_back d =
    let es = dependency_entries d in
    dependency_found (dependency_data d) d (at_key (codes "name") es) (at_key (codes "req") es) (at_key (codes "features") es) (at_key (codes "optional") es) (at_key (codes "default_features") es)
    (ap text_or_null (at_key (codes "target") es) ∙ target_back d.target) (ap kind_of (at_key (codes "kind") es) ∙ kind_back d.kind) (ap text_or_null (at_key (codes "package") es) ∙ text_data_back d.«package»)

dependency_whole : (d : IndexDependency) → has_float (dependency_data d) ≡ false
dependency_whole d =
    whole_built (dependency_entries d) no_members (refl, (refl, (texts_whole d.features, (refl, (refl, (target_whole d.target, (refl, (text_data_whole d.«package», tt)))))))) refl

dependency_shallow : (d : IndexDependency) → tree.depth (dependency_tree d) ≤ 2
dependency_shallow d = omega (arith, texts_shallow d.features, target_shallow d.target, text_if_shallow (codes "package") d.«package» json.no_members)

abbrev dependencies_data : List IndexDependency → Items
dependencies_data [] = no_items
dependencies_data (d ∷ ds) = item (dependency_data d) (dependencies_data ds)

dependencies_read : (ds : List IndexDependency) → of_items (dependencies_tree ds) ≡ Some (dependencies_data ds)
dependencies_read [] = refl
dependencies_read (d ∷ ds) = rw (dependency_read d) (ap (option_map (item (dependency_data d))) (dependencies_read ds))

dependencies_back : (ds : List IndexDependency) → dependencies_of (dependencies_data ds) ≡ Some ds
dependencies_back [] = refl
dependencies_back (d ∷ ds) = rw (dependency_back d) (ap (option_map (λ (xs : List IndexDependency). d ∷ xs)) (dependencies_back ds))

dependencies_whole : (ds : List IndexDependency) → items_have_float (dependencies_data ds) ≡ false
dependencies_whole [] = refl
dependencies_whole (d ∷ ds) = rw (dependency_whole d) (dependencies_whole ds)

dependencies_shallow : (ds : List IndexDependency) → tree.items_depth (dependencies_tree ds) ≤ 2
dependencies_shallow [] = omega arith
dependencies_shallow (d ∷ ds) = omega (arith, dependency_shallow d, dependencies_shallow ds)

-- ---- a version

-- up to the features
abbrev version_front : IndexVersion → List Entry
version_front v =
    (codes "name", Some (string v.name)) ∷ (codes "vers", Some (string v.version)) ∷ (codes "deps", Some (array (dependencies_data v.deps)))
    ∷ (codes "cksum", Some (string (encode_lower v.checksum.0))) ∷ (codes "features", Some (object (lists_data v.features))) ∷ []

abbrev version_entries : IndexVersion → List Entry
version_entries v =
    version_front v ++ (codes "features2", features_data v.features2) ∷ (codes "yanked", Some (boolean v.yanked)) ∷ (codes "links", text_data v.links)
    ∷ (codes "rust_version", text_data v.rust_version) ∷ (codes "pubtime", text_data v.pubtime) ∷ (codes "v", number_data v.v) ∷ []

abbrev version_data : IndexVersion → Data
version_data v = object (built no_members (version_entries v))

-- the members from a name on
abbrev from_number : IndexVersion → json.Members
from_number v = number_if (codes "v") v.v json.no_members

abbrev from_pubtime : IndexVersion → json.Members
from_pubtime v = text_if (codes "pubtime") v.pubtime (from_number v)

abbrev from_rust_version : IndexVersion → json.Members
from_rust_version v = text_if (codes "rust_version") v.rust_version (from_pubtime v)

abbrev from_links : IndexVersion → json.Members
from_links v = text_if (codes "links") v.links (from_rust_version v)

abbrev from_yanked : IndexVersion → json.Members
from_yanked v = json.member (codes "yanked") (json.boolean v.yanked) (from_links v)

later_read : (v : IndexVersion) (ms : Members) → HasForm v → of_members (later_members v) ms ≡ Some (built ms ((codes "features2", features_data v.features2) ∷ (codes "yanked", Some (boolean v.yanked)) ∷ (codes "links", text_data v.links)
    ∷ (codes "rust_version", text_data v.rust_version) ∷ (codes "pubtime", text_data v.pubtime) ∷ (codes "v", number_data v.v) ∷ []))
later_read v ms form =
    let yanked : Members = put (codes "yanked") (boolean v.yanked) (put_if (codes "features2") (features_data v.features2) ms) in
    let links : Members = put_if (codes "links") (text_data v.links) yanked in
    let rust : Members = put_if (codes "rust_version") (text_data v.rust_version) links in
    let pubtime : Members = put_if (codes "pubtime") (text_data v.pubtime) rust in
    lists_if_read (codes "features2") v.features2 (from_yanked v) ms form.features2
    ∙ text_if_read (codes "links") v.links (from_rust_version v) yanked ∙ text_if_read (codes "rust_version") v.rust_version (from_pubtime v) links
    ∙ text_if_read (codes "pubtime") v.pubtime (from_number v) rust ∙ number_if_read (codes "v") v.v json.no_members pubtime form.number

version_read : (v : IndexVersion) → HasForm v → of_json (version_tree v) ≡ Some (version_data v)
version_read v form =
    rw (dependencies_read v.deps, lists_read [] v.features form.features) (ap (option_map object) (later_read v (built no_members (version_front v)) form))

version_whole : (v : IndexVersion) → has_float (version_data v) ≡ false
version_whole v =
    whole_built (version_entries v) no_members (
      refl,
      (
        refl,
        (
          dependencies_whole v.deps,
          (
            refl,
            (
              lists_whole v.features,
              (
                features_data_whole v.features2,
                (
                  refl,
                  (text_data_whole v.links, (text_data_whole v.rust_version, (text_data_whole v.pubtime, (number_data_whole v.v, tt)))),
                ),
              ),
            ),
          ),
        ),
      ),
    ) refl

version_shallow : (v : IndexVersion) → tree.depth (version_tree v) ≤ 4
version_shallow v =
    omega (
      arith,
      dependencies_shallow v.deps,
      lists_shallow v.features,
      lists_if_shallow (codes "features2") v.features2 (from_yanked v),
      text_if_shallow (codes "links") v.links (from_rust_version v),
      text_if_shallow (codes "rust_version") v.rust_version (from_pubtime v),
      text_if_shallow (codes "pubtime") v.pubtime (from_number v),
      number_if_shallow (codes "v") v.v json.no_members,
    )

version_found : (x : Data) (v : IndexVersion) → HasForm v → get (codes "name") x ≡ Some (string v.name) → get (codes "vers") x ≡ Some (string v.version) → get (codes "deps") x ≡ Some (array (dependencies_data v.deps))
    → get (codes "cksum") x ≡ Some (string (encode_lower v.checksum.0)) → get (codes "features") x ≡ Some (object (lists_data v.features)) → lists_or_null (get (codes "features2") x) ≡ Some v.features2
    → get (codes "yanked") x ≡ Some (boolean v.yanked) → text_or_null (get (codes "links") x) ≡ Some v.links → text_or_null (get (codes "rust_version") x) ≡ Some v.rust_version
    → text_or_null (get (codes "pubtime") x) ≡ Some v.pubtime → u32_or_null (get (codes "v") x) ≡ Some v.v → record_of_data x ≡ Some v
version_found x v form name version deps digits features features2 yanked links rust_version pubtime held =
    rw (name, version, deps, digits, features, features2, yanked, links, rust_version, pubtime, held, dependencies_back v.deps, form.digits, lists_back [] v.features form.features) refl

version_back : (v : IndexVersion) → HasForm v → record_of_data (version_data v) ≡ Some v
version_back v form =
    let es = version_entries v in
    version_found (version_data v) v form (at_key (codes "name") es) (at_key (codes "vers") es) (at_key (codes "deps") es) (at_key (codes "cksum") es) (at_key (codes "features") es)
    (ap lists_or_null (at_key (codes "features2") es) ∙ features_data_back v.features2 form.features2) (at_key (codes "yanked") es)
    (ap text_or_null (at_key (codes "links") es) ∙ text_data_back v.links) (ap text_or_null (at_key (codes "rust_version") es) ∙ text_data_back v.rust_version)
    (ap text_or_null (at_key (codes "pubtime") es) ∙ text_data_back v.pubtime) (ap u32_or_null (at_key (codes "v") es) ∙ number_data_back v.v form.number)

-- the line of a version has that version as its record
pub reads_back : (v : IndexVersion) → HasForm v → IsUtf8 (line v) → tokens (line v) ≡ tree.json_tokens (version_tree v) → record_of (line v) ≡ Some v
reads_back v form utf8 same =
    let whole : json.value max_depth (tokens (line v)) ≡ Some (version_tree v, []) =
    ap (json.value max_depth) (same ∙ sym (append-nil _)) ∙ value-json_tokens (version_tree v) max_depth [] (omega (arith, version_shallow v)) in
    let value : read (line v) ≡ Some (version_data v) =
    ap (λ o. option_and_then of_json (option_and_then (λ p. json.if_last p.0 p.1) o)) whole ∙ version_read v form in
    let no_float : unless_float (version_data v) ≡ Some (version_data v) = rw (version_whole v) refl in
    ap (λ o. option_and_then record_of_data (option_and_then unless_float (option_and_then read o))) (utf8_text-utf8 (line v) utf8)
    ∙ ap (λ o. option_and_then record_of_data (option_and_then unless_float o)) value
    ∙ ap (option_and_then record_of_data) no_float ∙ version_back v form
