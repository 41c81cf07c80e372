-- Forms of whole values, by the forms of their items and members.
use Rattle.std.proofs.Common.{◌≡◌, ℕ, List, [], ◌∷◌, codes, Bool, true, Option, Some, None, option_map, option_and_then, refl, sym, ap, ◌∙◌}
use Rattle.std.specs.Prelude.{is_some}
use Rattle.std.specs.BTreeMap.{insert_entry}
use Rattle.std.specs.Cmp.Lexicographic.{slice_cmp}
use Rattle.std.specs.Ordering.{nat_cmp}
use Rattle.std.proofs.lemmas.Bool.{and_parts}
use Rattle.serde_json.specs.Data.{Data, array, object, Items, no_items, item, Members, no_members, member}
use Rattle.serde_json.specs.Find.{get_member, as_str, as_bool, as_array, as_object}
use Rattle.tame_records.specs.Dependencies.{dependency_of, dependencies_of, kind_of}
use Rattle.tame_records.specs.VersionFlags.{KnowsVersion, KnowsDependency, Seen, version_key_fits, version_key, all_items, all_members, are_dependencies, are_lists, are_texts, is_dependency, is_text, dependency_key_fits, dependency_key}
use Rattle.tame_records.specs.Members.{Lists, flag_or_false, lists_with, lists_or_null, u32_or_null, text_or_null, texts_of}
use Rattle.tame_records.specs.Record.{chksum_of_data, version_flag, optional_of, record_of_data}
use Rattle.tame_records.specs.declared.checksums.Chksum.{Chksum}
use Rattle.tame_records.specs.declared.dependencies.DependencyKind.{DependencyKind}
use Rattle.tame_records.specs.declared.dependencies.IndexDependency.{IndexDependency}
use Rattle.tame_records.specs.declared.keys.DependencySeen.{DependencySeen}
use Rattle.tame_records.specs.declared.versions.IndexVersion.{IndexVersion}
use Rattle.tame_records.specs.declared.versions.OptionalMembers.{OptionalMembers}
use Rattle.tame_records.specs.declared.versions.VersionFlag.{VersionFlag}
use Rattle.tame_records.proofs.FlagMembers.{required, optional, found_fits}

both_some : {A B C : Type 0} (f : A → B → C) (o : Option A) (p : Option B) → is_some o ≡ true → is_some p ≡ true → is_some (option_and_then (λ a. option_map (f a) p) o) ≡ true
both_some f None p h k = h
both_some f (Some a) None h k = k
both_some f (Some a) (Some b) h k = refl

then_some : {A B : Type 0} (g : A → Option B) (o : Option A) → is_some o ≡ true → ((a : A) → is_some (g a) ≡ true) → is_some (option_and_then g o) ≡ true
then_some g None h k = h
then_some g (Some a) h k = k a

texts_some : (ds : Items) → all_items is_text ds ≡ true → is_some (texts_of ds) ≡ true
texts_some no_items h = refl
texts_some (item d ds) h =
    let both = and_parts (is_text d) (all_items is_text ds) h in
    both_some (λ (t : List ℕ) (ts : List (List ℕ)). t ∷ ts) (as_str d) (texts_of ds) both.0 (texts_some ds both.1)

pub texts_form : (ds : Items) → all_items is_text ds ≡ true → are_texts (array ds) ≡ true
texts_form ds h = texts_some ds h

dependencies_some : (ds : Items) → all_items is_dependency ds ≡ true → is_some (dependencies_of ds) ≡ true
dependencies_some no_items h = refl
dependencies_some (item d ds) h =
    let both = and_parts (is_dependency d) (all_items is_dependency ds) h in
    both_some (λ (x : IndexDependency) (xs : List IndexDependency). x ∷ xs) (dependency_of d) (dependencies_of ds) both.0 (dependencies_some ds both.1)

pub dependencies_form : (ds : Items) → all_items is_dependency ds ≡ true → are_dependencies (array ds) ≡ true
dependencies_form ds h = dependencies_some ds h

lists_some : (ls : Lists) (ms : Members) → all_members (λ k d. are_texts d) ms ≡ true → is_some (lists_with ls ms) ≡ true
lists_some ls no_members h = refl
lists_some ls (member k d ms) h =
    let both = and_parts (are_texts d) (all_members (λ k d. are_texts d) ms) h in
    then_some (λ (ts : List (List ℕ)). lists_with (insert_entry (slice_cmp nat_cmp) ls k ts) ms) (option_and_then texts_of (as_array d)) both.0
    (λ (ts : List (List ℕ)). lists_some (insert_entry (slice_cmp nat_cmp) ls k ts) ms both.1)

pub lists_form : (ms : Members) → all_members (λ k d. are_texts d) ms ≡ true → are_lists (object ms) ≡ true
lists_form ms h = lists_some [] ms h

mapped_some : {A B : Type 0} (f : A → B) (o : Option A) → is_some o ≡ true → is_some (option_map f o) ≡ true
mapped_some f None h = h
mapped_some f (Some a) h = refl

-- ---- a dependency

eight_some : {A B C D E F G H R : Type 0} (make : A → B → C → D → E → F → G → H → R) (a : Option A) (b : Option B) (c : Option C) (d : Option D) (e : Option E) (f : Option F) (g : Option G) (h : Option H)
    → is_some a ≡ true → is_some b ≡ true → is_some c ≡ true → is_some d ≡ true → is_some e ≡ true → is_some f ≡ true → is_some g ≡ true → is_some h ≡ true
    → is_some (option_and_then (λ a. option_and_then (λ b. option_and_then (λ c. option_and_then (λ d. option_and_then (λ e. option_and_then (λ f. option_and_then (λ g. option_map (make a b c d e f g) h) g) f) e) d) c) b) a) ≡ true
eight_some make a b c d e f g h sa sb sc sd se sf sg sh =
    then_some _ a sa (λ x1. then_some _ b sb (λ x2. then_some _ c sc (λ x3. then_some _ d sd (λ x4. then_some _ e se (λ x5. then_some _ f sf (λ x6. then_some _ g sg (λ x7. mapped_some _ h sh)))))))

part_of : (k : List ℕ) (ms : Members) (s : DependencySeen) → KnowsDependency ms s → (d : Data) → get_member k ms ≡ Some d → dependency_key_fits (dependency_key k) d ≡ true
part_of k ms s knows d e = found_fits (λ k d. dependency_key_fits (dependency_key k) d) k d ms knows.fits e

pub dependency_form : (ms : Members) (s : DependencySeen) → KnowsDependency ms s → s.name ≡ true → s.req ≡ true → s.features ≡ true → s.optional ≡ true → s.default_features ≡ true → is_dependency (object ms) ≡ true
dependency_form ms s knows name req features opt default =
    let at = λ (k : List ℕ). part_of k ms s knows in
    eight_some
    (λ (name : List ℕ) (req : List ℕ) (features : List (List ℕ)) (optional : Bool) (default_features : Bool) (target : Option (List ℕ)) (kind : DependencyKind) (renamed : Option (List ℕ)).
    let made : IndexDependency = record { name = name; req = req; features = features; optional = optional; default_features = default_features; target = target; kind = kind; «package» = renamed } in made)
    (option_and_then as_str (get_member (codes "name") ms))
    (option_and_then as_str (get_member (codes "req") ms))
    (option_and_then texts_of (option_and_then as_array (get_member (codes "features") ms)))
    (option_and_then as_bool (get_member (codes "optional") ms))
    (option_and_then as_bool (get_member (codes "default_features") ms))
    (text_or_null (get_member (codes "target") ms))
    (kind_of (get_member (codes "kind") ms))
    (text_or_null (get_member (codes "package") ms))
    (required (option_and_then as_str) (codes "name") ms (knows.name name) (at (codes "name")))
    (required (option_and_then as_str) (codes "req") ms (knows.req req) (at (codes "req")))
    (required (λ o. option_and_then texts_of (option_and_then as_array o)) (codes "features") ms (knows.features features) (at (codes "features")))
    (required (option_and_then as_bool) (codes "optional") ms (knows.optional opt) (at (codes "optional")))
    (required (option_and_then as_bool) (codes "default_features") ms (knows.default_features default) (at (codes "default_features")))
    (optional text_or_null (codes "target") ms refl (at (codes "target")))
    (optional kind_of (codes "kind") ms refl (at (codes "kind")))
    (optional text_or_null (codes "package") ms refl (at (codes "package")))

-- ---- a version

optional_made : (a : Option (Option Lists)) (b : Option Bool) (c d e : Option (Option (List ℕ))) (f : Option (Option ℕ)) (y : Bool)
    → is_some a ≡ true → b ≡ Some y → is_some c ≡ true → is_some d ≡ true → is_some e ≡ true → is_some f ≡ true
    → (m : OptionalMembers) × (option_and_then (λ features2. option_and_then (λ yanked. option_and_then (λ links. option_and_then (λ rust_version. option_and_then (λ pubtime. option_map (λ v.
    let made : OptionalMembers = record { features2 = features2; yanked = yanked; links = links; rust_version = rust_version; pubtime = pubtime; v = v } in made) f) e) d) c) b) a ≡ Some m) × (m.yanked ≡ y)
optional_made None b c d e f y ha hb hc hd he hf = absurd (cc)
optional_made (Some a) None c d e f y ha hb hc hd he hf = absurd (cc)
optional_made (Some a) (Some b) None d e f y ha hb hc hd he hf = absurd (cc)
optional_made (Some a) (Some b) (Some c) None e f y ha hb hc hd he hf = absurd (cc)
optional_made (Some a) (Some b) (Some c) (Some d) None f y ha hb hc hd he hf = absurd (cc)
optional_made (Some a) (Some b) (Some c) (Some d) (Some e) None y ha hb hc hd he hf = absurd (cc)
optional_made (Some a) (Some b) (Some c) (Some d) (Some e) (Some f) y ha hb hc hd he hf =
    let same : b ≡ y = cc in
    (record { features2 = a; yanked = b; links = c; rust_version = d; pubtime = e; v = f }, refl, same)

head_made : (a : Option (List ℕ)) (b : Option (List ℕ)) (c : Option (List IndexDependency)) (d : Option Chksum) (e : Option Lists) (f : Option OptionalMembers) (v : List ℕ) (m : OptionalMembers)
    → is_some a ≡ true → b ≡ Some v → is_some c ≡ true → is_some d ≡ true → is_some e ≡ true → f ≡ Some m
    → option_map version_flag (option_and_then (λ name. option_and_then (λ version. option_and_then (λ deps. option_and_then (λ checksum. option_and_then (λ features. option_map (λ (more : OptionalMembers).
    let made : IndexVersion = record { name = name; version = version; deps = deps; checksum = checksum; yanked = more.yanked; links = more.links; rust_version = more.rust_version; pubtime = more.pubtime; features = features; features2 = more.features2; v = more.v } in made) f) e) d) c) b) a)
    ≡ Some (record { version = v; yanked = m.yanked })
head_made None b c d e f v m ha hb hc hd he hf = absurd (cc)
head_made (Some a) None c d e f v m ha hb hc hd he hf = absurd (cc)
head_made (Some a) (Some b) None d e f v m ha hb hc hd he hf = absurd (cc)
head_made (Some a) (Some b) (Some c) None e f v m ha hb hc hd he hf = absurd (cc)
head_made (Some a) (Some b) (Some c) (Some d) None f v m ha hb hc hd he hf = absurd (cc)
head_made (Some a) (Some b) (Some c) (Some d) (Some e) None v m ha hb hc hd he hf = absurd (cc)
head_made (Some a) (Some b) (Some c) (Some d) (Some e) (Some f) v m ha hb hc hd he hf =
    let same : b ≡ v = cc in
    let more : f.yanked ≡ m.yanked = ap (λ (o : OptionalMembers). o.yanked) (inside f m hf) in
    ap (λ (x : List ℕ). let made : Option VersionFlag = Some (record { version = x; yanked = f.yanked }) in made) same
    ∙ ap (λ (x : Bool). let made : Option VersionFlag = Some (record { version = v; yanked = x }) in made) more
  where
    inside : (f m : OptionalMembers) → Some f ≡ Some m → f ≡ m
    inside f m h = cc

key_of : (k : List ℕ) (ms : Members) (s : Seen) → KnowsVersion ms s → (d : Data) → get_member k ms ≡ Some d → version_key_fits (version_key k) d ≡ true
key_of k ms s knows d e = found_fits (λ k d. version_key_fits (version_key k) d) k d ms knows.fits e

optional_known : (ms : Members) (s : Seen) → KnowsVersion ms s → (m : OptionalMembers) × (optional_of (object ms) ≡ Some m) × (m.yanked ≡ s.yanked)
optional_known ms s knows =
    let at = λ (k : List ℕ). key_of k ms s knows in
    optional_made
    (lists_or_null (get_member (codes "features2") ms))
    (flag_or_false (get_member (codes "yanked") ms))
    (text_or_null (get_member (codes "links") ms))
    (text_or_null (get_member (codes "rust_version") ms))
    (text_or_null (get_member (codes "pubtime") ms))
    (u32_or_null (get_member (codes "v") ms))
    s.yanked
    (optional lists_or_null (codes "features2") ms refl (at (codes "features2")))
    knows.yanked
    (optional text_or_null (codes "links") ms refl (at (codes "links")))
    (optional text_or_null (codes "rust_version") ms refl (at (codes "rust_version")))
    (optional text_or_null (codes "pubtime") ms refl (at (codes "pubtime")))
    (optional u32_or_null (codes "v") ms refl (at (codes "v")))

pub head_form : (ms : Members) (s : Seen) (v : List ℕ) → KnowsVersion ms s → s.name ≡ true → s.version ≡ Some v → s.deps ≡ true → s.checksum ≡ true → s.features ≡ true
    → option_map version_flag (record_of_data (object ms)) ≡ Some (record { version = v; yanked = s.yanked })
head_form ms s v knows name version deps checksum features =
    let at = λ (k : List ℕ). key_of k ms s knows in
    let more = optional_known ms s knows in
    head_made
    (option_and_then as_str (get_member (codes "name") ms))
    (option_and_then as_str (get_member (codes "vers") ms))
    (option_and_then dependencies_of (option_and_then as_array (get_member (codes "deps") ms)))
    (chksum_of_data (get_member (codes "cksum") ms))
    (option_and_then (lists_with []) (option_and_then as_object (get_member (codes "features") ms)))
    (optional_of (object ms))
    v
    more.0
    (required (option_and_then as_str) (codes "name") ms (knows.name name) (at (codes "name")))
    (sym knows.version ∙ version)
    (required (λ o. option_and_then dependencies_of (option_and_then as_array o)) (codes "deps") ms (knows.deps deps) (at (codes "deps")))
    (required chksum_of_data (codes "cksum") ms (knows.checksum checksum) (at (codes "cksum")))
    (required (λ o. option_and_then (lists_with []) (option_and_then as_object o)) (codes "features") ms (knows.features features) (at (codes "features")))
    more.1
    ∙ ap (λ (x : Bool). let made : Option VersionFlag = Some (record { version = v; yanked = x }) in made) more.2
