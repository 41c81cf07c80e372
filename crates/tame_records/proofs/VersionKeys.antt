-- What is known of a version's members, as one more is added.
use Rattle.std.proofs.Common.{◌≡◌, ℕ, List, codes, Bool, true, false, Option, Some, None, option_and_then, bytes_eq, refl, sym, ap, ◌∙◌}
use Rattle.std.specs.Prelude.{is_some, unwrap_or, if◌then◌else◌}
use Rattle.std.proofs.lemmas.Slice.Eq.{bytes_eq-Decides}
use Rattle.serde_json.specs.Data.{Data, Members, no_members, put}
use Rattle.serde_json.specs.Find.{get_member, as_str, as_bool}
use Rattle.serde_json.specs.Written.{has_float}
use Rattle.serde_json.proofs.Views.{get_member-put_other}
use Rattle.tame_records.specs.VersionFlags.{KnowsVersion, Seen, all_members, version_key_fits, version_key, with_version_key}
use Rattle.tame_records.specs.Members.{flag_or_false}
use Rattle.tame_records.specs.declared.keys.VersionKey.{VersionKey}
use Rattle.tame_records.specs.declared.keys.VersionKey.TheVariants as key
use Rattle.tame_records.proofs.FlagMembers.{all_put, found_here, has_here, has_put, whole_put}

-- ---- a name from its key

only_version_name : (b0 b1 b2 b3 b4 b5 b6 b7 b8 b9 b10 : Bool) → (if b0 then key.Name else if b1 then key.Version else if b2 then key.Deps else if b3 then key.Checksum else if b4 then key.Features else if b5 then key.Yanked else if b6 then key.Text else if b7 then key.Text else if b8 then key.Text else if b9 then key.Features2 else if b10 then key.Number else key.Other) ≡ key.Name → b0 ≡ true
only_version_name true b1 b2 b3 b4 b5 b6 b7 b8 b9 b10 h = refl
only_version_name false true b2 b3 b4 b5 b6 b7 b8 b9 b10 h = absurd (cc)
only_version_name false false true b3 b4 b5 b6 b7 b8 b9 b10 h = absurd (cc)
only_version_name false false false true b4 b5 b6 b7 b8 b9 b10 h = absurd (cc)
only_version_name false false false false true b5 b6 b7 b8 b9 b10 h = absurd (cc)
only_version_name false false false false false true b6 b7 b8 b9 b10 h = absurd (cc)
only_version_name false false false false false false true b7 b8 b9 b10 h = absurd (cc)
only_version_name false false false false false false false true b8 b9 b10 h = absurd (cc)
only_version_name false false false false false false false false true b9 b10 h = absurd (cc)
only_version_name false false false false false false false false false true b10 h = absurd (cc)
only_version_name false false false false false false false false false false true h = absurd (cc)
only_version_name false false false false false false false false false false false h = absurd (cc)

version_name : (k : List ℕ) → version_key k ≡ key.Name → k ≡ codes "name"
version_name k h = (bytes_eq-Decides k (codes "name")).0 (only_version_name (bytes_eq k (codes "name")) (bytes_eq k (codes "vers")) (bytes_eq k (codes "deps")) (bytes_eq k (codes "cksum")) (bytes_eq k (codes "features")) (bytes_eq k (codes "yanked")) (bytes_eq k (codes "links")) (bytes_eq k (codes "rust_version")) (bytes_eq k (codes "pubtime")) (bytes_eq k (codes "features2")) (bytes_eq k (codes "v")) h)

only_version_version : (b0 b1 b2 b3 b4 b5 b6 b7 b8 b9 b10 : Bool) → (if b0 then key.Name else if b1 then key.Version else if b2 then key.Deps else if b3 then key.Checksum else if b4 then key.Features else if b5 then key.Yanked else if b6 then key.Text else if b7 then key.Text else if b8 then key.Text else if b9 then key.Features2 else if b10 then key.Number else key.Other) ≡ key.Version → b1 ≡ true
only_version_version true b1 b2 b3 b4 b5 b6 b7 b8 b9 b10 h = absurd (cc)
only_version_version false true b2 b3 b4 b5 b6 b7 b8 b9 b10 h = refl
only_version_version false false true b3 b4 b5 b6 b7 b8 b9 b10 h = absurd (cc)
only_version_version false false false true b4 b5 b6 b7 b8 b9 b10 h = absurd (cc)
only_version_version false false false false true b5 b6 b7 b8 b9 b10 h = absurd (cc)
only_version_version false false false false false true b6 b7 b8 b9 b10 h = absurd (cc)
only_version_version false false false false false false true b7 b8 b9 b10 h = absurd (cc)
only_version_version false false false false false false false true b8 b9 b10 h = absurd (cc)
only_version_version false false false false false false false false true b9 b10 h = absurd (cc)
only_version_version false false false false false false false false false true b10 h = absurd (cc)
only_version_version false false false false false false false false false false true h = absurd (cc)
only_version_version false false false false false false false false false false false h = absurd (cc)

version_version : (k : List ℕ) → version_key k ≡ key.Version → k ≡ codes "vers"
version_version k h = (bytes_eq-Decides k (codes "vers")).0 (only_version_version (bytes_eq k (codes "name")) (bytes_eq k (codes "vers")) (bytes_eq k (codes "deps")) (bytes_eq k (codes "cksum")) (bytes_eq k (codes "features")) (bytes_eq k (codes "yanked")) (bytes_eq k (codes "links")) (bytes_eq k (codes "rust_version")) (bytes_eq k (codes "pubtime")) (bytes_eq k (codes "features2")) (bytes_eq k (codes "v")) h)

only_version_deps : (b0 b1 b2 b3 b4 b5 b6 b7 b8 b9 b10 : Bool) → (if b0 then key.Name else if b1 then key.Version else if b2 then key.Deps else if b3 then key.Checksum else if b4 then key.Features else if b5 then key.Yanked else if b6 then key.Text else if b7 then key.Text else if b8 then key.Text else if b9 then key.Features2 else if b10 then key.Number else key.Other) ≡ key.Deps → b2 ≡ true
only_version_deps true b1 b2 b3 b4 b5 b6 b7 b8 b9 b10 h = absurd (cc)
only_version_deps false true b2 b3 b4 b5 b6 b7 b8 b9 b10 h = absurd (cc)
only_version_deps false false true b3 b4 b5 b6 b7 b8 b9 b10 h = refl
only_version_deps false false false true b4 b5 b6 b7 b8 b9 b10 h = absurd (cc)
only_version_deps false false false false true b5 b6 b7 b8 b9 b10 h = absurd (cc)
only_version_deps false false false false false true b6 b7 b8 b9 b10 h = absurd (cc)
only_version_deps false false false false false false true b7 b8 b9 b10 h = absurd (cc)
only_version_deps false false false false false false false true b8 b9 b10 h = absurd (cc)
only_version_deps false false false false false false false false true b9 b10 h = absurd (cc)
only_version_deps false false false false false false false false false true b10 h = absurd (cc)
only_version_deps false false false false false false false false false false true h = absurd (cc)
only_version_deps false false false false false false false false false false false h = absurd (cc)

version_deps : (k : List ℕ) → version_key k ≡ key.Deps → k ≡ codes "deps"
version_deps k h = (bytes_eq-Decides k (codes "deps")).0 (only_version_deps (bytes_eq k (codes "name")) (bytes_eq k (codes "vers")) (bytes_eq k (codes "deps")) (bytes_eq k (codes "cksum")) (bytes_eq k (codes "features")) (bytes_eq k (codes "yanked")) (bytes_eq k (codes "links")) (bytes_eq k (codes "rust_version")) (bytes_eq k (codes "pubtime")) (bytes_eq k (codes "features2")) (bytes_eq k (codes "v")) h)

only_version_checksum : (b0 b1 b2 b3 b4 b5 b6 b7 b8 b9 b10 : Bool) → (if b0 then key.Name else if b1 then key.Version else if b2 then key.Deps else if b3 then key.Checksum else if b4 then key.Features else if b5 then key.Yanked else if b6 then key.Text else if b7 then key.Text else if b8 then key.Text else if b9 then key.Features2 else if b10 then key.Number else key.Other) ≡ key.Checksum → b3 ≡ true
only_version_checksum true b1 b2 b3 b4 b5 b6 b7 b8 b9 b10 h = absurd (cc)
only_version_checksum false true b2 b3 b4 b5 b6 b7 b8 b9 b10 h = absurd (cc)
only_version_checksum false false true b3 b4 b5 b6 b7 b8 b9 b10 h = absurd (cc)
only_version_checksum false false false true b4 b5 b6 b7 b8 b9 b10 h = refl
only_version_checksum false false false false true b5 b6 b7 b8 b9 b10 h = absurd (cc)
only_version_checksum false false false false false true b6 b7 b8 b9 b10 h = absurd (cc)
only_version_checksum false false false false false false true b7 b8 b9 b10 h = absurd (cc)
only_version_checksum false false false false false false false true b8 b9 b10 h = absurd (cc)
only_version_checksum false false false false false false false false true b9 b10 h = absurd (cc)
only_version_checksum false false false false false false false false false true b10 h = absurd (cc)
only_version_checksum false false false false false false false false false false true h = absurd (cc)
only_version_checksum false false false false false false false false false false false h = absurd (cc)

version_checksum : (k : List ℕ) → version_key k ≡ key.Checksum → k ≡ codes "cksum"
version_checksum k h = (bytes_eq-Decides k (codes "cksum")).0 (only_version_checksum (bytes_eq k (codes "name")) (bytes_eq k (codes "vers")) (bytes_eq k (codes "deps")) (bytes_eq k (codes "cksum")) (bytes_eq k (codes "features")) (bytes_eq k (codes "yanked")) (bytes_eq k (codes "links")) (bytes_eq k (codes "rust_version")) (bytes_eq k (codes "pubtime")) (bytes_eq k (codes "features2")) (bytes_eq k (codes "v")) h)

only_version_features : (b0 b1 b2 b3 b4 b5 b6 b7 b8 b9 b10 : Bool) → (if b0 then key.Name else if b1 then key.Version else if b2 then key.Deps else if b3 then key.Checksum else if b4 then key.Features else if b5 then key.Yanked else if b6 then key.Text else if b7 then key.Text else if b8 then key.Text else if b9 then key.Features2 else if b10 then key.Number else key.Other) ≡ key.Features → b4 ≡ true
only_version_features true b1 b2 b3 b4 b5 b6 b7 b8 b9 b10 h = absurd (cc)
only_version_features false true b2 b3 b4 b5 b6 b7 b8 b9 b10 h = absurd (cc)
only_version_features false false true b3 b4 b5 b6 b7 b8 b9 b10 h = absurd (cc)
only_version_features false false false true b4 b5 b6 b7 b8 b9 b10 h = absurd (cc)
only_version_features false false false false true b5 b6 b7 b8 b9 b10 h = refl
only_version_features false false false false false true b6 b7 b8 b9 b10 h = absurd (cc)
only_version_features false false false false false false true b7 b8 b9 b10 h = absurd (cc)
only_version_features false false false false false false false true b8 b9 b10 h = absurd (cc)
only_version_features false false false false false false false false true b9 b10 h = absurd (cc)
only_version_features false false false false false false false false false true b10 h = absurd (cc)
only_version_features false false false false false false false false false false true h = absurd (cc)
only_version_features false false false false false false false false false false false h = absurd (cc)

version_features : (k : List ℕ) → version_key k ≡ key.Features → k ≡ codes "features"
version_features k h = (bytes_eq-Decides k (codes "features")).0 (only_version_features (bytes_eq k (codes "name")) (bytes_eq k (codes "vers")) (bytes_eq k (codes "deps")) (bytes_eq k (codes "cksum")) (bytes_eq k (codes "features")) (bytes_eq k (codes "yanked")) (bytes_eq k (codes "links")) (bytes_eq k (codes "rust_version")) (bytes_eq k (codes "pubtime")) (bytes_eq k (codes "features2")) (bytes_eq k (codes "v")) h)

only_version_yanked : (b0 b1 b2 b3 b4 b5 b6 b7 b8 b9 b10 : Bool) → (if b0 then key.Name else if b1 then key.Version else if b2 then key.Deps else if b3 then key.Checksum else if b4 then key.Features else if b5 then key.Yanked else if b6 then key.Text else if b7 then key.Text else if b8 then key.Text else if b9 then key.Features2 else if b10 then key.Number else key.Other) ≡ key.Yanked → b5 ≡ true
only_version_yanked true b1 b2 b3 b4 b5 b6 b7 b8 b9 b10 h = absurd (cc)
only_version_yanked false true b2 b3 b4 b5 b6 b7 b8 b9 b10 h = absurd (cc)
only_version_yanked false false true b3 b4 b5 b6 b7 b8 b9 b10 h = absurd (cc)
only_version_yanked false false false true b4 b5 b6 b7 b8 b9 b10 h = absurd (cc)
only_version_yanked false false false false true b5 b6 b7 b8 b9 b10 h = absurd (cc)
only_version_yanked false false false false false true b6 b7 b8 b9 b10 h = refl
only_version_yanked false false false false false false true b7 b8 b9 b10 h = absurd (cc)
only_version_yanked false false false false false false false true b8 b9 b10 h = absurd (cc)
only_version_yanked false false false false false false false false true b9 b10 h = absurd (cc)
only_version_yanked false false false false false false false false false true b10 h = absurd (cc)
only_version_yanked false false false false false false false false false false true h = absurd (cc)
only_version_yanked false false false false false false false false false false false h = absurd (cc)

version_yanked : (k : List ℕ) → version_key k ≡ key.Yanked → k ≡ codes "yanked"
version_yanked k h = (bytes_eq-Decides k (codes "yanked")).0 (only_version_yanked (bytes_eq k (codes "name")) (bytes_eq k (codes "vers")) (bytes_eq k (codes "deps")) (bytes_eq k (codes "cksum")) (bytes_eq k (codes "features")) (bytes_eq k (codes "yanked")) (bytes_eq k (codes "links")) (bytes_eq k (codes "rust_version")) (bytes_eq k (codes "pubtime")) (bytes_eq k (codes "features2")) (bytes_eq k (codes "v")) h)

-- ---- members of a version

pub version_knows_nothing : KnowsVersion no_members (record { name = false; version = None; deps = false; checksum = false; features = false; yanked = false })
version_knows_nothing = record {
  fits = refl;
  whole = refl;
  name = λ e. absurd (cc);
  version = refl;
  deps = λ e. absurd (cc);
  checksum = λ e. absurd (cc);
  features = λ e. absurd (cc);
  yanked = refl;
}

known : (o : Option Bool) (y : Bool) → is_some o ≡ true → o ≡ Some (unwrap_or o y)
known None y h = absurd (cc)
known (Some b) y h = refl

module _ (found : Members) (s : Seen) (knows : KnowsVersion found s) (k : List ℕ) (d : Data) (whole : has_float d ≡ false) where
  version_fit : (x : VersionKey) → version_key k ≡ x → version_key_fits x d ≡ true → all_members (λ k d. version_key_fits (version_key k) d) (put k d found) ≡ true
  version_fit x is fit = all_put (λ k d. version_key_fits (version_key k) d) k d found (ap (λ (y : VersionKey). version_key_fits y d) is ∙ fit) knows.fits

  same_version : (codes "vers" ≡ k → ⊥) → s.version ≡ option_and_then as_str (get_member (codes "vers") (put k d found))
  same_version other = knows.version ∙ ap (λ (o : Option Data). option_and_then as_str o) (sym (get_member-put_other (codes "vers") k d found other))

  same_flag : (codes "yanked" ≡ k → ⊥) → flag_or_false (get_member (codes "yanked") (put k d found)) ≡ Some s.yanked
  same_flag other = ap (λ (o : Option Data). flag_or_false o) (get_member-put_other (codes "yanked") k d found other) ∙ knows.yanked

  other_key : (q : List ℕ) (x y : VersionKey) → version_key k ≡ x → version_key q ≡ y → (y ≡ x → ⊥) → q ≡ k → ⊥
  other_key q x y is there apart e = apart (sym there ∙ ap (λ (l : List ℕ). version_key l) e ∙ is)

  pub version_knows_more : (x : VersionKey) → version_key k ≡ x → version_key_fits x d ≡ true → KnowsVersion (put k d found) (with_version_key x d s)
  version_knows_more key.Name is fit = record {
    fits = version_fit key.Name is fit;
    whole = whole_put k d found whole knows.whole;
    name = λ e. has_here (codes "name") k d found (version_name k is);
    version = same_version (other_key (codes "vers") key.Name key.Version is refl (λ e. cc));
    deps = λ e. has_put (codes "deps") k d found (knows.deps e);
    checksum = λ e. has_put (codes "cksum") k d found (knows.checksum e);
    features = λ e. has_put (codes "features") k d found (knows.features e);
    yanked = same_flag (other_key (codes "yanked") key.Name key.Yanked is refl (λ e. cc));
  }
  version_knows_more key.Version is fit = record {
    fits = version_fit key.Version is fit;
    whole = whole_put k d found whole knows.whole;
    name = λ e. has_put (codes "name") k d found (knows.name e);
    version = ap (λ (o : Option Data). option_and_then as_str o) (sym (found_here (codes "vers") k d found (version_version k is)));
    deps = λ e. has_put (codes "deps") k d found (knows.deps e);
    checksum = λ e. has_put (codes "cksum") k d found (knows.checksum e);
    features = λ e. has_put (codes "features") k d found (knows.features e);
    yanked = same_flag (other_key (codes "yanked") key.Version key.Yanked is refl (λ e. cc));
  }
  version_knows_more key.Deps is fit = record {
    fits = version_fit key.Deps is fit;
    whole = whole_put k d found whole knows.whole;
    name = λ e. has_put (codes "name") k d found (knows.name e);
    version = same_version (other_key (codes "vers") key.Deps key.Version is refl (λ e. cc));
    deps = λ e. has_here (codes "deps") k d found (version_deps k is);
    checksum = λ e. has_put (codes "cksum") k d found (knows.checksum e);
    features = λ e. has_put (codes "features") k d found (knows.features e);
    yanked = same_flag (other_key (codes "yanked") key.Deps key.Yanked is refl (λ e. cc));
  }
  version_knows_more key.Checksum is fit = record {
    fits = version_fit key.Checksum is fit;
    whole = whole_put k d found whole knows.whole;
    name = λ e. has_put (codes "name") k d found (knows.name e);
    version = same_version (other_key (codes "vers") key.Checksum key.Version is refl (λ e. cc));
    deps = λ e. has_put (codes "deps") k d found (knows.deps e);
    checksum = λ e. has_here (codes "cksum") k d found (version_checksum k is);
    features = λ e. has_put (codes "features") k d found (knows.features e);
    yanked = same_flag (other_key (codes "yanked") key.Checksum key.Yanked is refl (λ e. cc));
  }
  version_knows_more key.Features is fit = record {
    fits = version_fit key.Features is fit;
    whole = whole_put k d found whole knows.whole;
    name = λ e. has_put (codes "name") k d found (knows.name e);
    version = same_version (other_key (codes "vers") key.Features key.Version is refl (λ e. cc));
    deps = λ e. has_put (codes "deps") k d found (knows.deps e);
    checksum = λ e. has_put (codes "cksum") k d found (knows.checksum e);
    features = λ e. has_here (codes "features") k d found (version_features k is);
    yanked = same_flag (other_key (codes "yanked") key.Features key.Yanked is refl (λ e. cc));
  }
  version_knows_more key.Features2 is fit = record {
    fits = version_fit key.Features2 is fit;
    whole = whole_put k d found whole knows.whole;
    name = λ e. has_put (codes "name") k d found (knows.name e);
    version = same_version (other_key (codes "vers") key.Features2 key.Version is refl (λ e. cc));
    deps = λ e. has_put (codes "deps") k d found (knows.deps e);
    checksum = λ e. has_put (codes "cksum") k d found (knows.checksum e);
    features = λ e. has_put (codes "features") k d found (knows.features e);
    yanked = same_flag (other_key (codes "yanked") key.Features2 key.Yanked is refl (λ e. cc));
  }
  version_knows_more key.Yanked is fit = record {
    fits = version_fit key.Yanked is fit;
    whole = whole_put k d found whole knows.whole;
    name = λ e. has_put (codes "name") k d found (knows.name e);
    version = same_version (other_key (codes "vers") key.Yanked key.Version is refl (λ e. cc));
    deps = λ e. has_put (codes "deps") k d found (knows.deps e);
    checksum = λ e. has_put (codes "cksum") k d found (knows.checksum e);
    features = λ e. has_put (codes "features") k d found (knows.features e);
    yanked = ap (λ (o : Option Data). flag_or_false o) (found_here (codes "yanked") k d found (version_yanked k is)) ∙ known (as_bool d) s.yanked fit;
  }
  version_knows_more key.Text is fit = record {
    fits = version_fit key.Text is fit;
    whole = whole_put k d found whole knows.whole;
    name = λ e. has_put (codes "name") k d found (knows.name e);
    version = same_version (other_key (codes "vers") key.Text key.Version is refl (λ e. cc));
    deps = λ e. has_put (codes "deps") k d found (knows.deps e);
    checksum = λ e. has_put (codes "cksum") k d found (knows.checksum e);
    features = λ e. has_put (codes "features") k d found (knows.features e);
    yanked = same_flag (other_key (codes "yanked") key.Text key.Yanked is refl (λ e. cc));
  }
  version_knows_more key.Number is fit = record {
    fits = version_fit key.Number is fit;
    whole = whole_put k d found whole knows.whole;
    name = λ e. has_put (codes "name") k d found (knows.name e);
    version = same_version (other_key (codes "vers") key.Number key.Version is refl (λ e. cc));
    deps = λ e. has_put (codes "deps") k d found (knows.deps e);
    checksum = λ e. has_put (codes "cksum") k d found (knows.checksum e);
    features = λ e. has_put (codes "features") k d found (knows.features e);
    yanked = same_flag (other_key (codes "yanked") key.Number key.Yanked is refl (λ e. cc));
  }
  version_knows_more key.Other is fit = record {
    fits = version_fit key.Other is fit;
    whole = whole_put k d found whole knows.whole;
    name = λ e. has_put (codes "name") k d found (knows.name e);
    version = same_version (other_key (codes "vers") key.Other key.Version is refl (λ e. cc));
    deps = λ e. has_put (codes "deps") k d found (knows.deps e);
    checksum = λ e. has_put (codes "cksum") k d found (knows.checksum e);
    features = λ e. has_put (codes "features") k d found (knows.features e);
    yanked = same_flag (other_key (codes "yanked") key.Other key.Yanked is refl (λ e. cc));
  }
