-- What is known of a dependency's members, as one more is added.
use Rattle.std.proofs.Common.{◌≡◌, ℕ, List, codes, Bool, true, false, bytes_eq, refl, ap, ◌∙◌}
use Rattle.std.specs.Prelude.{if◌then◌else◌}
use Rattle.std.proofs.lemmas.Slice.Eq.{bytes_eq-Decides}
use Rattle.serde_json.specs.Data.{Data, Members, no_members, put}
use Rattle.serde_json.specs.Written.{has_float}
use Rattle.tame_records.specs.VersionFlags.{KnowsDependency, all_members, with_dependency_key, dependency_key_fits, dependency_key}
use Rattle.tame_records.specs.declared.keys.DependencyKey.{DependencyKey}
use Rattle.tame_records.specs.declared.keys.DependencyKey.TheVariants as dependency
use Rattle.tame_records.specs.declared.keys.DependencySeen.{DependencySeen}
use Rattle.tame_records.proofs.FlagMembers.{all_put, has_here, has_put, whole_put}

-- ---- a name from its key

only_dependency_name : (b0 b1 b2 b3 b4 b5 b6 b7 : Bool) → (if b0 then dependency.Name else if b1 then dependency.Req else if b2 then dependency.Features else if b3 then dependency.Optional else if b4 then dependency.DefaultFeatures else if b5 then dependency.Text else if b6 then dependency.Text else if b7 then dependency.Kind else dependency.Other) ≡ dependency.Name → b0 ≡ true
only_dependency_name true b1 b2 b3 b4 b5 b6 b7 h = refl
only_dependency_name false true b2 b3 b4 b5 b6 b7 h = absurd (cc)
only_dependency_name false false true b3 b4 b5 b6 b7 h = absurd (cc)
only_dependency_name false false false true b4 b5 b6 b7 h = absurd (cc)
only_dependency_name false false false false true b5 b6 b7 h = absurd (cc)
only_dependency_name false false false false false true b6 b7 h = absurd (cc)
only_dependency_name false false false false false false true b7 h = absurd (cc)
only_dependency_name false false false false false false false true h = absurd (cc)
only_dependency_name false false false false false false false false h = absurd (cc)

dependency_name : (k : List ℕ) → dependency_key k ≡ dependency.Name → k ≡ codes "name"
dependency_name k h = (bytes_eq-Decides k (codes "name")).0 (only_dependency_name (bytes_eq k (codes "name")) (bytes_eq k (codes "req")) (bytes_eq k (codes "features")) (bytes_eq k (codes "optional")) (bytes_eq k (codes "default_features")) (bytes_eq k (codes "target")) (bytes_eq k (codes "package")) (bytes_eq k (codes "kind")) h)

only_dependency_req : (b0 b1 b2 b3 b4 b5 b6 b7 : Bool) → (if b0 then dependency.Name else if b1 then dependency.Req else if b2 then dependency.Features else if b3 then dependency.Optional else if b4 then dependency.DefaultFeatures else if b5 then dependency.Text else if b6 then dependency.Text else if b7 then dependency.Kind else dependency.Other) ≡ dependency.Req → b1 ≡ true
only_dependency_req true b1 b2 b3 b4 b5 b6 b7 h = absurd (cc)
only_dependency_req false true b2 b3 b4 b5 b6 b7 h = refl
only_dependency_req false false true b3 b4 b5 b6 b7 h = absurd (cc)
only_dependency_req false false false true b4 b5 b6 b7 h = absurd (cc)
only_dependency_req false false false false true b5 b6 b7 h = absurd (cc)
only_dependency_req false false false false false true b6 b7 h = absurd (cc)
only_dependency_req false false false false false false true b7 h = absurd (cc)
only_dependency_req false false false false false false false true h = absurd (cc)
only_dependency_req false false false false false false false false h = absurd (cc)

dependency_req : (k : List ℕ) → dependency_key k ≡ dependency.Req → k ≡ codes "req"
dependency_req k h = (bytes_eq-Decides k (codes "req")).0 (only_dependency_req (bytes_eq k (codes "name")) (bytes_eq k (codes "req")) (bytes_eq k (codes "features")) (bytes_eq k (codes "optional")) (bytes_eq k (codes "default_features")) (bytes_eq k (codes "target")) (bytes_eq k (codes "package")) (bytes_eq k (codes "kind")) h)

only_dependency_features : (b0 b1 b2 b3 b4 b5 b6 b7 : Bool) → (if b0 then dependency.Name else if b1 then dependency.Req else if b2 then dependency.Features else if b3 then dependency.Optional else if b4 then dependency.DefaultFeatures else if b5 then dependency.Text else if b6 then dependency.Text else if b7 then dependency.Kind else dependency.Other) ≡ dependency.Features → b2 ≡ true
only_dependency_features true b1 b2 b3 b4 b5 b6 b7 h = absurd (cc)
only_dependency_features false true b2 b3 b4 b5 b6 b7 h = absurd (cc)
only_dependency_features false false true b3 b4 b5 b6 b7 h = refl
only_dependency_features false false false true b4 b5 b6 b7 h = absurd (cc)
only_dependency_features false false false false true b5 b6 b7 h = absurd (cc)
only_dependency_features false false false false false true b6 b7 h = absurd (cc)
only_dependency_features false false false false false false true b7 h = absurd (cc)
only_dependency_features false false false false false false false true h = absurd (cc)
only_dependency_features false false false false false false false false h = absurd (cc)

dependency_features : (k : List ℕ) → dependency_key k ≡ dependency.Features → k ≡ codes "features"
dependency_features k h = (bytes_eq-Decides k (codes "features")).0 (only_dependency_features (bytes_eq k (codes "name")) (bytes_eq k (codes "req")) (bytes_eq k (codes "features")) (bytes_eq k (codes "optional")) (bytes_eq k (codes "default_features")) (bytes_eq k (codes "target")) (bytes_eq k (codes "package")) (bytes_eq k (codes "kind")) h)

only_dependency_optional : (b0 b1 b2 b3 b4 b5 b6 b7 : Bool) → (if b0 then dependency.Name else if b1 then dependency.Req else if b2 then dependency.Features else if b3 then dependency.Optional else if b4 then dependency.DefaultFeatures else if b5 then dependency.Text else if b6 then dependency.Text else if b7 then dependency.Kind else dependency.Other) ≡ dependency.Optional → b3 ≡ true
only_dependency_optional true b1 b2 b3 b4 b5 b6 b7 h = absurd (cc)
only_dependency_optional false true b2 b3 b4 b5 b6 b7 h = absurd (cc)
only_dependency_optional false false true b3 b4 b5 b6 b7 h = absurd (cc)
only_dependency_optional false false false true b4 b5 b6 b7 h = refl
only_dependency_optional false false false false true b5 b6 b7 h = absurd (cc)
only_dependency_optional false false false false false true b6 b7 h = absurd (cc)
only_dependency_optional false false false false false false true b7 h = absurd (cc)
only_dependency_optional false false false false false false false true h = absurd (cc)
only_dependency_optional false false false false false false false false h = absurd (cc)

dependency_optional : (k : List ℕ) → dependency_key k ≡ dependency.Optional → k ≡ codes "optional"
dependency_optional k h = (bytes_eq-Decides k (codes "optional")).0 (only_dependency_optional (bytes_eq k (codes "name")) (bytes_eq k (codes "req")) (bytes_eq k (codes "features")) (bytes_eq k (codes "optional")) (bytes_eq k (codes "default_features")) (bytes_eq k (codes "target")) (bytes_eq k (codes "package")) (bytes_eq k (codes "kind")) h)

only_dependency_default_features : (b0 b1 b2 b3 b4 b5 b6 b7 : Bool) → (if b0 then dependency.Name else if b1 then dependency.Req else if b2 then dependency.Features else if b3 then dependency.Optional else if b4 then dependency.DefaultFeatures else if b5 then dependency.Text else if b6 then dependency.Text else if b7 then dependency.Kind else dependency.Other) ≡ dependency.DefaultFeatures → b4 ≡ true
only_dependency_default_features true b1 b2 b3 b4 b5 b6 b7 h = absurd (cc)
only_dependency_default_features false true b2 b3 b4 b5 b6 b7 h = absurd (cc)
only_dependency_default_features false false true b3 b4 b5 b6 b7 h = absurd (cc)
only_dependency_default_features false false false true b4 b5 b6 b7 h = absurd (cc)
only_dependency_default_features false false false false true b5 b6 b7 h = refl
only_dependency_default_features false false false false false true b6 b7 h = absurd (cc)
only_dependency_default_features false false false false false false true b7 h = absurd (cc)
only_dependency_default_features false false false false false false false true h = absurd (cc)
only_dependency_default_features false false false false false false false false h = absurd (cc)

dependency_default_features : (k : List ℕ) → dependency_key k ≡ dependency.DefaultFeatures → k ≡ codes "default_features"
dependency_default_features k h = (bytes_eq-Decides k (codes "default_features")).0 (only_dependency_default_features (bytes_eq k (codes "name")) (bytes_eq k (codes "req")) (bytes_eq k (codes "features")) (bytes_eq k (codes "optional")) (bytes_eq k (codes "default_features")) (bytes_eq k (codes "target")) (bytes_eq k (codes "package")) (bytes_eq k (codes "kind")) h)

-- ---- parts of a dependency

pub dependency_knows_nothing : KnowsDependency no_members (record { name = false; req = false; features = false; optional = false; default_features = false })
dependency_knows_nothing = record {
  fits = refl;
  whole = refl;
  name = λ e. absurd (cc);
  req = λ e. absurd (cc);
  features = λ e. absurd (cc);
  optional = λ e. absurd (cc);
  default_features = λ e. absurd (cc);
}

module _ (found : Members) (s : DependencySeen) (knows : KnowsDependency found s) (k : List ℕ) (d : Data) (whole : has_float d ≡ false) where
  dependency_fit : (x : DependencyKey) → dependency_key k ≡ x → dependency_key_fits x d ≡ true → all_members (λ k d. dependency_key_fits (dependency_key k) d) (put k d found) ≡ true
  dependency_fit x is fit = all_put (λ k d. dependency_key_fits (dependency_key k) d) k d found (ap (λ (y : DependencyKey). dependency_key_fits y d) is ∙ fit) knows.fits

  pub dependency_knows_more : (x : DependencyKey) → dependency_key k ≡ x → dependency_key_fits x d ≡ true → KnowsDependency (put k d found) (with_dependency_key x s)
  dependency_knows_more dependency.Name is fit = record {
    fits = dependency_fit dependency.Name is fit;
    whole = whole_put k d found whole knows.whole;
    name = λ e. has_here (codes "name") k d found (dependency_name k is);
    req = λ e. has_put (codes "req") k d found (knows.req e);
    features = λ e. has_put (codes "features") k d found (knows.features e);
    optional = λ e. has_put (codes "optional") k d found (knows.optional e);
    default_features = λ e. has_put (codes "default_features") k d found (knows.default_features e);
  }
  dependency_knows_more dependency.Req is fit = record {
    fits = dependency_fit dependency.Req is fit;
    whole = whole_put k d found whole knows.whole;
    name = λ e. has_put (codes "name") k d found (knows.name e);
    req = λ e. has_here (codes "req") k d found (dependency_req k is);
    features = λ e. has_put (codes "features") k d found (knows.features e);
    optional = λ e. has_put (codes "optional") k d found (knows.optional e);
    default_features = λ e. has_put (codes "default_features") k d found (knows.default_features e);
  }
  dependency_knows_more dependency.Features is fit = record {
    fits = dependency_fit dependency.Features is fit;
    whole = whole_put k d found whole knows.whole;
    name = λ e. has_put (codes "name") k d found (knows.name e);
    req = λ e. has_put (codes "req") k d found (knows.req e);
    features = λ e. has_here (codes "features") k d found (dependency_features k is);
    optional = λ e. has_put (codes "optional") k d found (knows.optional e);
    default_features = λ e. has_put (codes "default_features") k d found (knows.default_features e);
  }
  dependency_knows_more dependency.Optional is fit = record {
    fits = dependency_fit dependency.Optional is fit;
    whole = whole_put k d found whole knows.whole;
    name = λ e. has_put (codes "name") k d found (knows.name e);
    req = λ e. has_put (codes "req") k d found (knows.req e);
    features = λ e. has_put (codes "features") k d found (knows.features e);
    optional = λ e. has_here (codes "optional") k d found (dependency_optional k is);
    default_features = λ e. has_put (codes "default_features") k d found (knows.default_features e);
  }
  dependency_knows_more dependency.DefaultFeatures is fit = record {
    fits = dependency_fit dependency.DefaultFeatures is fit;
    whole = whole_put k d found whole knows.whole;
    name = λ e. has_put (codes "name") k d found (knows.name e);
    req = λ e. has_put (codes "req") k d found (knows.req e);
    features = λ e. has_put (codes "features") k d found (knows.features e);
    optional = λ e. has_put (codes "optional") k d found (knows.optional e);
    default_features = λ e. has_here (codes "default_features") k d found (dependency_default_features k is);
  }
  dependency_knows_more dependency.Text is fit = record {
    fits = dependency_fit dependency.Text is fit;
    whole = whole_put k d found whole knows.whole;
    name = λ e. has_put (codes "name") k d found (knows.name e);
    req = λ e. has_put (codes "req") k d found (knows.req e);
    features = λ e. has_put (codes "features") k d found (knows.features e);
    optional = λ e. has_put (codes "optional") k d found (knows.optional e);
    default_features = λ e. has_put (codes "default_features") k d found (knows.default_features e);
  }
  dependency_knows_more dependency.Kind is fit = record {
    fits = dependency_fit dependency.Kind is fit;
    whole = whole_put k d found whole knows.whole;
    name = λ e. has_put (codes "name") k d found (knows.name e);
    req = λ e. has_put (codes "req") k d found (knows.req e);
    features = λ e. has_put (codes "features") k d found (knows.features e);
    optional = λ e. has_put (codes "optional") k d found (knows.optional e);
    default_features = λ e. has_put (codes "default_features") k d found (knows.default_features e);
  }
  dependency_knows_more dependency.Other is fit = record {
    fits = dependency_fit dependency.Other is fit;
    whole = whole_put k d found whole knows.whole;
    name = λ e. has_put (codes "name") k d found (knows.name e);
    req = λ e. has_put (codes "req") k d found (knows.req e);
    features = λ e. has_put (codes "features") k d found (knows.features e);
    optional = λ e. has_put (codes "optional") k d found (knows.optional e);
    default_features = λ e. has_put (codes "default_features") k d found (knows.default_features e);
  }
