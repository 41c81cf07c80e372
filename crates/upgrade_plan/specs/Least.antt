-- The lowest of the strings that pass a test, in the precedence of Semantic Versioning 2.0.0,
-- section 11 (this project).
use Rattle.std.specs.Prelude.{◌≡◌, ℕ, List, ◌∷◌, ◌++◌, map, Bool, true, false, Option, Some, None, if◌then◌else◌}
use Rattle.std.specs.List.{AllByRecursion}
use Rattle.std.specs.Option.{option_cmp}
use Rattle.std.specs.Ordering.{is_lt}
use Rattle.tame_records.specs.declared.versions.IndexVersion.{IndexVersion}
use Rattle.audit_lock.specs.declared.resolving.Package.{Package}
use Rattle.audit_advisory.specs.Points.{precedence}
use Rattle.audit_advisory.specs.declared.advisories.Advisory.{Advisory}
use Rattle.audit_advisory.specs.declared.settings.Settings.{Settings}
use Rattle.upgrade_plan.specs.Candidates.{is_candidate, place_of}

-- a string is lower than another
abbrev pub is_lower : List ℕ → List ℕ → Bool
is_lower text than = is_lt (option_cmp precedence (place_of text) (place_of than))

-- the lower of two, if there are two; the first if they are equally low
abbrev pub lower_of : Option (List ℕ) → Option (List ℕ) → Option (List ℕ)
lower_of None found = found
lower_of (Some least) None = Some least
lower_of (Some least) (Some found) = if is_lower found least then Some found else Some least

-- a string passes, none that passes is lower, and each earlier one that passes is higher: so it is
-- the first of those that are equally low
pub record IsFirstLowest (test : List ℕ → Bool) (texts : List (List ℕ)) (least : List ℕ)
    : Type 0 where
  pub passes : test least ≡ true
  pub none_lower : AllByRecursion (λ t. test t ≡ true → is_lower t least ≡ false) texts
  pub front : List (List ℕ)
  pub behind : List (List ℕ)
  pub stands : texts ≡ front ++ least ∷ behind
  pub first : AllByRecursion (λ t. test t ≡ true → is_lower least t ≡ true) front

-- the lowest that passes, the first if several are equally low; none if no string passes
abbrev pub IsLowest : (List ℕ → Bool) → List (List ℕ) → Option (List ℕ) → Type 0
IsLowest test texts None = AllByRecursion (λ t. test t ≡ false) texts
IsLowest test texts (Some least) = IsFirstLowest test texts least

abbrev pub texts_of : List IndexVersion → List (List ℕ)
texts_of versions = map (λ v. v.version) versions

-- the lowest of the candidates in the lines
abbrev pub IsLeastSafe : Settings → List Advisory → Package → List IndexVersion
    → Option (List ℕ) → Type 0
IsLeastSafe settings advisories p versions least =
    IsLowest (is_candidate settings advisories p versions) (texts_of versions) least
