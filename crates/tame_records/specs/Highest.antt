-- The highest versions of a crate (Semantic Versioning 2.0.0, section 11, then build metadata as
-- the crate `semver` orders it).
use Rattle.std.specs.Prelude.{◌≡◌, ℕ, suc, List, IsSomeAnd, true, false, length, take, drop, ◌==◌, Option, Some, None, option_and_then, slice_get, if◌then◌else◌}
use Rattle.std.specs.List.{AllByRecursion}
use Rattle.std.specs.Ordering.{is_lt, nat_cmp, ordering_then}
use Rattle.std.specs.Option.{option_cmp}
use Rattle.std.specs.Result.{result_ok}
use Rattle.std.specs.declared.cmp.Ordering.{Ordering}
use Rattle.semver.specs.Order.{build_cmp, pre_cmp}
use Rattle.semver.specs.Parse.{Parts, version_parts}
use Rattle.tame_records.specs.declared.versions.IndexVersion.{IndexVersion}

-- the order of two versions by their numbers, their pre-releases and their build metadata
abbrev pub parts_cmp : Parts → Parts → Ordering
parts_cmp a b =
    ordering_then (nat_cmp a.0 b.0)
    (ordering_then (nat_cmp a.1 b.1)
    (ordering_then (nat_cmp a.2 b.2) (ordering_then (pre_cmp a.3 b.3) (build_cmp a.4 b.4))))

-- the parts of a version's text; a text that is no version has none
abbrev pub precedence : IndexVersion → Option Parts
precedence v = result_ok (version_parts v.version)

-- the same, for versions that aren't yanked and have no pre-release
abbrev pub normal_precedence : IndexVersion → Option Parts
normal_precedence v =
    if v.yanked then None else option_and_then (λ p. if length p.3 == 0 then Some p else None)
    (precedence v)

-- two versions by their ranks; having none is lowest
abbrev pub by_precedence : IndexVersion → IndexVersion → Ordering
by_precedence v w = option_cmp parts_cmp (precedence v) (precedence w)

abbrev pub by_normal_precedence : IndexVersion → IndexVersion → Ordering
by_normal_precedence v w = option_cmp parts_cmp (normal_precedence v) (normal_precedence w)

-- the greatest of a list, the last of equal ones: it is at this place, none before it is greater,
-- and each after it is less
pub record IsLastGreatest {A : Type 0} (cmp : A → A → Ordering) (xs : List A) (place : ℕ)
    (best : A) : Type 0 where
  pub at : slice_get xs place ≡ Some best
  pub none_greater : AllByRecursion (λ x. is_lt (cmp best x) ≡ false) (take place xs)
  pub all_less : AllByRecursion (λ x. is_lt (cmp x best) ≡ true) (drop (suc place) xs)

-- the highest version
abbrev pub IsHighest : List IndexVersion → IndexVersion → Type 0
IsHighest versions v = (place : ℕ) × IsLastGreatest by_precedence versions place v

-- not yanked, and a version without a pre-release
pub record IsNormal (v : IndexVersion) : Type 0 where
  pub not_yanked : v.yanked ≡ false
  pub no_pre : IsSomeAnd (precedence v) (λ p. length p.3 ≡ 0)

-- the highest of the normal versions; none exactly if no version is normal
abbrev pub IsHighestNormal : List IndexVersion → Option IndexVersion → Type 0
IsHighestNormal versions None = AllByRecursion (λ v. ¬ (IsNormal v)) versions
IsHighestNormal versions (Some v) =
    IsNormal v × ((place : ℕ) × IsLastGreatest by_normal_precedence versions place v)
