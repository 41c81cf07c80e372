-- Comparators on whose releases intervals and cargo's own matching agree.
use Rattle.std.specs.Prelude.{ℕ, ◌≡◌, ◌<◌, ◌-◌, ◌^◌, List, [], ◌∷◌, Option, Some, None, ⊤}
use Rattle.semver.specs.Parse.{Held}
use Rattle.semver.specs.declared.Op.{Op}
use Rattle.semver.specs.declared.Op.TheVariants as op

-- a part that is missing, or has a next one in 64 bits
abbrev pub HasNext : Option ℕ → Type 0
HasNext None = ⊤
HasNext (Some n) = n < 2 ^ 64 - 1

-- no part is stated after a missing one, and `*` leaves at least one out
abbrev pub StandsInOrder : Op → Option ℕ → Option ℕ → Type 0
StandsInOrder o None None = ⊤
StandsInOrder o None (Some p) = ⊥
StandsInOrder o (Some m) None = ⊤
StandsInOrder op.Wildcard (Some m) (Some p) = ⊥
StandsInOrder _ (Some m) (Some p) = ⊤

-- a comparator without a pre-release, all of whose parts can be raised
pub record IsPlain (c : Held) : Type 0 where
  pub major : c.1 < 2 ^ 64 - 1
  pub minor : HasNext c.2
  pub patch : HasNext c.3
  pub in_order : StandsInOrder c.0 c.2 c.3
  pub release : c.4 ≡ []

-- all comparators are plain
abbrev pub ArePlain : List Held → Type 0
ArePlain [] = ⊤
ArePlain (c ∷ cs) = IsPlain c × ArePlain cs
