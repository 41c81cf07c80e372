-- The first version of a crate.
use Rattle.std.proofs.Common.{◌≡◌, ◌<◌, ℕ, List, [], ◌∷◌, length, Some, arith, refl}
use Rattle.std.specs.Prelude.{slice_get}
use Rattle.tame_records.specs.declared.versions.IndexVersion.{IndexVersion}
use Rattle.tame_sparse.specs.Git.{first_name}

pub named_first : (vs : List IndexVersion) (name : List ℕ) → 0 < length vs → ((first : IndexVersion) → slice_get vs 0 ≡ Some first → name ≡ first.name) → name ≡ first_name vs
named_first [] name some h = absurd (omega (arith, some))
named_first (v ∷ vs) name some h = h v refl
