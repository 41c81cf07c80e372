-- A configuration that was read.
use Rattle.std.proofs.Common.{◌≡◌, ◌⊎◌, inl, inr, ℕ, List, Some, None, Result, Ok, Err, refl, sym, subst}
use Rattle.std.specs.Prelude.{IfOk, IfErr}
use Rattle.tame_names.specs.Standing.{Standing, File}
use Rattle.tame_names.specs.declared.errors.Error.{Error}
use Rattle.tame_names.specs.declared.errors.Error.TheVariants as error
use Rattle.tame_entry.specs.Config.{config_of}
use Rattle.tame_entry.specs.declared.config.IndexConfig.{IndexConfig}
use Rattle.tame_sparse.specs.Urls.{IsConfigRead}

pub config_read : (told : Type 0) (place bytes : List ℕ) (standing : Standing) (r : Result IndexConfig Error) → (told → standing ≡ File bytes) → IfOk r (λ config. config_of bytes ≡ Some config)
    → IfErr r (λ e. (e ≡ error.NoMemory) ⊎ ((e ≡ error.Json 0) × (config_of bytes ≡ None))) → IsConfigRead told place standing r
config_read told place bytes standing (Ok config) is ok refused = λ t. (bytes, is t, ok)
config_read told place bytes standing (Err e) is ok (inl memory) = subst (λ (e : Error). IsConfigRead told place standing (Err e)) (sym memory) (inl refl)
config_read told place bytes standing (Err e) is ok (inr json) = subst (λ (e : Error). IsConfigRead told place standing (Err e)) (sym json.0) (refl, λ t. (bytes, is t, json.1))
