-- The markers of a download template.
use Rattle.std.specs.Prelude.{◌≢◌, ℕ, codes, List, ◌++◌}

-- a `{` before the text isn't the start of a marker
pub record EndsNoMarker (text : List ℕ) : Type 0 where
  pub crate : (rest : List ℕ) → text ≢ codes "crate}" ++ rest
  pub version : (rest : List ℕ) → text ≢ codes "version}" ++ rest
  pub prefix : (rest : List ℕ) → text ≢ codes "prefix}" ++ rest
  pub lowerprefix : (rest : List ℕ) → text ≢ codes "lowerprefix}" ++ rest
