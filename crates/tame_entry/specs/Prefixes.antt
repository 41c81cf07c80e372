-- Text without its prefix.
use Rattle.std.specs.Prelude.{ℕ, List, [], ◌∷◌, ◌==◌, Option, Some, None, if◌then◌else◌}

-- what follows a prefix, if the text begins with it
abbrev pub without_prefix : List ℕ → List ℕ → Option (List ℕ)
without_prefix [] text = Some text
without_prefix (p ∷ ps) [] = None
without_prefix (p ∷ ps) (b ∷ bs) = if b == p then without_prefix ps bs else None
