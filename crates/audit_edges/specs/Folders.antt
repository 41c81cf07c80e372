-- The folder that a setting names.
use Rattle.std.specs.Prelude.{ℕ, List, [], ◌∷◌, Option, None, Some}

-- a setting that is absent or empty names none, and another folder is taken
abbrev pub folder_named : Option (List ℕ) → List ℕ → List ℕ
folder_named None unnamed = unnamed
folder_named (Some []) unnamed = unnamed
folder_named (Some (byte ∷ bytes)) unnamed = byte ∷ bytes
