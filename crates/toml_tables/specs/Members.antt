-- The value at a key of a table: one of a form, another one, or none (TOML 1.1).
use Rattle.std.specs.Prelude.{ℕ, List, [], ◌∷◌, Option, Some, None, option_map, option_and_then, pos}
use Rattle.toml.specs.Data.{Data, integer, Items, no_items, item, as_array, as_str}

-- a value of this form
abbrev pub required : {A : Type 0} → (Data → Option A) → Option Data → Option A
required form None = None
required form (Some d) = form d

-- absent, or a value of this form
abbrev pub optional : {A : Type 0} → (Data → Option A) → Option Data → Option (Option A)
optional form None = Some None
optional form (Some d) = option_map Some (form d)

-- ---- forms, as well as `as_str`, `as_bool` and `as_table` of `toml`

-- a whole number that isn't negative
abbrev pub natural : Data → Option ℕ
natural (integer (pos n)) = Some n
natural _ = None

abbrev pub texts_in : Items → Option (List (List ℕ))
texts_in no_items = Some []
texts_in (item d ds) = option_and_then (λ t. option_map (λ ts. t ∷ ts) (texts_in ds)) (as_str d)

-- an array of strings
abbrev pub texts_of : Data → Option (List (List ℕ))
texts_of d = option_and_then texts_in (as_array d)

-- absent, which is no string, or an array of strings
abbrev pub optional_texts : Option Data → Option (List (List ℕ))
optional_texts None = Some []
optional_texts (Some d) = texts_of d
