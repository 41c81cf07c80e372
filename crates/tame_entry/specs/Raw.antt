-- The version in a line, found without reading the line as JSON.
use Rattle.std.specs.Prelude.{ℕ, codes, List, [], ◌∷◌, length, take, drop, ◌-◌, ◌==◌, ◌&&◌, nat_le, nat_eq, slice_index, Bool, Option, Some, None, option_map, unwrap_or, if◌then◌else◌}
use Rattle.std.specs.List.{ends_with}
use Rattle.tame_names.specs.Utf8.{utf8_text}

-- what is before the first needle, and what is after it
abbrev pub cut_at : ℕ → List ℕ → Option (List ℕ × List ℕ)
cut_at needle [] = None
cut_at needle (b ∷ bs) =
    if b == needle then Some ([], bs) else option_map (λ p. (b ∷ p.0, p.1)) (cut_at needle bs)

abbrev pub onto_first : ℕ → List (List ℕ) → List (List ℕ)
onto_first b [] = []
onto_first b (part ∷ parts) = (b ∷ part) ∷ parts

-- the parts of a line that a comma ends
abbrev pub comma_parts : List ℕ → List (List ℕ)
comma_parts [] = []
comma_parts (b ∷ bs) = if b == 44 then [] ∷ comma_parts bs else onto_first b (comma_parts bs)

abbrev pub without_space : List ℕ → List ℕ
without_space [] = []
without_space (b ∷ bs) = if b == 32 then bs else b ∷ bs

abbrev pub between_quotes : List ℕ → List ℕ
between_quotes text =
    if nat_le 2 (length text) && slice_index text 0 == 34
    && slice_index text (length text - 1) == 34 then take (length text - 1 - 1) (drop 1 text)
    else []

-- what is between quotes, after one space that may come first
abbrev pub quoted_value : List ℕ → List ℕ
quoted_value text = between_quotes (without_space text)

abbrev pub names_version : List ℕ → Bool
names_version key = ends_with nat_eq key (codes "\"vers\"")

abbrev pub version_by : Option (List ℕ × List ℕ) → List ℕ → List ℕ
version_by None more = []
version_by (Some p) more = if names_version p.0 then quoted_value p.1 else more

-- the value of the first part whose key ends with `"vers"`; a part without a colon ends the search
abbrev pub version_in : List (List ℕ) → List ℕ
version_in [] = []
version_in (part ∷ parts) = version_by (cut_at 58 part) (version_in parts)

abbrev pub raw_version : List ℕ → List ℕ
raw_version line = unwrap_or (utf8_text (version_in (comma_parts line))) []
