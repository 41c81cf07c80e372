-- Symbols of a binary, and the function paths that name one of them (this project, after
-- cargo-audit).
use Rattle.std.specs.Prelude.{◌≡◌, ◌⊎◌, ℕ, List, [], ◌∷◌, ◌++◌, map, Bool, true, false, ◌&&◌, ◌==◌, bytes_eq, Option, Some, None, if◌then◌else◌}
use Rattle.std.specs.List.{before_first, list_any}

-- a symbol, or the path of a function, by its segments
abbrev pub Segments : Type 0
Segments = List (List ℕ)

-- a segment up to its first `<`
abbrev pub plain : List ℕ → List ℕ
plain segment = before_first (λ c. c == 60) segment

-- ---- first, middle and last

-- the segments before the last one
abbrev pub front : List ℕ → Segments → Segments
front s [] = []
front s (t ∷ ts) = s ∷ front t ts

abbrev pub last : List ℕ → Segments → List ℕ
last s [] = s
last s (t ∷ ts) = last t ts

-- the first segment, those in the middle, and the last; nothing if there are fewer than two
abbrev pub ends_of : Segments → Option (List ℕ × Segments × List ℕ)
ends_of [] = None
ends_of (s ∷ []) = None
ends_of (s ∷ t ∷ ts) = Some (s, front t ts, last t ts)

-- ---- which paths name a symbol

-- some segments are among others, in their order
abbrev pub is_subsequence : Segments → Segments → Bool
is_subsequence [] others = true
is_subsequence (s ∷ ss) [] = false
is_subsequence (s ∷ ss) (t ∷ ts) =
    if bytes_eq s t then is_subsequence ss ts else is_subsequence (s ∷ ss) ts

abbrev pub names_between : Option (List ℕ × Segments × List ℕ)
    → Option (List ℕ × Segments × List ℕ) → Bool
names_between (Some w) (Some s) =
    bytes_eq w.0 s.0 && is_subsequence w.1 s.1 && bytes_eq w.2 s.2
names_between (Some w) None = false
names_between None s = false

-- a path of one segment names only that symbol; a longer one names a symbol with the same first
-- and last segments, whose middle contains its own; one without segments names none
abbrev pub names : Segments → Segments → Bool
names (w ∷ []) (s ∷ []) = bytes_eq w s
names path symbol = names_between (ends_of path) (ends_of symbol)

-- the symbols keep a path whose plain segments name one of them
abbrev pub is_kept : List Segments → Segments → Bool
is_kept symbols path = list_any (names (map plain path)) symbols

-- ---- the same, by what may be left out

-- what remains of a list by flags
abbrev pub chosen : List Bool → Segments → Segments
chosen [] ss = []
chosen (stays ∷ flags) [] = []
chosen (stays ∷ flags) (s ∷ ss) = if stays then s ∷ chosen flags ss else chosen flags ss

-- the path is the symbol, or what is left of it if segments between its first and its last are
-- left out
abbrev pub Names : Segments → Segments → Type 0
Names path symbol =
    ((only : List ℕ) × (path ≡ only ∷ []) × (symbol ≡ only ∷ []))
    ⊎ ((first last : List ℕ) × (middle : Segments) × (flags : List Bool)
    × (path ≡ first ∷ (chosen flags middle ++ last ∷ []))
    × (symbol ≡ first ∷ (middle ++ last ∷ [])))
