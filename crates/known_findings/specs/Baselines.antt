-- Baselines: texts of lines, each a finding, as the set of these findings (this project).
use Rattle.std.specs.Prelude.{ℕ, suc, List, [], ◌∷◌, ◌++◌, Bool, not, ◌&&◌, bytes_eq, flat_map, fold, map, Option, Some, None, is_none, if◌then◌else◌, Result, Ok, Err}
use Rattle.std.specs.Char.{is_whitespace}
use Rattle.std.specs.Cmp.Lexicographic.{pointwise, slice_cmp}
use Rattle.std.specs.List.{list_all}
use Rattle.std.specs.Ordering.{match_ordering, nat_cmp, on}
use Rattle.std.specs.Option.{option_to_list}
use Rattle.std.specs.Str.{chars}
use Rattle.tame_names.specs.Pieces.{pieces}
use Rattle.known_findings.specs.Findings.{finding_of, line}
use Rattle.known_findings.specs.declared.baselines.BaselineFault.{BaselineFault}
use Rattle.known_findings.specs.declared.baselines.BaselineFault.TheVariants as fault
use Rattle.known_findings.specs.declared.findings.Finding.{Finding}

-- ---- lines

-- white space alone
abbrev pub is_blank : List ℕ → Bool
is_blank text = list_all is_whitespace (chars text)

-- no finding, though it isn't blank
abbrev pub is_broken : List ℕ → Bool
is_broken text = not (is_blank text) && is_none (finding_of text)

-- the first line that is broken, counted from a number
abbrev pub first_broken : ℕ → List (List ℕ) → Option ℕ
first_broken n [] = None
first_broken n (l ∷ ls) = if is_broken l then Some n else first_broken (suc n) ls

-- the finding of a line that has one
abbrev pub line_findings : List ℕ → List Finding
line_findings text = if is_blank text then [] else option_to_list (finding_of text)

-- the findings of the lines that have one, in their order
abbrev pub findings_in : List (List ℕ) → List Finding
findings_in ls = flat_map line_findings ls

-- ---- the set

-- with one finding more, at its line's position in byte order; findings of one line are one
abbrev pub put : List Finding → Finding → List Finding
put [] f = f ∷ []
put (g ∷ gs) f =
    match_ordering (slice_cmp nat_cmp (line f) (line g)) (f ∷ g ∷ gs) (f ∷ gs) (g ∷ put gs f)

abbrev pub put_all : List Finding → List Finding → List Finding
put_all = fold put

-- findings as a set, by the byte order of their lines
abbrev pub listed : List Finding → List Finding
listed fs = put_all [] fs

-- two baselines are equal: by their lines
abbrev pub is_equal : List Finding → List Finding → Bool
is_equal fs gs = on (map line) (pointwise bytes_eq) fs gs

-- ---- a text

abbrev pub unless_broken : Option ℕ → List Finding → Result (List Finding) BaselineFault
unless_broken None fs = Ok fs
unless_broken (Some n) fs = Err (fault.Line n)

-- the baseline of a text, or the first line that is broken
abbrev pub baseline_of : List ℕ → Result (List Finding) BaselineFault
baseline_of text =
    unless_broken (first_broken 0 (pieces 10 text)) (listed (findings_in (pieces 10 text)))

-- lines, each ended by a newline
abbrev pub joined : List (List ℕ) → List ℕ
joined ls = flat_map (λ l. l ++ 10 ∷ []) ls

-- what findings write: their lines
unfoldable pub written : List Finding → List ℕ
written fs = joined (map line fs)
