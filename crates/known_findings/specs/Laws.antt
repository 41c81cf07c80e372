-- Words of the laws on findings and baselines (this project).
use Rattle.std.specs.Prelude.{◌≡◌, ℕ, List, ◌++◌, All, codes, false, map}
use Rattle.std.specs.Cmp.Lexicographic.{slice_cmp}
use Rattle.std.specs.List.Sorted.{IsStrictlySortedBy}
use Rattle.std.specs.Ordering.{nat_cmp}
use Rattle.json.specs.Print.{quoted}
use Rattle.serde_json.specs.Data.{Data, array, item, no_items, string}
use Rattle.known_findings.specs.Baselines.{is_broken}
use Rattle.known_findings.specs.Findings.{is_among, kind_word, line}
use Rattle.known_findings.specs.declared.findings.Finding.{Finding}

-- ---- lines

-- a line byte by byte: the array's brackets, and the quoted texts with commas between
abbrev pub array_text : Finding → List ℕ
array_text f =
    codes "[" ++ quoted (kind_word f.kind) ++ codes "," ++ quoted f.id ++ codes "," ++ quoted f.name
    ++ codes "," ++ quoted f.version ++ codes "," ++ quoted f.source ++ codes "]"

-- the array of exactly these five texts
abbrev pub array_value : Finding → Data
array_value f = array (item (string (kind_word f.kind)) (item (string f.id) (item (string f.name)
    (item (string f.version) (item (string f.source) no_items)))))

-- each of these lines is blank or a finding
abbrev pub NoneIsBroken : List (List ℕ) → Type 0
NoneIsBroken ls = All (λ l. is_broken l ≡ false) ls

-- ---- sets

-- the lines ascend in byte order, none twice
abbrev pub AreInOrder : List Finding → Type 0
AreInOrder fs = IsStrictlySortedBy (slice_cmp nat_cmp) (map line fs)

-- the same findings, in any order and any number
abbrev pub HaveSame : List Finding → List Finding → Type 0
HaveSame fs gs = (f : Finding) → is_among f fs ≡ is_among f gs

-- the set of these findings, in the byte order of their lines
pub record IsSetOf (findings set : List Finding) : Type 0 where
  pub ordered : AreInOrder set
  pub same : HaveSame set findings
