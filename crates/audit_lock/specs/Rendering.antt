-- The inverse dependency tree of a package, as text.
use Rattle.std.specs.Prelude.{ℕ, zero, suc, codes, List, [], ◌∷◌, ◌++◌, length, map, get_or, set, replicate, Bool, true, false, not, if◌then◌else◌}
use Rattle.std.specs.List.{flat_map, count_by}
use Rattle.std.specs.Str.{encode_utf8_all}
use Rattle.audit_lock.specs.declared.resolving.Package.{Package}
use Rattle.audit_lock.specs.Parents.{parents_at, tree_of}

-- ---- a line

-- a package; for each level down to its own, whether further parents follow there; and whether the
-- package is opened here: it wasn't met before, and its parents are below
pub record Line : Type 0 where
  pub levels : List Bool
  pub place : ℕ
  pub opened : Bool

-- the mark of a line's own level, and that of a level above
abbrev pub mark : Bool → Bool → List ℕ
mark true true = encode_utf8_all (codes "├── ")
mark true false = encode_utf8_all (codes "└── ")
mark false true = encode_utf8_all (codes "│   ")
mark false false = codes "    "

abbrev pub is_empty : {A : Type 0} → List A → Bool
is_empty [] = true
is_empty (x ∷ xs) = false

-- a mark for each level, its own last
abbrev pub marks : List Bool → List ℕ
marks [] = []
marks (follows ∷ deeper) = mark (is_empty deeper) follows ++ marks deeper

-- `name version` and a newline
abbrev pub shown : Package → List ℕ
shown p = p.name ++ codes " " ++ p.version ++ codes "\n"

abbrev pub shown_at : List Package → ℕ → List ℕ
shown_at packages place = get_or (map shown packages) place []

abbrev pub line_text : List Package → Line → List ℕ
line_text packages line = marks line.levels ++ shown_at packages line.place

abbrev pub text_of : List Package → List Line → List ℕ
text_of packages lines = flat_map (line_text packages) lines

-- ---- the walk

-- the lines of a walk, and for each package whether it was met when the walk ends
pub record Walked : Type 0 where
  pub lines : List Line
  pub met : List Bool

-- the lines of a walk, then those of the walk that goes on from there
abbrev pub and_on : Walked → (List Bool → Walked) → Walked
and_on first rest = record {
  lines = first.lines ++ (rest first.met).lines;
  met = (rest first.met).met;
}

abbrev pub one_line : Bool → List Bool → ℕ → List Bool → Walked
one_line opened levels place met = record {
  lines = record { levels = levels; place = place; opened = opened } ∷ [];
  met = met;
}

-- these parents, one after the other, each one level deeper; `below` walks one of them
abbrev pub each_parent : (List Bool → ℕ → List Bool → Walked) → List Bool → List ℕ → List Bool
    → Walked
each_parent below levels [] met = record { lines = []; met = met }
each_parent below levels (p ∷ ps) met =
    and_on (below (levels ++ not (is_empty ps) ∷ []) p met) (each_parent below levels ps)

-- a package, and below it its parents unless it was met before. At most `deep` packages are opened
-- inside one another
abbrev pub walk : List (List ℕ) → ℕ → List Bool → ℕ → List Bool → Walked
walk tree zero levels place met = one_line false levels place met
walk tree (suc deep) levels place met =
    if get_or met place false then one_line false levels place met
    else and_on (one_line true levels place (set met place true))
    (each_parent (walk tree deep) levels (parents_at tree place))

-- how many packages are not met yet
abbrev pub unmet : List Bool → ℕ
unmet met = count_by not met

-- the lines of the tree of a package. Each package is opened once, so their number is deep enough
abbrev pub lines_of : List Package → ℕ → List Line
lines_of packages place =
    (walk (tree_of packages) (length packages) [] place (replicate (length packages) false)).lines

-- the tree of a package as text
abbrev pub rendering : List Package → ℕ → List ℕ
rendering packages place = text_of packages (lines_of packages place)
