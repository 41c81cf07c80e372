-- What the tree of a package shows, however it is walked.
use Rattle.std.specs.Prelude.{◌≡◌, ◌+◌, ◌<◌, ◌≤◌, ◌↔◌, ℕ, suc, List, [], ◌∷◌, ◌++◌, length, map, Bool, true, not, ◌&&◌, ◌==◌, nat_lt, IsTrue, ⊤, if◌then◌else◌}
use Rattle.std.specs.List.{filter, list_any}
use Rattle.audit_lock.specs.declared.resolving.Package.{Package}
use Rattle.audit_lock.specs.Parents.{depends_on, parents_of}
use Rattle.audit_lock.specs.Rendering.{Line, is_empty}

-- the first package depends on the second: it is that one, or depends on one that depends on it
pub data Reaches (packages : List Package) : ℕ → ℕ → Type 0 where
  itself : (place : ℕ) → Reaches packages place place
  over : (other next place : ℕ) → other < length packages → depends_on packages next other ≡ true
      → Reaches packages next place → Reaches packages other place

-- whether a package has a line
abbrev pub has_line : ℕ → List Line → Bool
has_line place lines = list_any (λ line. line.place == place) lines

-- how often a package is opened
abbrev pub openings : ℕ → List Line → ℕ
openings place [] = 0
openings place (line ∷ lines) =
    (if line.opened && (line.place == place) then 1 else 0) + openings place lines

-- ---- what is below a line

-- the lines before the first that is no deeper than this many levels
abbrev pub below : ℕ → List Line → List Line
below depth [] = []
below depth (line ∷ lines) =
    if nat_lt depth (length line.levels) then line ∷ below depth lines else []

-- those of them that are one level deeper
abbrev pub next_level : ℕ → List Line → List (List Bool × ℕ)
next_level depth lines =
    map (λ line. (line.levels, line.place))
    (filter (λ line. length line.levels == suc depth) (below depth lines))

-- these packages one level deeper; further ones follow each but the last
abbrev pub children : List Bool → List ℕ → List (List Bool × ℕ)
children levels [] = []
children levels (p ∷ ps) = (levels ++ not (is_empty ps) ∷ [], p) ∷ children levels ps

-- the first line, if any, is no deeper than this many levels
abbrev pub GoesOnWithin : ℕ → List Line → Type 0
GoesOnWithin depth [] = ⊤
GoesOnWithin depth (line ∷ lines) = length line.levels ≤ depth

-- all lines are deeper than this many levels
abbrev pub AllFurther : ℕ → List Line → Type 0
AllFurther depth [] = ⊤
AllFurther depth (line ∷ lines) = (depth < length line.levels) × AllFurther depth lines

-- one level below an opened line are its package's parents in their order; below any other line is
-- nothing; no level is left out
abbrev pub HasParents : (ℕ → List ℕ) → List Line → Type 0
HasParents parents [] = ⊤
HasParents parents (line ∷ lines) =
    (next_level (length line.levels) lines
    ≡ (if line.opened then children line.levels (parents line.place) else []))
    × GoesOnWithin (suc (length line.levels)) lines
    × HasParents parents lines

-- a line is opened if its package has no earlier line
abbrev pub OpensFirst : List Line → List Line → Type 0
OpensFirst earlier [] = ⊤
OpensFirst earlier (line ∷ lines) =
    (line.opened ≡ not (has_line line.place earlier)) × OpensFirst (earlier ++ line ∷ []) lines

-- the lines of the tree of a package: the first three parts determine them, the last two follow
pub record IsTree (packages : List Package) (place : ℕ) (lines : List Line) : Type 0 where
  -- it is first, without a mark, and all others are below it
  pub first : (more : List Line) × (lines ≡ record {
    levels = [];
    place = place;
    opened = true;
  } ∷ more) × AllFurther 0 more
  -- below each package are its parents, if it was not met before
  pub parents : HasParents (parents_of packages) lines
  pub opened : OpensFirst [] lines
  -- exactly it and the packages that depend on it, directly or through others, have a line
  pub reached : (other : ℕ) → IsTrue (has_line other lines) ↔ Reaches packages other place
  -- each of them is opened once
  pub once : (other : ℕ) → openings other lines ≡ (if has_line other lines then 1 else 0)
