-- Which folders a disk creates: those above a file, given by the file's path (this project).
use Rattle.std.specs.Prelude.{◌≡◌, ℕ, List, ◌++◌}
use Rattle.std.specs.List.{AllByRecursion}

-- the folders above some more paths were created, in their order, and P allows each of these paths
abbrev pub MakesOnly : (List ℕ → Type 0) → List (List ℕ) → List (List ℕ) → Type 0
MakesOnly P before now = (added : List (List ℕ)) × (now ≡ before ++ added) × AllByRecursion P added
