-- There are no more pieces than bytes.
use Rattle.std.proofs.Common.{ℕ, ◌+◌, ◌≤◌, ◌==◌, List, [], ◌∷◌, length, Bool, true, false, cond, arith, lit≤}
use Rattle.tame_names.specs.Pieces.{onto_first, pieces}

one_more : (t : Bool) (b : ℕ) (rest : List (List ℕ)) (n : ℕ) → length rest ≤ n → length (cond t ([] ∷ rest) (onto_first b rest)) ≤ n + 1
one_more true b rest n h = omega arith
one_more false b [] n h = omega arith
one_more false b (q ∷ qs) n h = omega arith

pub length-pieces : (n : ℕ) (bs : List ℕ) → length (pieces n bs) ≤ length bs
length-pieces n [] = lit≤ tt
length-pieces n (b ∷ bs) =
    let more = one_more (b == n) b (pieces n bs) (length bs) (length-pieces n bs) in
    omega (arith, more)
