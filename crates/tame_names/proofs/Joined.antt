-- The pieces, joined by the needle, are the bytes again.
use Rattle.std.proofs.Common.{◌≡◌, ℕ, ◌==◌, List, [], ◌∷◌, ◌++◌, Bool, true, false, cond, refl, sym, ap}
use Rattle.std.proofs.lemmas.Bool.Decides.{nat_tests}
use Rattle.std.specs.List.{join_with_byte}
use Rattle.std.proofs.Common.{arith}
use Rattle.tame_names.specs.Pieces.{onto_first, pieces, ends_with}

same : (b n : ℕ) → (b == n) ≡ true → b ≡ n
same b n h = grind (arith, nat_tests)

some_piece : (t : Bool) (b : ℕ) (rest : List (List ℕ)) → (p : List ℕ) × (ps : List (List ℕ)) × (cond t ([] ∷ rest) (onto_first b rest) ≡ p ∷ ps)
some_piece true b rest = ([], rest, refl)
some_piece false b [] = (b ∷ [], [], refl)
some_piece false b (q ∷ qs) = (b ∷ q, qs, refl)

join_more : (t : Bool) (n b : ℕ) (p : List ℕ) (ps : List (List ℕ)) → (t ≡ true → b ≡ n) → join_with_byte n (cond t ([] ∷ p ∷ ps) (onto_first b (p ∷ ps))) ≡ b ∷ join_with_byte n (p ∷ ps)
join_more true n b p ps e = ap (λ x. x ∷ join_with_byte n (p ∷ ps)) (sym (e refl))
join_more false n b p [] e = refl
join_more false n b p (q ∷ qs) e = refl

join_one : (t : Bool) (n b : ℕ) → (t ≡ true → b ≡ n) → b ∷ [] ≡ join_with_byte n (cond t ([] ∷ []) (onto_first b [])) ++ cond t (n ∷ []) []
join_one true n b e = ap (λ x. x ∷ []) (e refl)
join_one false n b e = refl

pub joined : (n : ℕ) (bs : List ℕ) → bs ≡ join_with_byte n (pieces n bs) ++ cond (ends_with n bs) (n ∷ []) []
joined n [] = refl
joined n (b ∷ []) = join_one (b == n) n b (same b n)
joined n (b ∷ c ∷ bs) =
    let some = some_piece (c == n) c (pieces n bs) in
    let whole = rw some.2 at (joined n (c ∷ bs)) in
    rw (some.2, join_more (b == n) n b some.0 some.1 (same b n)) (ap (λ xs. b ∷ xs) whole)
